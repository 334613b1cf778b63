use Rattle.std.proofs.Common.{◌≡◌, ◌≤◌, ◌+◌, length, rules, arith}
use Rattle.c_tokens.proofs.CutLaws.{Parts, parts_of, joined_last, joined_ends, joined_more}
use Rattle.c_tokens.proofs.join.join_line.Goals as goal

pub returns-in_default-clause-line : goal.returns-in_default-clause-line
returns-in_default-clause-line c =
    let p = parts_of _ _ _ _ c.line_length.ensures.is c.split_at.ensures.front c.split_at.ensures.back in
    joined_last _ _ _ _ _ _ _ p (search rules) c.in_ok-extend_from_slice.ensures.items c.loop-after.invariant.0

pub returns-in_default-before_backslash-clause-line : goal.returns-in_default-before_backslash-clause-line
returns-in_default-before_backslash-clause-line c =
    let p = parts_of _ _ _ _ c.line_length.ensures.is c.split_at.ensures.front c.split_at.ensures.back in
    joined_ends _ _ _ _ _ _ _ _ _ p c.in-Some.ensures.cases.0 (search rules) c.in_ok-extend_from_slice-2.ensures.items c.loop-after.invariant.0

pub loop-after-preserved : goal.loop-after-preserved
loop-after-preserved c =
    let p = parts_of _ _ _ _ c.line_length.ensures.is c.split_at.ensures.front c.split_at.ensures.back in
    (joined_more _ _ _ _ _ _ _ _ _ _ p c.in-Some.ensures.cases.0 c.in-Some-before_backslash.ensures c.in_ok-extend_from_slice-3.ensures.items c.loop-after.invariant.0, search rules)
