use Rattle.std.proofs.Common.{◌≡◌, ◌≤◌, ◌<◌, ◌+◌, length, rules, arith, sym}
use Rattle.c_tokens.proofs.LineLaws.{Joined, joined_of, leads_whole, leads_none, leads_open, leads_on, leads_start}
use Rattle.c_tokens.proofs.lines.logical_line.Goals as goal

pub returns-in-Whole-clause-line : goal.returns-in-Whole-clause-line
returns-in-Whole-clause-line c =
    leads_whole _ _ _ _ c.in_ok-behind.behind _ _ _
    (joined_of _ _ _ _ _ c.in_ok-behind.behind _ _ _ _ c.clear.ensures.items c.in_ok-behind.ensures.line c.as_slice.ensures.value c.in_ok-lex_line.ensures c.in-Whole.is)
    c.lines.invariant.0

pub returns-in-NoToken-clause-line : goal.returns-in-NoToken-clause-line
returns-in-NoToken-clause-line c =
    leads_none _ _ _ _ c.in_ok-behind.behind _ _ _
    (joined_of _ _ _ _ _ c.in_ok-behind.behind _ _ _ _ c.clear.ensures.items c.in_ok-behind.ensures.line c.as_slice.ensures.value c.in_ok-lex_line.ensures c.in-NoToken.is)
    c.lines.invariant.0

pub returns-then-is_empty-clause-line : goal.returns-then-is_empty-clause-line
returns-then-is_empty-clause-line c =
    leads_open _ _ _ _ c.in_ok-behind.behind _ _ _
    (joined_of _ _ _ _ _ c.in_ok-behind.behind _ _ _ _ c.clear.ensures.items c.in_ok-behind.ensures.line c.as_slice.ensures.value c.in_ok-lex_line.ensures c.in-Unclosed.is)
    (search rules) c.lines.invariant.0

pub lines-preserved : goal.lines-preserved
lines-preserved c =
    let some : 0 < length c.in_ok-behind.behind.rest.now = search rules in (
      leads_on _ _ _ _ c.in_ok-behind.behind _ _ _
          (joined_of _ _ _ _ _ c.in_ok-behind.behind _ _ _ _ c.clear.ensures.items c.in_ok-behind.ensures.line c.as_slice.ensures.value c.in_ok-lex_line.ensures c.in-Unclosed.is)
          some c.lines.invariant.0,
      search rules,
    )
