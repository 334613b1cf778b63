use Rattle.std.proofs.Common.{◌≡◌, ◌<◌, false, Some, length, refl, rules, sym, ap, option_map}
use Rattle.c_tokens.specs.Lines.{Logical, LogicalLine}
use Rattle.c_tokens.specs.Reaching.{logical_of}
use Rattle.c_tokens.proofs.lines.Lines.next.Goals as goal

pub returns-clause-line : goal.returns-clause-line
returns-clause-line c =
    let l : Logical = logical_of c.in-Some.reach in
    let h : LogicalLine false c.self.inside.rest.now (option_map logical_of c.in_ok-reach.field-0) = c.in_ok-reach.ensures.line in
    let h1 : LogicalLine false c.self.inside.rest.now (Some l) = rw c.in-Some.is at h in
    let some : 0 < length c.self.inside.rest.now = search rules in
    rw (← c.self.view_is, c.begins_hash.ensures, c.as_slice.ensures.value) (some, l, h1, refl, refl)
