use Rattle.std.proofs.Common.{◌≡◌, ◌+◌, ◌≤◌, length, ℕ, Option, false}
use Rattle.c_tokens.specs.Lines.{Logical, LogicalLine, going_on}
use Rattle.c_tokens.proofs.lines.logical_line.Given as goal

abbrev pub invariant-lines : goal.invariant-lines
invariant-lines l = ((o : Option Logical) → LogicalLine l.commented l.rest o → LogicalLine false l.text (going_on l.toks.items l.newlines o))
    × (l.newlines + length l.rest ≤ length l.text)

abbrev pub decreases-lines : goal.decreases-lines
decreases-lines l = length l.rest
