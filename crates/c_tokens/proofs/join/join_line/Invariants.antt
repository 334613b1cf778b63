use Rattle.std.proofs.Common.{◌≡◌, ◌+◌, ◌≤◌, length, ℕ}
use Rattle.c_tokens.specs.Lines.{cut}
use Rattle.c_tokens.specs.Joining.{joined_behind}
use Rattle.c_tokens.proofs.join.join_line.Given as goal

abbrev pub invariant-loop-after : goal.invariant-loop-after
invariant-loop-after l = (joined_behind l.joined.items l.newlines (cut l.rest) ≡ joined_behind l.initial.joined.items 0 (cut l.text))
    × (l.newlines + length l.rest ≤ length l.text)

abbrev pub decreases-loop-after : goal.decreases-loop-after
decreases-loop-after l = length l.rest
