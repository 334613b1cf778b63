use Rattle.std.proofs.Common.{◌≡◌, ◌+◌, ◌-◌, ◌^◌, ◌<◌, length, min}
use Rattle.dt_names.specs.Inner.Left.{behind_id}
use Rattle.dt_names.specs.Inner.Lengths.{spelled_size}
use Rattle.dt_names.proofs.length.behind_len.Given as goal

abbrev pub invariant-loop-word : goal.invariant-loop-word
invariant-loop-word l = (l.len < 2 ^ 64) × (min (l.len + spelled_size (behind_id l.at l.ending l.list)) (2 ^ 64 - 1) ≡ spelled_size (behind_id l.fn.at l.fn.ending l.fn.list))

abbrev pub decreases-loop-word : goal.decreases-loop-word
decreases-loop-word l = length (behind_id l.at l.ending l.list)
