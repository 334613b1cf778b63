use Rattle.std.proofs.Common.{◌≡◌, ◌+◌, ◌-◌, ◌^◌, ◌<◌, length, min}
use Rattle.dt_names.specs.Inner.Ids.{id_left}
use Rattle.dt_names.specs.Inner.Lengths.{spelled_size}
use Rattle.dt_names.proofs.pieces.names_len.Given as goal

abbrev pub invariant-loop-piece : goal.invariant-loop-piece
invariant-loop-piece l = (l.len < 2 ^ 64) × (min (l.len + spelled_size (id_left l.left)) (2 ^ 64 - 1) ≡ spelled_size (id_left l.fn.id))

abbrev pub decreases-loop-piece : goal.decreases-loop-piece
decreases-loop-piece l = length (id_left l.left)
