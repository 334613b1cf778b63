use Rattle.std.proofs.Common.{◌≡◌, ◌+◌, ◌-◌, ◌^◌, ◌<◌, length, min}
use Rattle.std.specs.List.{flat_map}
use Rattle.dt_names.specs.Pieces.{escaped, quoted}
use Rattle.dt_names.proofs.length.quoted_len.Given as goal

abbrev pub invariant-loop-byte : goal.invariant-loop-byte
invariant-loop-byte l = (l.len < 2 ^ 64) × (min (l.len + length (flat_map escaped l.left)) (2 ^ 64 - 1) ≡ min (length (quoted l.text)) (2 ^ 64 - 1))

abbrev pub decreases-loop-byte : goal.decreases-loop-byte
decreases-loop-byte l = length l.left
