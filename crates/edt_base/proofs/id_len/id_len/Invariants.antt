use Rattle.std.proofs.Common.{◌≡◌, ◌+◌, ◌-◌, ◌^◌, ◌<◌, length, min}
use Rattle.edt_base.specs.Ids.{id_size, id_rest}
use Rattle.edt_base.proofs.id_len.id_len.Given as goal

abbrev pub invariant-loop-byte : goal.invariant-loop-byte
invariant-loop-byte l = (l.len < 2 ^ 64) × (min (l.len + length (id_rest l.within l.left)) (2 ^ 64 - 1) ≡ id_size l.path)

abbrev pub decreases-loop-byte : goal.decreases-loop-byte
decreases-loop-byte l = length l.left
