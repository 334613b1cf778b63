use Rattle.std.proofs.Common.{◌≡◌, ◌+◌, ◌-◌, ◌^◌, ◌<◌, drop, length, min}
use Rattle.edt_base.specs.NodeData.{bytes_of}
use Rattle.edt_base.proofs.value.byte_len.Given as goal

abbrev pub invariant-loop-part : goal.invariant-loop-part
invariant-loop-part l = (l.len < 2 ^ 64) × (min (l.len + length (bytes_of (drop l.part-index l.parts))) (2 ^ 64 - 1) ≡ min (length (bytes_of l.parts)) (2 ^ 64 - 1))
