use Rattle.std.proofs.Common.{◌≡◌, ◌-◌, ◌^◌, length, min, take}
use Rattle.std.specs.List.{flat_map}
use Rattle.dts_print.specs.Printed.{escaped}
use Rattle.dts_print.proofs.length.escapes_len.Given as goal

abbrev pub invariant-loop-byte : goal.invariant-loop-byte
invariant-loop-byte l = l.len ≡ min (length (flat_map escaped (take l.byte-index l.text))) (2 ^ 64 - 1)
