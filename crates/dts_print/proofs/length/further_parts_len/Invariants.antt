use Rattle.std.proofs.Common.{◌≡◌, ◌-◌, ◌^◌, ◌++◌, codes, length, min, take}
use Rattle.std.specs.List.{flat_map}
use Rattle.dts_print.specs.Printed.{part_text}
use Rattle.dts_print.proofs.length.further_parts_len.Given as goal

abbrev pub invariant-loop-part : goal.invariant-loop-part
invariant-loop-part l = l.len ≡ min (length (flat_map (λ p. codes ", " ++ part_text p) (take l.part-index l.parts))) (2 ^ 64 - 1)
