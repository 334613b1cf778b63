use Rattle.std.proofs.Common.{◌≡◌, ◌-◌, ◌^◌, length, min, take}
use Rattle.std.specs.List.{flat_map}
use Rattle.dts_print.specs.Printed.{label_text}
use Rattle.dts_print.proofs.length.labels_len.Given as goal

abbrev pub invariant-loop-label : goal.invariant-loop-label
invariant-loop-label l = l.len ≡ min (length (flat_map label_text (take l.label-index l.labels))) (2 ^ 64 - 1)
