use Rattle.std.proofs.Common.{◌≡◌, ◌+◌, ◌-◌, ◌^◌, ◌<◌, ◌++◌, codes, length, min}
use Rattle.std.specs.List.{flat_map}
use Rattle.dts_print.specs.Printed.{number_text}
use Rattle.dts_print.specs.Inner.Numbers.{numbers_of}
use Rattle.dts_print.proofs.length.further_numbers_len.Given as goal

abbrev pub invariant-loop-number : goal.invariant-loop-number
invariant-loop-number l =
    (l.len < 2 ^ 64) × (min (l.len + length (flat_map (λ n. codes " " ++ number_text n) (numbers_of l.width l.left))) (2 ^ 64 - 1)
    ≡ min (length (flat_map (λ n. codes " " ++ number_text n) (numbers_of l.width l.bytes))) (2 ^ 64 - 1))

abbrev pub decreases-loop-number : goal.decreases-loop-number
decreases-loop-number l = length (numbers_of l.width l.left)
