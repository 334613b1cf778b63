use Rattle.std.proofs.Common.{◌≡◌, ◌++◌, List, ℕ, codes, length, true}
use Rattle.std.specs.List.{flat_map}
use Rattle.edt_base.specs.Put.{Put}
use Rattle.dts_print.specs.Printed.{number_text}
use Rattle.dts_print.specs.Inner.Numbers.{numbers_of}
use Rattle.dts_print.proofs.part.put_further_numbers.Given as goal

-- the numbers so far were put, and those that are left are the rest
abbrev pub invariant-loop-number : goal.invariant-loop-number
invariant-loop-number g l =
    (text : List ℕ) × (text ++ flat_map (λ n. codes " " ++ number_text n) (numbers_of l.width l.left) ≡ flat_map (λ n. codes " " ++ number_text n) (numbers_of l.width l.bytes))
    × Put (g.S.Sink.seen l.initial.out) (g.S.Sink.seen l.out) l.initial.block l.block text true

abbrev pub decreases-loop-number : goal.decreases-loop-number
decreases-loop-number g l = length (numbers_of l.width l.left)
