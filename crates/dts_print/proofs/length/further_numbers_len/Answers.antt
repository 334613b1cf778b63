use Rattle.std.proofs.Common.{arith, ◌≡◌, ◌+◌, ◌++◌, codes, length}
use Rattle.std.specs.List.{flat_map}
use Rattle.dts_print.specs.Printed.{number_text}
use Rattle.dts_print.specs.Inner.Numbers.{numbers_of}
use Rattle.dts_print.proofs.Steps.{further_number_long, no_further}
use Rattle.dts_print.proofs.length.further_numbers_len.Goals as goal

pub loop-number-preserved : goal.loop-number-preserved
loop-number-preserved c =
    let long : length (flat_map (λ n. codes " " ++ number_text n) (numbers_of c.args.width c.loop-number.left.now))
    ≡ length (number_text c.in-Some.number) + 1 + length (flat_map (λ n. codes " " ++ number_text n) (numbers_of c.args.width c.in-Some.rest.now)) =
    further_number_long (numbers_of c.args.width c.loop-number.left.now) c.in-Some.number (numbers_of c.args.width c.in-Some.rest.now) c.in-Some.ensures in
    (omega arith, omega arith)

pub returns : goal.returns
returns c =
    let none : length (flat_map (λ n. codes " " ++ number_text n) (numbers_of c.args.width c.loop-number.left.now)) ≡ 0 =
    no_further (numbers_of c.args.width c.loop-number.left.now) c.in_default.ensures in
    omega arith
