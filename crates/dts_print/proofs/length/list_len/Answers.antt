use Rattle.std.proofs.Common.{arith, ◌≡◌, ◌+◌, ◌++◌, codes, length}
use Rattle.std.specs.List.{flat_map}
use Rattle.dts_print.specs.Printed.{list_text, number_text}
use Rattle.dts_print.specs.Inner.Numbers.{numbers_of}
use Rattle.dts_print.proofs.Steps.{list_long, empty_long}
use Rattle.dts_print.proofs.length.list_len.Goals as goal

pub returns-in_default : goal.returns-in_default
returns-in_default c =
    let long : length (list_text (numbers_of c.args.width c.args.bytes.now)) ≡ 2 = empty_long (numbers_of c.args.width c.args.bytes.now) c.in_default.ensures in omega arith

pub returns : goal.returns
returns c =
    let long : length (list_text (numbers_of c.args.width c.args.bytes.now))
    ≡ length (number_text c.in-Some.first) + length (flat_map (λ n. codes " " ++ number_text n) (numbers_of c.args.width c.in-Some.rest.now)) + 2 =
    list_long (numbers_of c.args.width c.args.bytes.now) c.in-Some.first (numbers_of c.args.width c.in-Some.rest.now) c.in-Some.ensures in
    omega arith
