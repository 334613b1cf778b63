use Rattle.std.proofs.Common.{arith, ◌≡◌, ◌+◌, ◌/◌, false, length}
use Rattle.std.specs.Fmt.{digits}
use Rattle.dts_print.proofs.Digits.{more_long, one_long}
use Rattle.dts_print.proofs.length.digits_len.Goals as goal

pub loop-left-preserved : goal.loop-left-preserved
loop-left-preserved c =
    let long : length (digits 16 false c.loop-left.left) ≡ length (digits 16 false (c.loop-left.left / 16)) + 1 =
    more_long c.loop-left.left c.loop-left-test.true c.loop-left.invariant.0 in
    (omega arith, omega arith, omega arith)

pub returns : goal.returns
returns c =
    let long : length (digits 16 false c.loop-left.left) ≡ 1 = one_long c.loop-left.left c.loop-left-test.false in
    record { len = omega arith; fits = omega arith }
