use Rattle.std.proofs.Common.{arith, ◌≡◌, ◌+◌, ◌-◌, length}
use Rattle.dts_print.specs.Inner.Steps.{closings}
use Rattle.dts_print.proofs.Steps.{closings_long, closings_none}
use Rattle.dts_print.proofs.length.closings_len.Goals as goal

pub loop-depth-preserved : goal.loop-depth-preserved
loop-depth-preserved c =
    let long : length (closings c.loop-depth.depth c.args.left) ≡ (c.loop-depth.depth - 1) + 3 + length (closings (c.loop-depth.depth - 1) c.args.left) =
    closings_long c.loop-depth.depth c.args.left c.loop-depth-test.true in
    (omega arith, omega arith)

pub returns : goal.returns
returns c =
    let none : length (closings c.loop-depth.depth c.args.left) ≡ 0 = closings_none c.loop-depth.depth c.args.left c.loop-depth-test.false in
    omega arith
