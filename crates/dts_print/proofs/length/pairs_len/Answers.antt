use Rattle.std.proofs.Common.{arith, ◌≡◌, ◌+◌, ◌*◌, length}
use Rattle.dts_print.specs.Printed.{pairs_text}
use Rattle.dts_print.proofs.Steps.{pairs_long, none_long, none_of}
use Rattle.dts_print.proofs.length.pairs_len.Goals as goal

pub returns-in_default : goal.returns-in_default
returns-in_default c =
    let long : length (pairs_text c.args.bytes.now) ≡ 2 = none_long c.args.bytes.now (none_of c.args.bytes.now c.in_default.ensures.cases) in omega arith

pub returns : goal.returns
returns c =
    let long : length (pairs_text c.args.bytes.now) ≡ length c.in-Some.rest.now * 3 + 4 =
    pairs_long c.args.bytes.now c.in-Some._first.now c.in-Some.rest.now c.in-Some.ensures.cases.0 in
    omega arith
