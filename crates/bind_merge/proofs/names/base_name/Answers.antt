use Rattle.std.proofs.Common.{sym}
use Rattle.bind_merge.proofs.BaseNames.{base-none, base-split}
use Rattle.bind_merge.proofs.names.base_name.Goals as goal

pub returns-in-Some : goal.returns-in-Some
returns-in-Some c =
    let s = c.in-Some.ensures.cases in
    sym (base-split c.args.name.now c.in-Some.base.now s.0 s.1 s.2 s.4)

pub returns-in-None : goal.returns-in-None
returns-in-None c = sym (base-none c.args.name.now c.in-None.ensures.cases)
