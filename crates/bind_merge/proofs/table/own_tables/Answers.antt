use Rattle.std.proofs.Common.{◌≡◌, [], drop, arith}
use Rattle.std.proofs.lemmas.List.{drop_all}
use Rattle.bind_merge.proofs.TablesOf.{all-at}
use Rattle.bind_merge.proofs.table.own_tables.Goals as goal

pub returns : goal.returns
returns c =
    let d : drop c.loop-level.level-index c.args.own.now ≡ [] = drop_all c.loop-level.level-index c.args.own.now (omega arith) in
    all-at c.args.own.now (drop c.loop-level.level-index c.args.own.now) c.loop-level.levels.items d c.loop-level.invariant
