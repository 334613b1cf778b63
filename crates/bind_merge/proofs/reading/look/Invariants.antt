use Rattle.std.proofs.Common.{◌≡◌, drop, map}
use Rattle.edt_base.specs.YamlData.{entry_of, pair_of, pairs_from}
use Rattle.bind_merge.proofs.reading.look.Given as goal

abbrev pub invariant-loop-name : goal.invariant-loop-name
invariant-loop-name l =
    entry_of l.key (pairs_from (map pair_of (drop l.name-index l.pairs))) ≡ entry_of l.key (pairs_from (map pair_of l.pairs))
