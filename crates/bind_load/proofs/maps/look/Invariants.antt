use Rattle.std.proofs.Common.{◌≡◌, drop}
use Rattle.edt_base.specs.YamlData.{entry_of}
use Rattle.bind_load.specs.Inner.Seen.{pairs_of}
use Rattle.bind_load.proofs.maps.look.Given as goal

abbrev pub invariant-loop-name : goal.invariant-loop-name
invariant-loop-name l = entry_of l.key (pairs_of (drop l.name-index l.pairs)) ≡ entry_of l.key (pairs_of l.pairs)
