use Rattle.std.proofs.Common.{◌≡◌, drop}
use Rattle.std.specs.List.{list_any}
use Rattle.edt_base.specs.YamlData.{pair_list}
use Rattle.bind_load.specs.Inner.Seen.{pairs_of}
use Rattle.bind_load.specs.Rules.{has_other_form}
use Rattle.bind_load.proofs.rules.has_wrong_form.Given as goal

abbrev pub invariant-loop-key : goal.invariant-loop-key
invariant-loop-key l =
    list_any (has_other_form l.map.keys) (pair_list (pairs_of (drop l.key-index l.key-items)))
    ≡ list_any (has_other_form l.map.keys) (pair_list (pairs_of l.key-items))
