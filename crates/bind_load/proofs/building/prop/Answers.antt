use Rattle.std.proofs.Common.{◌≡◌, rules, refl}
use Rattle.edt_base.specs.YamlData.{value_of, a_map}
use Rattle.edt_base.specs.declared.yaml.Yaml.{the_lemmas}
use Rattle.bind_load.specs.Inner.Seen.{pairs_of}
use Rattle.bind_load.proofs.building.prop.Goals as goal

pub returns-in_ok-spec-in-Map : goal.returns-in_ok-spec-in-Map
returns-in_ok-spec-in-Map c =
    let is : value_of c.args.settings.now ≡ a_map (pairs_of c.deref.result.now) = search (rules, the_lemmas) in
    rw is (rw c.in_ok-copy-in-Map.ensures (rw c.in_ok-spec-in-Map.ensures refl))
