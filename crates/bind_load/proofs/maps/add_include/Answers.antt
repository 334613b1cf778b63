use Rattle.std.proofs.Common.{◌≡◌, rules}
use Rattle.edt_base.specs.YamlData.{value_of, a_map}
use Rattle.edt_base.specs.declared.yaml.Yaml.{the_lemmas}
use Rattle.bind_load.specs.Inner.Seen.{pairs_of}
use Rattle.bind_load.proofs.maps.add_include.Goals as goal

pub returns-in-Map : goal.returns-in-Map
returns-in-Map c =
    let is : value_of c.args.include.now ≡ a_map (pairs_of c.deref.result.now) = search (rules, the_lemmas) in
    rw is c.add_include_map.ensures
