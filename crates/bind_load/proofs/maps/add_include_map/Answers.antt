use Rattle.std.proofs.Common.{rules, ◌≡◌, map}
use Rattle.bind_load.specs.Inner.Seen.{pairs_of, level_data}
use Rattle.bind_load.specs.FileMaps.{levels_below}
use Rattle.bind_load.proofs.Levels.{include_step}
use Rattle.bind_load.proofs.maps.add_include_map.Goals as goal

pub returns : goal.returns
returns c =
    let deeper : map level_data c.as_slice.result.now ≡ levels_below (pairs_of c.args.pairs.now) = search rules in
    include_step _ _ _ _ _ c.in_ok-add.ensures deeper c.in_ok-add_filters.ensures
