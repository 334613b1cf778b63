use Rattle.std.proofs.Common.{◌≡◌, ◌++◌, drop, map}
use Rattle.std.specs.List.{filter_map}
use Rattle.prop_types.specs.Declaring.{declared_at, declared_in}
use Rattle.prop_types.specs.Inner.Seen.{seen}
use Rattle.prop_types.proofs.declaring.declared_in.Given as goal

abbrev pub invariant-loop-name : goal.invariant-loop-name
invariant-loop-name l =
    map seen l.declared.items ++ filter_map (declared_at l.view) (map (λ n. n.now) (drop l.name-index l.name-items)) ≡ declared_in l.view
