use Rattle.std.proofs.Common.{◌≡◌, Ok, drop, map}
use Rattle.prop_types.specs.Inner.Seen.{seen}
use Rattle.prop_types.specs.Typing.{joined, typed_all}
use Rattle.prop_types.proofs.properties.typed_all.Given as goal

abbrev pub invariant-loop-property : goal.invariant-loop-property
invariant-loop-property l = joined (Ok l.props.items) (typed_all l.t.nodes l.id (map seen (drop l.property-index l.declared)))
    ≡ typed_all l.t.nodes l.id (map seen l.declared)
