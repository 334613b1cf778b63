use Rattle.prop_types.proofs.BrokenLaws.{broken_first, first_broken, props_typed, typed_props}
use Rattle.prop_types.proofs.laws.declared_properties_are_typed.Goals as goal

pub returns : goal.returns
returns c = record { typed = typed_props; each_typed = props_typed; broken = broken_first; each_broken = first_broken }
