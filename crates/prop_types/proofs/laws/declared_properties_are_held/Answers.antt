use Rattle.prop_types.proofs.HeldLaws.{declared_held}
use Rattle.prop_types.proofs.laws.declared_properties_are_held.Goals as goal

pub returns : goal.returns
returns c = declared_held c.views_show.ensures
