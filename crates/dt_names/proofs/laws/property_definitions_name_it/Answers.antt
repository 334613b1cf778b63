use Rattle.dt_names.proofs.OfProp.{properties_named}
use Rattle.dt_names.proofs.laws.property_definitions_name_it.Goals as goal

pub returns : goal.returns
returns c = properties_named
