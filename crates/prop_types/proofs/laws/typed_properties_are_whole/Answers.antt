use Rattle.prop_types.proofs.WholeLaws.{typed_whole}
use Rattle.prop_types.proofs.laws.typed_properties_are_whole.Goals as goal

pub returns : goal.returns
returns c = typed_whole
