use Rattle.std.proofs.Common.{codes}
use Rattle.std.proofs.lemmas.Str.Pattern.{ends_text}
use Rattle.prop_types.proofs.typing.is_controller.Goals as goal

pub returns : goal.returns
returns c = ends_text c.ends_with.result (codes "-controller") c.args.name.now c.ends_with.ensures.cases
