use Rattle.std.proofs.Common.{◌∙◌, ap, is_some}
use Rattle.c_macro.proofs.PartLaws.{some_param}
use Rattle.c_macro.proofs.places.Places.has.Goals as goal

pub returns : goal.returns
returns c = c.is_some.ensures ∙ (ap is_some c.number.ensures ∙ some_param c.args.self.now c.args.tok.now)
