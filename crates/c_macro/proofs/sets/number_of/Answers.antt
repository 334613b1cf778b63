use Rattle.std.proofs.Common.{◌∙◌}
use Rattle.c_macro.proofs.SetLaws.{tree_get}
use Rattle.c_macro.proofs.sets.number_of.Goals as goal

pub returns : goal.returns
returns c = c.copied.ensures ∙ (c.get.ensures.value ∙ tree_get c.args.name.now c.args.numbers.now.entries)
