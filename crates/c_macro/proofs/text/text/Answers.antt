use Rattle.std.proofs.Common.{◌≡◌, ◌∙◌, ap, map, List}
use Rattle.c_macro.specs.Bodies.{joined, Item}
use Rattle.c_macro.specs.Pending.{part_data, args_data}
use Rattle.c_macro.proofs.EndLaws.{all_whole}
use Rattle.c_macro.proofs.text.text.Goals as goal

pub returns-clause-is : goal.returns-clause-is
returns-clause-is c = c.in_ok-toks.ensures.is ∙ ap joined (all_whole (map part_data c.args.parts.now) (args_data c.args.sets.now c.args.args.now))
