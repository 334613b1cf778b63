use Rattle.std.proofs.Common.{◌≡◌, ◌∙◌, ap, sym, is_some, map}
use Rattle.c_macro.specs.Pending.{part_data, args_data}
use Rattle.c_macro.proofs.EndLaws.{some_map, ends_join}
use Rattle.c_macro.proofs.text.are_joined.Goals as goal

pub returns : goal.returns
returns c = c.is_some-joined.ensures ∙ (sym (some_map _ c.in_ok-toks.toks) ∙ (ap is_some c.in_ok-toks.ensures.is ∙ sym (ends_join (map part_data c.args.parts.now) (args_data c.args.sets.now c.args.args.now))))
