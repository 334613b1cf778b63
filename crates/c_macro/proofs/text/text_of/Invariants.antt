use Rattle.std.proofs.Common.{drop}
use Rattle.c_macro.specs.Joining.{Building}
use Rattle.c_macro.proofs.text.text_of.Given as goal

abbrev pub invariant-loop-part : goal.invariant-loop-part
invariant-loop-part l = Building l.initial.sets l.sets l.ends_only l.args l.joiner l.parts (drop l.part-index l.parts)
