use Rattle.std.proofs.Common.{◌≡◌, ◌++◌, drop}
use Rattle.edt_base.specs.Values.{value_strings}
use Rattle.edt_base.proofs.strings.strings_of.Given as goal

abbrev pub invariant-loop-part : goal.invariant-loop-part
invariant-loop-part l = l.texts.items ++ value_strings (drop l.part-index l.parts) ≡ value_strings l.parts
