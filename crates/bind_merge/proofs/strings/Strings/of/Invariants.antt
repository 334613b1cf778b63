use Rattle.std.proofs.Common.{take}
use Rattle.bind_merge.specs.Inner.Stringing.{Finds, Knows}
use Rattle.bind_merge.proofs.strings.Strings.of.Given as goal

abbrev pub invariant-loop-string : goal.invariant-loop-string
invariant-loop-string l = Knows l.known (take l.string-index l.all) × Finds l.finders.items (take l.string-index l.all)
