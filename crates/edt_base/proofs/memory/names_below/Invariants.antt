use Rattle.std.proofs.Common.{◌≡◌, ◌++◌, drop}
use Rattle.edt_base.specs.Outside.{names_below}
use Rattle.edt_base.proofs.memory.names_below.Given as goal

abbrev pub invariant-loop-name : goal.invariant-loop-name
invariant-loop-name l = l.names.items ++ names_below l.dir (drop l.name-index l.held) ≡ names_below l.dir l.held
