use Rattle.std.proofs.Common.{◌≡◌, ◌≤◌, ◌+◌, drop, length}
use Rattle.edt_base.specs.Outside.{names_below}
use Rattle.edt_base.proofs.memory.count_below.Given as goal

abbrev pub invariant-loop-name : goal.invariant-loop-name
invariant-loop-name l = (l.count + length (names_below l.dir (drop l.name-index l.held)) ≡ length (names_below l.dir l.held)) × (l.count ≤ l.name-index)
