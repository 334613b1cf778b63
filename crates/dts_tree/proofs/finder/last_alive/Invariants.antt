use Rattle.std.proofs.Common.{◌≡◌, None, drop}
use Rattle.dts_tree.specs.Inner.Grown.{last_alive}
use Rattle.dts_tree.proofs.finder.last_alive.Given as goal

abbrev pub invariant-loop-slot : goal.invariant-loop-slot
invariant-loop-slot l = last_alive l.arena.gone l.last (drop l.slot-index l.slots) ≡ last_alive l.arena.gone None l.slots
