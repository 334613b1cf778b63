use Rattle.std.proofs.Common.{◌≡◌, None, map, take}
use Rattle.dts_tree.specs.Inner.Grown.{last_alive}
use Rattle.dts_tree.proofs.finder.tops.Given as goal

abbrev pub invariant-loop-stack : goal.invariant-loop-stack
invariant-loop-stack l = l.tops.items ≡ map (last_alive l.arena.gone None) (take l.stack-index l.stacks)
