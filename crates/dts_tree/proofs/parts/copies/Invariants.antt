use Rattle.std.proofs.Common.{◌≡◌, map, drop, take}
use Rattle.dts_tree.proofs.parts.copies.Given as goal

abbrev pub invariant-loop-text : goal.invariant-loop-text
invariant-loop-text l = l.copies.items ≡ take l.text-index l.texts
