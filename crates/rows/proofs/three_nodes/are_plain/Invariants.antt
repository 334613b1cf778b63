use Rattle.std.proofs.Common.{take}
use Rattle.rows.specs.ThreeNodes.{ArePlainParts}
use Rattle.rows.proofs.three_nodes.are_plain.Given as goal

abbrev pub invariant-loop-part : goal.invariant-loop-part
invariant-loop-part l = ArePlainParts (take l.part-index l.parts)
