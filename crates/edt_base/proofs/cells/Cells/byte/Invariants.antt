use Rattle.std.proofs.Common.{◌≡◌, ◌++◌, length}
use Rattle.edt_base.specs.NodeData.{bytes_of}
use Rattle.edt_base.proofs.cells.Cells.byte.Given as goal

abbrev pub invariant-loop-first : goal.invariant-loop-first
invariant-loop-first l = l.self-inside.rest.now ++ bytes_of l.self-inside.parts.now ≡ l.fn.self

abbrev pub decreases-loop-first : goal.decreases-loop-first
decreases-loop-first l = length l.self-inside.parts.now
