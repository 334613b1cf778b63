use Rattle.std.proofs.Common.{◌≡◌, length}
use Rattle.edt_base.specs.Cells.{cells_of}
use Rattle.prop_types.specs.Written.{nodes_of_phandles}
use Rattle.prop_types.proofs.There.{there_after}
use Rattle.prop_types.proofs.written.nodes_of_phandles.Given as goal

abbrev pub invariant-loop-cell : goal.invariant-loop-cell
invariant-loop-cell l =
    there_after l.ids.items (nodes_of_phandles l.t.nodes (cells_of l.cells)) ≡ nodes_of_phandles l.t.nodes (cells_of l.initial.cells)

abbrev pub decreases-loop-cell : goal.decreases-loop-cell
decreases-loop-cell l = length (cells_of l.cells)
