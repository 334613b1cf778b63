use Rattle.std.proofs.Common.{◌≡◌, drop}
use Rattle.std.specs.Prelude.{fold}
use Rattle.std.specs.List.{filter_map}
use Rattle.dts_tree.specs.Final.{given_to, cell_ref}
use Rattle.dts_tree.proofs.phandles.Giver.take_cells.Given as goal

abbrev pub invariant-loop-cell : goal.invariant-loop-cell
invariant-loop-cell l = fold given_to l.self (filter_map cell_ref (drop l.cell-index l.cells)) ≡ fold given_to l.initial.self (filter_map cell_ref l.cells)
