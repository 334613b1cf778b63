use Rattle.std.proofs.Common.{◌≡◌, drop}
use Rattle.std.specs.List.{list_any}
use Rattle.dts_tree.specs.Rules.{cell_dangles}
use Rattle.dts_tree.proofs.finish.one_dangles.Given as goal

abbrev pub invariant-loop-cell : goal.invariant-loop-cell
invariant-loop-cell l = list_any cell_dangles (drop l.cell-index l.cells) ≡ list_any cell_dangles l.cells
