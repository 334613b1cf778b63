use Rattle.std.proofs.Common.{◌≡◌, drop}
use Rattle.irq_map.specs.Gic.{cell_named}
use Rattle.irq_map.proofs.gic.cell_named.Given as goal

abbrev pub invariant-loop-cell : goal.invariant-loop-cell
invariant-loop-cell l = cell_named l.name (drop l.cell-index l.cells) ≡ cell_named l.name l.cells
