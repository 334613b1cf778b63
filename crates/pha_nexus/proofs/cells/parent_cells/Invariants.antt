use Rattle.std.proofs.Common.{◌≡◌, ◌≤◌, take, drop, length}
use Rattle.edt_base.specs.Cells.{cells_of}
use Rattle.pha_nexus.proofs.cells.parent_cells.Given as goal

abbrev pub invariant-loop : goal.invariant-loop
invariant-loop l = (l.parent.items ≡ take l.counter (cells_of l.initial.cells))
    × (cells_of l.cells ≡ drop l.counter (cells_of l.initial.cells)) × (l.counter ≤ length (cells_of l.initial.cells))
