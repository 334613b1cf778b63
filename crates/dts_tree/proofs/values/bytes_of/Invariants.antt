use Rattle.std.proofs.Common.{◌≡◌, take}
use Rattle.std.specs.List.{flat_map}
use Rattle.edt_base.specs.Cells.{cell_bytes}
use Rattle.dts_tree.specs.Final.{cell_value}
use Rattle.dts_tree.proofs.values.bytes_of.Given as goal

abbrev pub invariant-loop-cell : goal.invariant-loop-cell
invariant-loop-cell l = l.bytes.items ≡ flat_map (λ c. cell_bytes (cell_value l.numbers c)) (take l.cell-index l.cells)
