use Rattle.std.proofs.Common.{◌≡◌, ◌+◌, ◌%◌, ◌<◌, length, drop}
use Rattle.edt_base.specs.NodeData.{bytes_of}
use Rattle.reg_ranges.proofs.cells.bytes_over.Given as goal

abbrev pub invariant-loop-part : goal.invariant-loop-part
invariant-loop-part l = ((l.over + length (bytes_of (drop l.part-index l.parts))) % l.unit ≡ length (bytes_of l.parts) % l.unit) × (l.over < l.unit)
