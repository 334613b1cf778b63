use Rattle.std.proofs.Common.{ℕ, ◌<◌, IsOk}
use Rattle.reg_ranges.specs.Ranges.{ranges_of}
use Rattle.rows.proofs.three_nodes.are_whole.Given as goal

abbrev pub invariant-loop-id : goal.invariant-loop-id
invariant-loop-id l = (id : ℕ) → id < l.id → IsOk (ranges_of l.tree.nodes id)
