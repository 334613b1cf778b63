use Rattle.std.proofs.lemmas.Nat.{mod_below}
use Rattle.reg_ranges.proofs.CellLaws.{over_next}
use Rattle.reg_ranges.proofs.cells.bytes_over.Goals as goal

pub loop-part-preserved : goal.loop-part-preserved
loop-part-preserved c = (
  rw c.as_slice.ensures (over_next c.loop-part.over c.args.unit c.loop-part.part-index c.args.parts.now c.part-item.result _ c.loop-part-test.true c.part-item.is c.loop-part.invariant.0),
  mod_below _ c.args.unit c.requires.some,
)
