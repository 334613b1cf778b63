use Rattle.std.proofs.Common.{◌∙◌, ◌+◌, ◌*◌, sym, arith}
use Rattle.edt_base.specs.Cells.{cells_of}
use Rattle.pha_nexus.proofs.CellLaws.{cut_next, bytes_on}
use Rattle.pha_nexus.proofs.cells.skip.Goals as goal

pub loop-preserved : goal.loop-preserved
loop-preserved c =
    let next = cut_next c.loop.counter (c.loop.counter + 1) (cells_of c.args.cells.now) (cells_of c.next.new.self) c.in-Some._cell (omega arith)
    (sym c.loop.invariant.1 ∙ c.in-Some.ensures.cells) in (
      bytes_on c.loop.counter (4 * (c.loop.counter + 1)) c.args.cells.now c.loop.cells c.next.new.self (omega arith) c.loop.invariant.0 c.in-Some.ensures.cell.1,
      sym next.1,
      next.2,
    )
