use Rattle.std.proofs.Common.{◌∙◌, ◌+◌, ◌++◌, ◌∷◌, [], ℕ, List, sym, ap, arith}
use Rattle.edt_base.specs.Cells.{cells_of}
use Rattle.pha_nexus.proofs.CellLaws.{cut_next}
use Rattle.pha_nexus.proofs.cells.parent_cells.Goals as goal

pub loop-preserved : goal.loop-preserved
loop-preserved c =
    let next = cut_next c.loop.counter (c.loop.counter + 1) (cells_of c.args.cells.now) (cells_of c.next.new.self) c.in-Some.cell (omega arith)
    (sym c.loop.invariant.1 ∙ c.in-Some.ensures.cells) in (
      c.in_ok-push-in-Some.ensures.items ∙ (ap (λ (xs : List ℕ). xs ++ c.in-Some.cell ∷ []) c.loop.invariant.0 ∙ sym next.0),
      sym next.1,
      next.2,
    )
