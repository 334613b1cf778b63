use Rattle.std.proofs.Common.{◌≡◌, ◌&&◌, Bool, subst, nat_eq, length, take}
use Rattle.edt_base.specs.Cells.{cells_of}
use Rattle.pha_nexus.specs.Rows.{are_same}
use Rattle.pha_nexus.proofs.CellLaws.{same_next, same_off, bytes_next}
use Rattle.pha_nexus.proofs.cells.begin_with.Goals as goal

pub loop-wanted-preserved-then-are_same : goal.loop-wanted-preserved-then-are_same
loop-wanted-preserved-then-are_same c =
    let left = c.in-Some.ensures.cases.0 in
    let total : Bool = are_same (take (length c.args.wanted.now) (cells_of c.args.cells.now)) c.args.wanted.now in (
      subst (λ (a : Bool). ((a && nat_eq c.in-Some-next.cell c.in-Some.wanted.now) && are_same (take (length c.in-Some.behind.now) (cells_of c.next.new.self)) c.in-Some.behind.now) ≡ total)
          c.if-are_same.true
          (same_next c.loop-wanted.are_same c.loop-wanted.left.now c.in-Some.behind.now (cells_of c.loop-wanted.cells) (cells_of c.next.new.self) c.in-Some-next.cell c.in-Some.wanted.now total left c.in-Some-next.ensures.cells c.loop-wanted.invariant.0),
      bytes_next c.loop-wanted.left.now c.in-Some.behind.now c.loop-wanted.cells c.next.new.self _ c.in-Some.wanted.now left c.in-Some-next.ensures.cell.1 c.loop-wanted.invariant.1,
    )

pub loop-wanted-preserved-else-are_same : goal.loop-wanted-preserved-else-are_same
loop-wanted-preserved-else-are_same c = (
  same_off c.loop-wanted.are_same _ _ _ c.if-are_same.false c.loop-wanted.invariant.0,
  bytes_next c.loop-wanted.left.now c.in-Some.behind.now c.loop-wanted.cells c.next.new.self _ c.in-Some.wanted.now c.in-Some.ensures.cases.0 c.in-Some-next.ensures.cell.1 c.loop-wanted.invariant.1,
)
