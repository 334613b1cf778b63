use Rattle.std.proofs.Common.{length}
use Rattle.edt_base.specs.Cells.{cells_of}
use Rattle.pha_nexus.specs.Inner.Reading.{parent_cells, rows_left}
use Rattle.pha_nexus.specs.Rows.{taken}
use Rattle.pha_nexus.proofs.RowLaws.{no_lead, no_parent, no_phandle, row_passed, row_taken, stop_on, too_few}
use Rattle.pha_nexus.proofs.rows.read_row.Goals as goal

pub returns-in_default-clause-stop : goal.returns-in_default-clause-stop
returns-in_default-clause-stop c = no_phandle c.args.t.now.nodes c.args.space.now c.args.child.now c.args.cells.now c.begin_with-is_same.new.cells
    c.requires c.begin_with-is_same.ensures.rest c.in_default.ensures.cells

pub returns-in-Err-clause-stop : goal.returns-in-Err-clause-stop
returns-in-Err-clause-stop c = no_lead c.args.t.now.nodes c.args.space.now c.args.child.now c.args.cells.now c.begin_with-is_same.new.cells c.next.new.self
    c.in-Some.phandle c.in-Err.rule c.requires c.begin_with-is_same.ensures.rest c.in-Some.ensures.cells c.in-Err.ensures.place

pub returns-in-Ok-parent_cells-clause-row : goal.returns-in-Ok-parent_cells-clause-row
returns-in-Ok-parent_cells-clause-row c = (
  row_taken c.args.t.now.nodes c.args.space.now c.args.child.now c.args.cells.now c.begin_with-is_same.new.cells c.next.new.self c.in-Ok-parent_cells.parent.items
      c.in-Some.phandle c.in-Ok.lead c.requires c.begin_with-is_same.ensures.rest c.if-is_same.ensures.same c.in-Some.ensures.cells c.in-Ok.ensures.place c.in-Ok-parent_cells.ensures.cells,
  c.in-Ok.ensures.there,
)

pub returns-in-Err-parent_cells-clause-stop : goal.returns-in-Err-parent_cells-clause-stop
returns-in-Err-parent_cells-clause-stop c = stop_on (parent_cells c.in-Ok.lead.width (cells_of c.next.new.self))
    (taken c.args.child.now (rows_left c.args.t.now.nodes c.args.space.now (length c.args.child.now) c.args.cells.now)) c.in-Err-parent_cells.stop
    (λ r short. no_parent c.args.t.now.nodes c.args.space.now c.args.child.now c.args.cells.now c.begin_with-is_same.new.cells c.next.new.self
    c.in-Some.phandle c.in-Ok.lead r c.requires c.begin_with-is_same.ensures.rest c.in-Some.ensures.cells c.in-Ok.ensures.place short)
    c.in-Err-parent_cells.ensures.stop

pub returns-then-skip-clause-row : goal.returns-then-skip-clause-row
returns-then-skip-clause-row c = row_passed c.args.t.now.nodes c.args.space.now c.args.child.now c.args.cells.now c.begin_with-is_same.new.cells c.next.new.self c.skip.new.cells
    c.in-Some.phandle c.in-Ok.lead c.requires c.begin_with-is_same.ensures.rest c.if-is_same.ensures.same c.in-Some.ensures.cells c.in-Some.ensures.cell.1 c.in-Some.ensures.cell.2
    c.in-Ok.ensures.place (c.skip.ensures.there c.if-skip.true).0 (c.skip.ensures.there c.if-skip.true).1

pub returns-else-skip-clause-stop : goal.returns-else-skip-clause-stop
returns-else-skip-clause-stop c = no_parent c.args.t.now.nodes c.args.space.now c.args.child.now c.args.cells.now c.begin_with-is_same.new.cells c.next.new.self
    c.in-Some.phandle c.in-Ok.lead _ c.requires c.begin_with-is_same.ensures.rest c.in-Some.ensures.cells c.in-Ok.ensures.place
    (too_few c.in-Ok.lead.width (cells_of c.next.new.self) (c.skip.ensures.short c.if-skip.false))
