use Rattle.edt_base.specs.Cells.{cells_of}
use Rattle.reg_ranges.specs.Ranges.{first_range, range_cells}
use Rattle.reg_ranges.proofs.EntryLaws.{read_more}
use Rattle.reg_ranges.proofs.address_ranges.ranges_cut.Goals as goal

pub loop-cells-preserved : goal.loop-cells-preserved
loop-cells-preserved c = read_more (first_range c.args.shape) (range_cells c.args.shape) (cells_of c.loop-cells.cells) (cells_of c.first_range.new.cells)
    c.first_range.result c.loop-cells.ranges.items _ c.push.new.self.items c.requires.some (c.is_empty.ensures.more c.loop-cells-test.true)
    c.first_range.ensures.range c.first_range.ensures.rest c.in_ok-push.ensures.items c.loop-cells.invariant
