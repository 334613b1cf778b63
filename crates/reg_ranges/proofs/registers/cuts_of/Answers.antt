use Rattle.std.proofs.Common.{◌+◌}
use Rattle.edt_base.specs.Cells.{cells_of}
use Rattle.reg_ranges.specs.Registers.{first_cut}
use Rattle.reg_ranges.proofs.EntryLaws.{read_more}
use Rattle.reg_ranges.proofs.registers.cuts_of.Goals as goal

pub loop-cells-preserved : goal.loop-cells-preserved
loop-cells-preserved c = read_more (first_cut c.args.address c.args.size) (c.args.address + c.args.size) (cells_of c.loop-cells.cells) (cells_of c.first_cut.new.cells)
    c.first_cut.result c.loop-cells.cuts.items _ c.push.new.self.items c.requires.some (c.is_empty.ensures.more c.loop-cells-test.true)
    c.first_cut.ensures.cut c.first_cut.ensures.rest c.in_ok-push.ensures.items c.loop-cells.invariant
