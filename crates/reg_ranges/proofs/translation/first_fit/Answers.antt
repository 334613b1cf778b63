use Rattle.std.proofs.Common.{◌≡◌, ◌∙◌, ◌∷◌, Some, option_map, sym, ap}
use Rattle.edt_base.specs.Cells.{cells_of}
use Rattle.reg_ranges.specs.Cutting.{entries}
use Rattle.reg_ranges.specs.Ranges.{first_range, range_cells}
use Rattle.reg_ranges.specs.Translation.{fits, moved, IsWithin}
use Rattle.reg_ranges.proofs.TranslationLaws.{entry_read, first_holds, others_hold, found_first, found_later}
use Rattle.reg_ranges.proofs.translation.first_fit.Goals as goal

pub moved-requires-clause-within : goal.moved-requires-clause-within
moved-requires-clause-within c =
    let read : entries (first_range c.args.shape) (range_cells c.args.shape) (cells_of c.loop-cells.cells) ≡ c.first_range-range.result ∷ entries (first_range c.args.shape) (range_cells c.args.shape) (cells_of c.first_range-range.new.cells) =
    entry_read (first_range c.args.shape) (range_cells c.args.shape) (cells_of c.loop-cells.cells) (cells_of c.first_range-range.new.cells) c.first_range-range.result
    c.requires.some (c.is_empty.ensures.more c.loop-cells-test.true) c.first_range-range.ensures.range c.first_range-range.ensures.rest in
    first_holds IsWithin c.first_range-range.result _ _ read c.loop-cells.invariant.1

pub returns-then-fits : goal.returns-then-fits
returns-then-fits c =
    let read : entries (first_range c.args.shape) (range_cells c.args.shape) (cells_of c.loop-cells.cells) ≡ c.first_range-range.result ∷ entries (first_range c.args.shape) (range_cells c.args.shape) (cells_of c.first_range-range.new.cells) =
    entry_read (first_range c.args.shape) (range_cells c.args.shape) (cells_of c.loop-cells.cells) (cells_of c.first_range-range.new.cells) c.first_range-range.result
    c.requires.some (c.is_empty.ensures.more c.loop-cells-test.true) c.first_range-range.ensures.range c.first_range-range.ensures.rest in
    ap (λ a. Some a) c.moved.ensures ∙ ap (option_map (moved c.args.address))
    (sym (found_first (fits c.args.address) c.first_range-range.result _ _ read (sym c.fits.ensures ∙ c.if-fits.true)) ∙ c.loop-cells.invariant.0)

pub loop-cells-preserved : goal.loop-cells-preserved
loop-cells-preserved c =
    let read : entries (first_range c.args.shape) (range_cells c.args.shape) (cells_of c.loop-cells.cells) ≡ c.first_range-range.result ∷ entries (first_range c.args.shape) (range_cells c.args.shape) (cells_of c.first_range-range.new.cells) =
    entry_read (first_range c.args.shape) (range_cells c.args.shape) (cells_of c.loop-cells.cells) (cells_of c.first_range-range.new.cells) c.first_range-range.result
    c.requires.some (c.is_empty.ensures.more c.loop-cells-test.true) c.first_range-range.ensures.range c.first_range-range.ensures.rest in (
      sym (found_later (fits c.args.address) c.first_range-range.result _ _ read (sym c.fits.ensures ∙ c.if-fits.false)) ∙ c.loop-cells.invariant.0,
      others_hold IsWithin c.first_range-range.result _ _ read c.loop-cells.invariant.1,
    )
