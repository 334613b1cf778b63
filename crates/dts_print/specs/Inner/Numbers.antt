-- The numbers that bytes are written as, by how many bytes each has.
use Rattle.std.specs.Prelude.{ℕ, List}
use Rattle.edt_base.specs.Cells.{cells_of}
use Rattle.dts_print.specs.Printed.{halves_of}
use Rattle.dts_print.specs.declared.part.Width.{Width}
use Rattle.dts_print.specs.declared.part.Width.TheVariants.{Cell, Half}

abbrev pub numbers_of : Width → List ℕ → List ℕ
numbers_of Cell bytes = cells_of bytes
numbers_of Half bytes = halves_of bytes
