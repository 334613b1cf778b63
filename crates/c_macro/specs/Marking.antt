-- How the program tells what a token is within a call.
use Rattle.c_macro.specs.declared.marks.Mark.{Mark}
use Rattle.c_macro.specs.declared.marks.Mark.TheVariants as read
use Rattle.c_macro.specs.Calls as calls

abbrev pub mark_data : Mark → calls.Mark
mark_data read.Opens = calls.Opens
mark_data read.Closes = calls.Closes
mark_data read.Parts = calls.Parts
mark_data read.Inner = calls.Inner
