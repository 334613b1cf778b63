use Rattle.std.proofs.Common.{drop, map}
use Rattle.c_macro.specs.Pending.{part_data}
use Rattle.c_macro.specs.Needing.{Noting}
use Rattle.c_macro.proofs.needs.Needs.of.Given as goal

abbrev pub invariant-loop-part : goal.invariant-loop-part
invariant-loop-part l = Noting (map part_data l.parts) (map part_data (drop l.part-index l.parts)) l.fn.count l.needs
