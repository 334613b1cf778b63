use Rattle.std.proofs.Common.{◌≤◌, drop, map}
use Rattle.c_macro.specs.SetData.{SetTable}
use Rattle.c_macro.specs.Pending.{args_data, part_data}
use Rattle.c_macro.specs.Joining.{Counting}
use Rattle.c_macro.proofs.text.least_count.Given as goal

abbrev pub invariant-loop-part : goal.invariant-loop-part
invariant-loop-part l = (l.joins ≤ l.part-index) × ((s : SetTable) → Counting (map part_data l.parts) (map part_data (drop l.part-index l.parts)) (args_data s l.args) l.toks l.joins)
