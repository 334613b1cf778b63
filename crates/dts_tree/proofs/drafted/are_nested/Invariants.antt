use Rattle.std.proofs.Common.{ℕ, ◌<◌, List, get_or}
use Rattle.dts_parse.specs.StmtData.{StmtData}
use Rattle.dts_parse.specs.Nested.{IsNested}
use Rattle.dts_tree.proofs.drafted.are_nested.Given as goal

abbrev pub invariant-loop-script : goal.invariant-loop-script
invariant-loop-script l = (k : ℕ) (d : List StmtData) → k < l.script-index → IsNested (get_or l.script-items k d)
