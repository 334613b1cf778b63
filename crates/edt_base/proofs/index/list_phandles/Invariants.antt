use Rattle.std.proofs.Common.{◌≡◌, ◌++◌, drop}
use Rattle.edt_base.specs.Inner.IndexData.{entries_from, phandle_entries}
use Rattle.edt_base.proofs.index.list_phandles.Given as goal

abbrev pub invariant-loop-i : goal.invariant-loop-i
invariant-loop-i l = l.phandles.items ++ entries_from phandle_entries l.i (drop l.i l.nodes) ≡ entries_from phandle_entries 0 l.nodes
