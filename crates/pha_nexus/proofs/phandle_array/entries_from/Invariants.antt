use Rattle.std.proofs.Common.{◌≡◌, length, option_map}
use Rattle.edt_base.specs.Values.{name_parts}
use Rattle.pha_nexus.specs.Naming.{cell_names}
use Rattle.pha_nexus.proofs.EntryLaws.{entries_left, joined}
use Rattle.pha_nexus.proofs.phandle_array.entries_from.Given as goal

abbrev pub invariant-loop-phandle : goal.invariant-loop-phandle
invariant-loop-phandle l = joined l.entries.items (entries_left l.t.nodes l.space (cell_names l.t.nodes l.lib l.space)
    (name_parts (option_map (λ n. n.now) l.names)) (length l.entries.items) l.rest l.left)
    ≡ entries_left l.t.nodes l.space (cell_names l.t.nodes l.lib l.space) (name_parts (option_map (λ n. n.now) l.names)) 0 l.rest l.cells

abbrev pub decreases-loop-phandle : goal.decreases-loop-phandle
decreases-loop-phandle l = length l.left
