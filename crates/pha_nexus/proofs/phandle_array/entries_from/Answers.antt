use Rattle.std.proofs.Common.{◌∙◌, List, Option, length, ap, option_map}
use Rattle.edt_base.specs.EntryData.{EntryData}
use Rattle.edt_base.specs.Values.{entry_name, name_parts}
use Rattle.pha_nexus.specs.Naming.{cell_names}
use Rattle.pha_nexus.proofs.EntryLaws.{entry_read}
use Rattle.pha_nexus.proofs.phandle_array.entries_from.Goals as goal

pub loop-phandle-preserved : goal.loop-phandle-preserved
loop-phandle-preserved c = entry_read c.args.t.now.nodes c.args.space.now (cell_names c.args.t.now.nodes c.args.lib.now c.args.space.now)
    (name_parts (option_map (λ n. n.now) c.args.names)) c.args.rest c.args.cells.now c.loop-phandle.left.now c.in-Some.behind.now c.in-Ok.cut.1.now c.in-Some.phandle.now
    c.in-Ok.cut.0 c.in_ok-name.name c.loop-phandle.entries.items c.push.new.self.items c.in-Ok-entry_of.entry c.in-Some.ensures.cases.0 c.in-Ok.ensures.cut c.in-Ok.ensures.rest
    (c.in_ok-name.ensures ∙ ap (λ (xs : List (Option EntryData)). entry_name (name_parts (option_map (λ n. n.now) c.args.names)) (length xs)) c.as_slice.ensures.value)
    c.in-Ok-entry_of.ensures.entry c.in_ok-push.ensures.items c.loop-phandle.invariant
