use Rattle.std.proofs.Common.{◌≡◌, ◌++◌, take}
use Rattle.std.specs.List.{filter_map}
use Rattle.std.specs.Option.{option_map}
use Rattle.edt_base.specs.EntryData.{EntryData}
use Rattle.edt_bound.proofs.relations.add_ends.Given as goal

abbrev pub invariant-loop-entry : goal.invariant-loop-entry
invariant-loop-entry l = l.ids.items
    ≡ l.fn.ids.items ++ filter_map (option_map (λ (e : EntryData). e.controller)) (take l.entry-index l.entries)
