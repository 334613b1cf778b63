use Rattle.std.proofs.Common.{◌≡◌, ◌++◌, map, take}
use Rattle.std.specs.List.{flat_map}
use Rattle.std.specs.Option.{option_to_list}
use Rattle.edt_base.specs.EntryData.{EntryData}
use Rattle.edt_base.specs.PropData.{PropData}
use Rattle.edt_base.specs.TreeData.{parent_of}
use Rattle.edt_bound.specs.Requiring.{referred}
use Rattle.edt_bound.proofs.relations.references.Given as goal

abbrev pub invariant-loop-prop : goal.invariant-loop-prop
invariant-loop-prop l = l.ids.items
    ≡ option_to_list (parent_of l.t.nodes l.fn.id) ++ flat_map (λ (p : PropData). referred p.ty p.val) (take l.prop-index l.props)

abbrev pub invariant-loop-irq : goal.invariant-loop-irq
invariant-loop-irq l = l.ids.items
    ≡ option_to_list (parent_of l.t.nodes l.fn.id) ++ flat_map (λ (p : PropData). referred p.ty p.val) l.props
    ++ map (λ (irq : EntryData). irq.controller) (take l.irq-index l.irqs)
