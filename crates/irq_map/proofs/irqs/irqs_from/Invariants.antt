use Rattle.std.proofs.Common.{◌≡◌, ◌<◌, All, length, option_map}
use Rattle.edt_base.specs.EntryData.{EntryData}
use Rattle.edt_base.specs.Values.{name_parts}
use Rattle.pha_nexus.specs.Passing.{Hop}
use Rattle.irq_map.specs.Interrupts.{irqs_from}
use Rattle.irq_map.proofs.InterruptLaws.{joined}
use Rattle.irq_map.proofs.irqs.irqs_from.Given as goal

abbrev pub invariant-loop-start : goal.invariant-loop-start
invariant-loop-start l =
    (joined l.irqs.items (irqs_from l.t.nodes l.lib (option_map (λ u. u.now) l.unit) (name_parts (option_map (λ n. n.now) l.names)) (length l.irqs.items) l.start-iterator.rest.items)
    ≡ irqs_from l.t.nodes l.lib (option_map (λ u. u.now) l.unit) (name_parts (option_map (λ n. n.now) l.names)) 0 l.fn.written.items)
    × All (λ (s : Hop). s.node < length l.t.nodes) l.start-iterator.rest.items
    × All (λ (irq : EntryData). irq.controller < length l.t.nodes) l.irqs.items
