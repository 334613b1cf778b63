use Rattle.std.proofs.Common.{rules, ◌≡◌, ◌∷◌, ◌++◌, [], length, option_map}
use Rattle.edt_base.specs.Values.{entry_name, name_parts}
use Rattle.irq_map.proofs.InterruptLaws.{all_after, all_irqs, irq_read}
use Rattle.irq_map.proofs.irqs.irqs_from.Goals as goal

pub loop-start-preserved : goal.loop-start-preserved
loop-start-preserved c =
    let cut : c.loop-start.start-iterator.rest.items ≡ c.in-Some.start ∷ c.next.new.self.rest.items = c.in-Some.ensures.steps.0 in
    let pushed : c.push.new.self.items ≡ c.loop-start.irqs.items ++ c.in-Ok.irq ∷ [] = c.in_ok-push-in-Ok.ensures.items in
    let name : c.in_ok-name.name ≡ entry_name (name_parts (option_map (λ n. n.now) c.args.names)) (length c.loop-start.irqs.items) = search rules in (
      irq_read c.args.t.now.nodes c.args.lib.now (option_map (λ u. u.now) c.args.unit) (name_parts (option_map (λ n. n.now) c.args.names)) c.args.written.items
          c.loop-start.start-iterator.rest.items c.next.new.self.rest.items c.in-Some.start c.in_ok-name.name c.loop-start.irqs.items c.push.new.self.items c.in-Ok.irq
          cut name c.in-Ok.ensures.irq pushed c.loop-start.invariant.0,
      all_after (length c.args.t.now.nodes) c.loop-start.start-iterator.rest.items c.next.new.self.rest.items c.in-Some.start cut c.loop-start.invariant.1,
      all_irqs (length c.args.t.now.nodes) c.loop-start.irqs.items c.push.new.self.items c.in-Ok.irq c.loop-start.invariant.2 c.in-Ok.ensures.controller pushed,
    )
