use Rattle.std.proofs.Common.{◌∙◌, ap, option_map, rules}
use Rattle.pha_nexus.specs.Matching.{Bus, Match, match_at}
use Rattle.edt_bound.proofs.MatchSteps.{one_more}
use Rattle.edt_bound.proofs.matching.matches.Goals as goal

pub loop-place-preserved : goal.loop-place-preserved
loop-place-preserved c = (
  one_more (match_at c.args.t.now.nodes c.args.lib.now) c.loop-place.found.items _ c.in_ok-next.next c.loop-place.place c.loop-place.invariant.0 c.in_ok-next.ensures
      (search rules),
  one_more (λ id. (match_at c.args.t.now.nodes c.args.lib.now id).binding) c.loop-place.of.items _ c.next.inside.binding c.loop-place.place c.loop-place.invariant.1
      (ap (λ (m : Match). m.binding) (c.next.view_is ∙ c.in_ok-next.ensures)) (search rules),
  one_more (λ id. option_map (λ (b : Bus). b.node) (match_at c.args.t.now.nodes c.args.lib.now id).bus) c.loop-place.bus.items _ c.bus_node.result c.loop-place.place c.loop-place.invariant.2
      (c.bus_node.ensures ∙ ap (λ (m : Match). option_map (λ (b : Bus). b.node) m.bus) (c.next.view_is ∙ c.in_ok-next.ensures)) (search rules),
)
