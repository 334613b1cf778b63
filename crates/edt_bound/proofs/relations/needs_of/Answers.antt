use Rattle.std.proofs.Common.{rules, subst, sym}
use Rattle.std.specs.List.Sorted.{IsStrictlyIncreasing}
use Rattle.std.proofs.lemmas.Fn.{filter_same}
use Rattle.std.proofs.lemmas.List.Filters.{dedup_is}
use Rattle.std.proofs.lemmas.Map.Keys.{IsStrictlyIncreasing-dedup}
use Rattle.edt_bound.proofs.RelationSteps.{needs_from, needs_within}
use Rattle.edt_bound.proofs.relations.needs_of.Goals as goal

pub returns-clause-needs : goal.returns-clause-needs
returns-clause-needs c =
    needs_from c.args.t.now.nodes c.args.id c.args.props.now c.args.irqs.now c.in_ok-ids.ids.items c.retain.new.self.items c.sort_unstable.new.self.items
    c.dedup.new.self.items c.in_ok-ids.ensures (filter_same _ _ _ (λ x b f' k. search rules) _ _ c.retain.ensures.filtered)
    c.sort_unstable.ensures.permutation (dedup_is _ _ _ c.dedup.ensures.filtered)

pub returns-clause-rising : goal.returns-clause-rising
returns-clause-rising c =
    subst IsStrictlyIncreasing (sym (dedup_is _ _ _ c.dedup.ensures.filtered)) (IsStrictlyIncreasing-dedup c.sort_unstable.new.self.items c.sort_unstable.ensures.sorted)

pub returns-clause-within : goal.returns-clause-within
returns-clause-within c =
    needs_within c.args.t.now c.args.id c.args.props.now c.args.irqs.now c.in_ok-ids.ids.items c.retain.new.self.items c.sort_unstable.new.self.items
    c.dedup.new.self.items c.is_well_formed.ensures c.requires.there c.requires.typed c.requires.controllers c.in_ok-ids.ensures
    (filter_same _ _ _ (λ x b f' k. search rules) _ _ c.retain.ensures.filtered)
    c.sort_unstable.ensures.permutation (dedup_is _ _ _ c.dedup.ensures.filtered)
