use Rattle.std.proofs.Common.{◌∙◌, List, Option, ap, subst, sym}
use Rattle.bind_merge.specs.Levels.{LevelTable}
use Rattle.bind_merge.specs.Listing.{read_files}
use Rattle.bind_merge.specs.Merging.{IsMerged}
use Rattle.bind_merge.specs.Ordered.{IsInOrder}
use Rattle.bind_merge.specs.ViewData.{AreTyped}
use Rattle.bind_merge.specs.Inner.Resolving.{ResolvedData, resolved_at}
use Rattle.bind_merge.specs.Inner.Steps.{levels_in}
use Rattle.bind_merge.proofs.Libraries.{view_in_order, view_levels, view_merged, view_typed}
use Rattle.bind_merge.proofs.library.Library.view.Goals as goal

pub of-requires-clause-in_order : goal.of-requires-clause-in_order
of-requires-clause-in_order c =
    subst (λ (ls : List LevelTable). IsInOrder ls) (sym (c.levels_at.ensures ∙ ap (λ (rs : List (Option ResolvedData)). levels_in (resolved_at rs c.args.file)) c.as_slice.ensures.value))
    (view_in_order c.self.inside.files.items c.self.inside.loaded c.args.self.now c.self.view_is c.self.invariant.1 c.in-Some.loaded c.in-Some.is c.args.file c.requires)

pub of-requires-clause-typed : goal.of-requires-clause-typed
of-requires-clause-typed c =
    subst (λ (ls : List LevelTable). AreTyped ls) (sym (c.levels_at.ensures ∙ ap (λ (rs : List (Option ResolvedData)). levels_in (resolved_at rs c.args.file)) c.as_slice.ensures.value))
    (view_typed c.self.inside.files.items c.self.inside.loaded c.args.self.now c.self.view_is c.self.invariant.1 c.in-Some.loaded c.in-Some.is c.args.file c.requires)

pub returns-in-Some-clause-levels : goal.returns-in-Some-clause-levels
returns-in-Some-clause-levels c =
    c.of.ensures ∙ ((c.levels_at.ensures ∙ ap (λ (rs : List (Option ResolvedData)). levels_in (resolved_at rs c.args.file)) c.as_slice.ensures.value)
    ∙ view_levels c.self.inside.files.items c.self.inside.loaded c.args.self.now c.self.view_is c.self.invariant.1 c.in-Some.loaded c.in-Some.is c.args.file c.requires)

pub returns-in-Some-clause-merged : goal.returns-in-Some-clause-merged
returns-in-Some-clause-merged c =
    subst (λ (ls : List LevelTable). IsMerged (read_files c.args.self.now.files) c.args.file ls) (sym (c.of.ensures ∙ (c.levels_at.ensures ∙ ap (λ (rs : List (Option ResolvedData)). levels_in (resolved_at rs c.args.file)) c.as_slice.ensures.value)))
    (view_merged c.self.inside.files.items c.self.inside.loaded c.args.self.now c.self.view_is c.self.invariant.1 c.in-Some.loaded c.in-Some.is c.args.file c.requires)
