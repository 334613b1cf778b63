use Rattle.std.proofs.Common.{◌∙◌, List, Option, ap, subst, sym}
use Rattle.std.specs.Option.{option_map}
use Rattle.bind_merge.specs.Inner.Heights.{all_low, not_good, too_high}
use Rattle.bind_merge.specs.Inner.Resolving.{Merges, ResolvedData, are_ready}
use Rattle.bind_merge.proofs.Heights.{low_ready, now_resolved, was_resolved}
use Rattle.bind_merge.proofs.resolve.resolve_one.Goals as goal

pub returns-then-is_some : goal.returns-then-is_some
returns-then-is_some c =
    was_resolved c.args.names.now c.args.reads.now c.args.height c.args.at c.args.resolved.now.items c.index.result.now c.requires c.index.ensures
    (sym c.is_some.ensures ∙ c.if-is_some.true)

pub returns-in_default : goal.returns-in_default
returns-in_default c = not_good (sym c.in_default.ensures)

pub returns-then-not-has_height : goal.returns-then-not-has_height
returns-then-not-has_height c =
    too_high c.in-Some.own.now (sym c.in-Some.ensures)
    (ap (λ (rs : List (Option ResolvedData)). all_low c.args.names.now rs c.args.height c.in-Some.own.now) (sym c.as_slice.ensures.value)
    ∙ (sym c.has_height.ensures ∙ c.if-not-has_height.true))

pub merged-requires : goal.merged-requires
merged-requires c =
    ap (λ (rs : List (Option ResolvedData)). are_ready c.args.names.now rs c.in-Some.own.now) c.as_slice-2.ensures.value
    ∙ low_ready c.args.names.now c.args.resolved.now.items c.args.height c.in-Some.own.now
    (ap (λ (rs : List (Option ResolvedData)). all_low c.args.names.now rs c.args.height c.in-Some.own.now) (sym c.as_slice.ensures.value)
    ∙ (sym c.has_height.ensures ∙ c.if-not-has_height.false))

pub returns : goal.returns
returns c =
    now_resolved c.args.names.now c.args.reads.now c.args.height c.args.at c.args.resolved.now.items c.index.result.now c.in-Some.own.now
    (option_map (λ v. v.items) c.in_ok-levels.levels) c.requires c.index.ensures (sym c.is_some.ensures ∙ c.if-is_some.false) (sym c.in-Some.ensures)
    (ap (λ (rs : List (Option ResolvedData)). all_low c.args.names.now rs c.args.height c.in-Some.own.now) (sym c.as_slice.ensures.value)
    ∙ (sym c.has_height.ensures ∙ c.if-not-has_height.false))
    (subst (λ (rs : List (Option ResolvedData)). Merges c.args.names.now rs c.in-Some.own.now (option_map (λ v. v.items) c.in_ok-levels.levels)) c.as_slice-2.ensures.value
    c.in_ok-levels.ensures)
