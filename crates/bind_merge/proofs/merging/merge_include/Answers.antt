use Rattle.std.proofs.Common.{◌≡◌, ◌∙◌, sym, ap, inl, Some, None}
use Rattle.std.specs.Option.{option_map}
use Rattle.bind_load.specs.RecordSeen.{include_of}
use Rattle.bind_merge.specs.Inner.Resolving.{ResolvedData, found_by}
use Rattle.bind_merge.proofs.Bringing.{brings-if, none-ready}
use Rattle.bind_merge.proofs.merging.merge_include.Goals as goal

pub returns-in_default : goal.returns-in_default
returns-in_default c =
    let none : found_by c.args.names.now c.args.resolved.now (c.args.at, include_of c.args.included.now) ≡ None =
    sym c.found_by.ensures ∙ ap (option_map (λ r. r.now)) c.in_default.is in
    absurd (none-ready c.args.names.now c.args.resolved.now (c.args.at, include_of c.args.included.now) c.requires.ready none)

pub returns-in_default-levels : goal.returns-in_default-levels
returns-in_default-levels c =
    let found_is : found_by c.args.names.now c.args.resolved.now (c.args.at, include_of c.args.included.now) ≡ Some c.in-Some.found.now =
    sym c.found_by.ensures ∙ ap (option_map (λ r. r.now)) c.in-Some.is in
    let none : c.in-Some.found.now.levels ≡ None =
    ap (λ (r : ResolvedData). r.levels) (sym c.found.view_is) ∙ ap (option_map (λ v. v.items)) c.in_default-levels.is in
    inl (record { found = c.in-Some.found.now; found_is = found_is; levels_are = none })

pub returns : goal.returns
returns c =
    let found_is : found_by c.args.names.now c.args.resolved.now (c.args.at, include_of c.args.included.now) ≡ Some c.in-Some.found.now =
    sym c.found_by.ensures ∙ ap (option_map (λ r. r.now)) c.in-Some.is in
    let some : c.in-Some.found.now.levels ≡ Some c.as_slice.result.now =
    ap (λ (r : ResolvedData). r.levels) (sym c.found.view_is) ∙ ap (option_map (λ v. v.items)) c.in-Some-levels.is ∙ ap Some (sym c.as_slice.ensures.value) in
    brings-if c.args.names.now c.args.resolved.now c.in_ok-comes.comes c.args.levels.now.items (c.args.at, include_of c.args.included.now) c.include.new.levels.items
    c.in-Some.found.now c.as_slice.result.now found_is some c.in_ok-comes.ensures
