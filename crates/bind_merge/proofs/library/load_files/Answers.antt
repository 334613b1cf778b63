use Rattle.std.proofs.Common.{◌≡◌, ◌∙◌, Err, List, None, Option, Some, ap, subst, sym, ℕ}
use Rattle.std.specs.List.{list_all}
use Rattle.bind_merge.specs.Listing.{read_files}
use Rattle.bind_merge.specs.Loading.{AreSound, OnFault, twin_fault}
use Rattle.bind_merge.specs.declared.index.Index.{Index}
use Rattle.bind_merge.specs.declared.library.Loaded.{Loaded}
use Rattle.bind_merge.specs.declared.matching.Match.{Match}
use Rattle.bind_merge.specs.declared.reading.Read.{Read}
use Rattle.bind_merge.specs.Inner.Heights.{AllResolved}
use Rattle.bind_merge.specs.Inner.Reading.{is_read_at}
use Rattle.bind_merge.specs.Inner.Resolving.{ResolvedData}
use Rattle.bind_merge.specs.Inner.Steps.{bindings_at, numbers_of}
use Rattle.bind_merge.specs.Inner.Ways.{IsKnown}
use Rattle.bind_merge.proofs.Loads.{all_loaded, at_end, first_read, is_known}
use Rattle.bind_merge.proofs.library.load_files.Goals as goal

pub test_all-requires-clause-known : goal.test_all-requires-clause-known
test_all-requires-clause-known c =
    subst (λ (rs : List (Option Read)). IsKnown (read_files c.args.files.now) c.in_ok-names.names rs c.as_slice-5.result.now) (sym c.as_slice-4.ensures.value)
    (subst (λ (ds : List (Option ResolvedData)). IsKnown (read_files c.args.files.now) c.in_ok-names.names c.read_reached.new.reads.items ds) (sym c.as_slice-5.ensures.value)
    (is_known c.args.files.now c.args.compats.now c.in_ok-matches.matches.items c.matching.new.reads.items c.in_ok-bindings.bindings.items c.in_ok-matches.ensures.matched
    (c.in_ok-bindings.ensures ∙ ap (λ (xs : List Match). numbers_of xs) c.as_slice.ensures.value) c.in_ok-names.names c.read_reached.new.reads.items c.in_ok-read_reached.ensures
    c.in_ok-resolved.resolved.items c.in_ok-names.ensures
    (subst (λ (rs : List (Option Read)). AllResolved c.in_ok-names.names rs 17 c.in_ok-resolved.resolved.items) c.as_slice-3.ensures.value c.in_ok-resolved.ensures.resolved)))

pub test_all-requires-clause-read : goal.test_all-requires-clause-read
test_all-requires-clause-read c =
    ap (λ (rs : List (Option Read)). list_all (is_read_at rs) c.as_slice-6.result.now) c.as_slice-4.ensures.value
    ∙ (ap (list_all (is_read_at c.read_reached.new.reads.items)) c.as_slice-6.ensures.value
    ∙ first_read c.args.files.now c.args.compats.now c.in_ok-matches.matches.items c.matching.new.reads.items c.in_ok-bindings.bindings.items c.in_ok-matches.ensures.matched
    (c.in_ok-bindings.ensures ∙ ap (λ (xs : List Match). numbers_of xs) c.as_slice.ensures.value) c.in_ok-names.names c.read_reached.new.reads.items c.in_ok-read_reached.ensures)

pub returns-in-Ok-clause-loaded : goal.returns-in-Ok-clause-loaded
returns-in-Ok-clause-loaded c =
    all_loaded c.args.files.now c.args.compats.now c.in_ok-matches.matches.items c.matching.new.reads.items c.in_ok-bindings.bindings.items c.in_ok-matches.ensures.matched
    (c.in_ok-bindings.ensures ∙ ap (λ (xs : List Match). numbers_of xs) c.as_slice.ensures.value) c.in_ok-names.names c.read_reached.new.reads.items c.in_ok-read_reached.ensures
    c.in_ok-resolved.resolved.items
    (subst (λ (ds : List (Option ResolvedData)). AreSound (read_files c.args.files.now) (bindings_at ds c.in_ok-bindings.bindings.items)) c.as_slice-5.ensures.value
    (subst (λ (ks : List ℕ). AreSound (read_files c.args.files.now) (bindings_at c.as_slice-5.result.now ks)) c.as_slice-6.ensures.value c.in_ok-test_all.ensures.sound))
    (ap (λ (ds : List (Option ResolvedData)). twin_fault c.args.files.now (bindings_at ds (numbers_of c.in_ok-matches.matches.items))) (sym c.as_slice-8.ensures.value)
    ∙ (ap (λ (xs : List Match). twin_fault c.args.files.now (bindings_at c.as_slice-8.result.now (numbers_of xs))) (sym c.as_slice-7.ensures.value) ∙ c.in-Ok.ensures.single))

pub returns-clause-fault : goal.returns-clause-fault
returns-clause-fault c =
    at_end c.args.files.now c.args.compats.now c.in_ok-matches.matches.items c.matching.new.reads.items c.in_ok-bindings.bindings.items c.in_ok-matches.ensures.matched
    (c.in_ok-bindings.ensures ∙ ap (λ (xs : List Match). numbers_of xs) c.as_slice.ensures.value) c.in_ok-names.names c.read_reached.new.reads.items c.in_ok-read_reached.ensures
    c.in_ok-resolved.resolved.items Index Loaded c.in-Err.end
    (subst (λ (ds : List (Option ResolvedData)). AreSound (read_files c.args.files.now) (bindings_at ds c.in_ok-bindings.bindings.items)) c.as_slice-5.ensures.value
    (subst (λ (ks : List ℕ). AreSound (read_files c.args.files.now) (bindings_at c.as_slice-5.result.now ks)) c.as_slice-6.ensures.value c.in_ok-test_all.ensures.sound))
    (subst (λ (ds : List (Option ResolvedData)). OnFault {X = Index} (Err c.in-Err.end) (λ f. twin_fault c.args.files.now (bindings_at ds (numbers_of c.in_ok-matches.matches.items)) ≡ Some f))
    c.as_slice-8.ensures.value
    (subst (λ (xs : List Match). OnFault {X = Index} (Err c.in-Err.end) (λ f. twin_fault c.args.files.now (bindings_at c.as_slice-8.result.now (numbers_of xs)) ≡ Some f))
    c.as_slice-7.ensures.value c.in-Err.ensures.fault))
