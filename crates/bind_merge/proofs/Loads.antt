-- The three steps of loading, one after another.
use Rattle.std.proofs.Common.{◌≡◌, ◌∙◌, sym, ap, subst, refl, inl, inr, ◌⊎◌, ℕ, true, List, [], ◌∷◌, Option, Some, None, Err}
use Rattle.std.specs.List.{list_all}
use Rattle.edt_base.specs.declared.fault.End.{End}
use Rattle.edt_base.specs.declared.fault.End.TheVariants as ending
use Rattle.edt_base.specs.declared.fault.Fault.{Fault}
use Rattle.bind_merge.specs.Files.{FileData}
use Rattle.bind_merge.specs.LibraryData.{BindingData}
use Rattle.bind_merge.specs.Listing.{File, read_files}
use Rattle.bind_merge.specs.Loading.{AreSound, IsFirstBroken, IsFirstFault, IsLoaded, OnFault, matching, text_fault, twin_fault}
use Rattle.bind_merge.specs.Options.{first_some}
use Rattle.bind_merge.specs.declared.matching.Match.{Match}
use Rattle.bind_merge.specs.declared.reading.Read.{Read}
use Rattle.bind_merge.specs.Inner.Heights.{AllResolved}
use Rattle.bind_merge.specs.Inner.Indexing.{IndexData, IsIndexOf}
use Rattle.bind_merge.specs.Inner.Reading.{AreRead, IsClosed, is_read_at}
use Rattle.bind_merge.specs.Inner.Resolving.{AreNames, NameData, ResolvedData}
use Rattle.bind_merge.specs.Inner.Spreading.{HasSpread, is_among}
use Rattle.bind_merge.specs.Inner.Steps.{HasMatched, bindings_at, numbers_of}
use Rattle.bind_merge.specs.Inner.Ways.{IsKnown}
use Rattle.bind_merge.proofs.Spreading.{all_more, spread_ends}
use Rattle.bind_merge.proofs.Tested.{files_at}

module _ (files : List File) (compats : List (List ℕ)) (ms : List Match) (start : List (Option Read)) (numbers : List ℕ)
    (matched : HasMatched files files compats ms start) (are : numbers ≡ numbers_of ms) where
  pub only_first : (k : ℕ) → is_read_at start k ≡ true → is_among numbers k ≡ true
  only_first k r = ap (λ ks. is_among ks k) are ∙ matched.only k r

  numbers-are : numbers ≡ matching compats files
  numbers-are = are ∙ matched.numbers

  module _ (names : NameData) (reads : List (Option Read)) (spread : HasSpread (read_files files) names start reads []) where
    pub first_read : list_all (is_read_at reads) numbers ≡ true
    first_read = ap (list_all (is_read_at reads)) are ∙ all_more start reads spread.kept (numbers_of ms) matched.all

    module _ (resolved : List (Option ResolvedData)) where
      pub is_known : AreNames (read_files files) names → AllResolved names reads 17 resolved → IsKnown (read_files files) names reads resolved
      is_known named all =
          let read : AreRead (read_files files) reads = spread.sound matched.sound in
          let closed : IsClosed names reads = spread_ends (read_files files) names start reads [] refl spread in
          record { named = named; read = read; closed = closed; done = all (read_files files) named read closed }

      pub all_loaded : AreSound (read_files files) (bindings_at resolved numbers) → twin_fault files (bindings_at resolved (numbers_of ms)) ≡ None
          → IsLoaded files compats (bindings_at resolved numbers)
      all_loaded sound single = record {
        texts = matched.texts;
        files_are = files_at resolved numbers ∙ numbers-are;
        sound = sound;
        single = ap (λ ks. twin_fault files (bindings_at resolved ks)) are ∙ single;
      }

      pub all_indexed : (index : IndexData) → IsIndexOf files (bindings_at resolved (numbers_of ms)) index → IsIndexOf files (bindings_at resolved numbers) index
      all_indexed index h = subst (λ ks. IsIndexOf files (bindings_at resolved ks) index) (sym are) h

      pub at_first_broken : (f : Fault) → IsFirstBroken (read_files files) numbers f → IsFirstFault files compats f
      at_first_broken f h = inr (matched.texts, inl (subst (λ ks. IsFirstBroken (read_files files) ks f) numbers-are h))

      pub at_first_twin : (f : Fault) → AreSound (read_files files) (bindings_at resolved numbers) → twin_fault files (bindings_at resolved (numbers_of ms)) ≡ Some f
          → IsFirstFault files compats f
      at_first_twin f sound twin = inr (
        matched.texts,
        inr (record {
          bindings = bindings_at resolved numbers;
          files_are = files_at resolved numbers ∙ numbers-are;
          sound = sound;
          twin = ap (λ ks. twin_fault files (bindings_at resolved ks)) are ∙ twin;
        }),
      )

      pub at_end : (X Y : Type 0) (end : End) → AreSound (read_files files) (bindings_at resolved numbers)
          → OnFault {X = X} (Err end) (λ f. twin_fault files (bindings_at resolved (numbers_of ms)) ≡ Some f) → OnFault {X = Y} (Err end) (IsFirstFault files compats)
      at_end X Y (ending.Fault f) sound twin = at_first_twin f sound twin
      at_end X Y (ending.Memory e) sound twin = tt
