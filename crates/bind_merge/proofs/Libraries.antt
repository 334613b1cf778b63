-- What a library keeps of a load.
use Rattle.std.proofs.Common.{◌≡◌, ◌∙◌, sym, ap, subst, refl, ℕ, Bool, true, false, ◌||◌, if◌then◌else◌, nat_eq, List, [], ◌∷◌, Option, Some, None, IfSome}
use Rattle.std.proofs.lemmas.Bool.Decides.{Decides-eqb}
use Rattle.bind_merge.specs.Files.{FileData}
use Rattle.bind_merge.specs.Levels.{LevelTable}
use Rattle.bind_merge.specs.LibraryData.{BindingData, LibData, levels_of}
use Rattle.bind_merge.specs.Listing.{File, read_files}
use Rattle.bind_merge.specs.Loading.{AreSound, IsSound}
use Rattle.bind_merge.specs.Matching.{find_in, is_bound}
use Rattle.bind_merge.specs.Merging.{IsMerged}
use Rattle.bind_merge.specs.Ordered.{IsInOrder}
use Rattle.bind_merge.specs.ViewData.{AreTyped}
use Rattle.bind_merge.specs.declared.library.Loaded.{Loaded}
use Rattle.bind_merge.specs.Inner.Indexing.{in_index}
use Rattle.bind_merge.specs.Inner.Loaded.{IsKept, bindings_in}
use Rattle.bind_merge.specs.Inner.Resolving.{ResolvedData, resolved_at}
use Rattle.bind_merge.specs.Inner.Steps.{bindings_at, levels_in}
use Rattle.bind_merge.proofs.Twinned.{found_bound}
use Rattle.bind_merge.proofs.Typed.{rules_typed}

levels-kept : (resolved : List (Option ResolvedData)) (ks : List ℕ) (k : ℕ) → is_bound (bindings_at resolved ks) k ≡ true
    → levels_of (bindings_at resolved ks) k ≡ levels_in (resolved_at resolved k)
levels-kept resolved [] k e = absurd cc
levels-kept resolved (j ∷ js) k e = at (λ h. levels-kept resolved js k h) (nat_eq j k) refl e
  where
    at : (is_bound (bindings_at resolved js) k ≡ true → levels_of (bindings_at resolved js) k ≡ levels_in (resolved_at resolved k))
        → (b : Bool) → nat_eq j k ≡ b → (b || is_bound (bindings_at resolved js) k) ≡ true
        → (if b then levels_in (resolved_at resolved j) else levels_of (bindings_at resolved js) k) ≡ levels_in (resolved_at resolved k)
    at below true s h = ap (λ i. levels_in (resolved_at resolved i)) ((Decides-eqb j k).0 s)
    at below false s h = below h

bound-sound : (files : List FileData) (resolved : List (Option ResolvedData)) (ks : List ℕ) (k : ℕ) → AreSound files (bindings_at resolved ks)
    → is_bound (bindings_at resolved ks) k ≡ true → IsSound files k (levels_in (resolved_at resolved k))
bound-sound files resolved [] k s e = absurd cc
bound-sound files resolved (j ∷ js) k s e = at (λ h. bound-sound files resolved js k s.1 h) (nat_eq j k) refl e
  where
    at : (is_bound (bindings_at resolved js) k ≡ true → IsSound files k (levels_in (resolved_at resolved k)))
        → (b : Bool) → nat_eq j k ≡ b → (b || is_bound (bindings_at resolved js) k) ≡ true → IsSound files k (levels_in (resolved_at resolved k))
    at below true t h = subst (λ i. IsSound files i (levels_in (resolved_at resolved i))) ((Decides-eqb j k).0 t) s.0
    at below false t h = below h

-- the library's fields against what contracts see of it
module _ (fs : List File) (o : Option Loaded) (lib : LibData) (view : record { files = fs; bindings = bindings_in o } ≡ lib) (kept : IsKept fs o) where
  files-are : fs ≡ lib.files
  files-are = ap (λ (x : LibData). x.files) view

  bindings-are : bindings_in o ≡ lib.bindings
  bindings-are = ap (λ (x : LibData). x.bindings) view

  pub none_found : o ≡ None → (compat : List ℕ) (bus : Option (List ℕ)) → None ≡ find_in lib.files compat bus lib.bindings
  none_found e compat bus = ap (λ bs. find_in lib.files compat bus bs) (sym (ap bindings_in e) ∙ bindings-are)

  module _ (l : Loaded) (is : o ≡ Some l) where
    kept-is : IsKept fs (Some l)
    kept-is = subst (IsKept fs) is kept

    pub one_found : (compat : List ℕ) (bus : Option (List ℕ)) (r : Option ℕ) → r ≡ in_index l.index.groups.entries compat bus → r ≡ find_in lib.files compat bus lib.bindings
    one_found compat bus r e =
        e ∙ (kept-is.1 compat bus ∙ (ap (find_in fs compat bus) (sym (ap bindings_in is) ∙ bindings-are)
        ∙ ap (λ gs. find_in gs compat bus lib.bindings) files-are))

    module _ (k : ℕ) (bound : is_bound lib.bindings k ≡ true) where
      bound-is : is_bound (bindings_in (Some l)) k ≡ true
      bound-is = ap (λ bs. is_bound bs k) (sym (ap bindings_in is) ∙ bindings-are) ∙ bound

      sound-is : IsSound (read_files fs) k (levels_in (resolved_at l.resolved.items k))
      sound-is = bound-sound (read_files fs) l.resolved.items l.bindings.items k kept-is.0 bound-is

      pub view_levels : levels_in (resolved_at l.resolved.items k) ≡ levels_of lib.bindings k
      view_levels =
          sym (levels-kept l.resolved.items l.bindings.items k bound-is) ∙ ap (λ bs. levels_of bs k) (sym (ap bindings_in is) ∙ bindings-are)

      pub view_merged : IsMerged (read_files lib.files) k (levels_in (resolved_at l.resolved.items k))
      view_merged = subst (λ gs. IsMerged (read_files gs) k (levels_in (resolved_at l.resolved.items k))) files-are sound-is.merged

      pub view_in_order : IsInOrder (levels_in (resolved_at l.resolved.items k))
      view_in_order = sound-is.merged.in_order

      pub view_typed : AreTyped (levels_in (resolved_at l.resolved.items k))
      view_typed = rules_typed (levels_in (resolved_at l.resolved.items k)) sound-is.rules

  pub never_bound : o ≡ None → (k : ℕ) → is_bound lib.bindings k ≡ true → ⊥
  never_bound e k b = let x : is_bound [] k ≡ true = ap (λ bs. is_bound bs k) (sym (ap bindings_in e) ∙ bindings-are) ∙ b in cc

-- what is found is one of the bindings
pub found_some : (lib : LibData) (compat : List ℕ) (bus : Option (List ℕ)) (r : Option ℕ) → r ≡ find_in lib.files compat bus lib.bindings
    → IfSome r (λ k. is_bound lib.bindings k ≡ true)
found_some lib compat bus None e = tt
found_some lib compat bus (Some k) e = found_bound lib.files compat bus lib.bindings k (sym e)
