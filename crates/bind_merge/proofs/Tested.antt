-- Step two of loading, at one binding and at those in order.
use Rattle.std.proofs.Common.{◌≡◌, ◌≢◌, ◌∙◌, sym, ap, subst, refl, inl, inr, ◌⊎◌, ℕ, ◌+◌, ◌<◌, ◌≤◌, Bool, true, false, List, [], ◌∷◌, ◌++◌, length, get_or, take, drop, map, Option, Some, None, Result, Ok, Err, OnOk, is_some, arith}
use Rattle.std.specs.List.{slice_get}
use Rattle.std.specs.Option.{option_and_then, option_map, option_map_or}
use Rattle.std.proofs.lemmas.List.{map-append}
use Rattle.std.proofs.lemmas.Option.{slice_get-map, slice_get-get_or, slice_get_within}
use Rattle.edt_base.specs.declared.fault.End.{End}
use Rattle.edt_base.specs.declared.fault.End.TheVariants as ending
use Rattle.edt_base.specs.declared.fault.Fault.{Fault}
use Rattle.bind_load.specs.RecordData.{LevelData}
use Rattle.edt_base.specs.declared.fault.Rule.TheVariants as rule
use Rattle.yaml_profile.specs.Reading.{reading}
use Rattle.bind_merge.specs.Checks.{merged_rule}
use Rattle.bind_merge.specs.Cleanness.{is_clean}
use Rattle.bind_merge.specs.Conflicts.{HasConflict}
use Rattle.bind_merge.specs.Files.{FileData, file_fault, name_of, record_at}
use Rattle.bind_merge.specs.Levels.{LevelTable}
use Rattle.bind_merge.specs.LibraryData.{BindingData}
use Rattle.bind_merge.specs.Listing.{File, file_data, read_files}
use Rattle.bind_merge.specs.Loading.{AreSound, BreaksAt, IsFirstBroken, IsSound, OnFault, files_of}
use Rattle.bind_merge.specs.Matching.{compatible_at, compatible_in}
use Rattle.bind_merge.specs.Merging.{IsMerged}
use Rattle.bind_merge.specs.Walks.{binding_walk}
use Rattle.bind_merge.specs.declared.reading.Read.{Read}
use Rattle.bind_merge.specs.Inner.Heights.{IsLow}
use Rattle.bind_merge.specs.Inner.Reading.{AreRead, IsReadAt, is_read_at, read_at}
use Rattle.bind_merge.specs.Inner.Resolving.{IsSettled, NameData, ResolvedData, resolved_at}
use Rattle.bind_merge.specs.Inner.Steps.{BreaksRule, KeepsRules, binding_at, bindings_at, levels_in}
use Rattle.bind_merge.specs.Inner.Ways.{IsKnown, clean_in, walk_in}
use Rattle.bind_merge.proofs.Heights.{clean-le}
use Rattle.bind_merge.proofs.Places.{at_split, at_take}
use Rattle.bind_merge.proofs.Walking.{clean-walk, walk-clean}
use Rattle.bind_merge.proofs.Ways.{folded}

-- ---- a read file is listed

pub read_listed : (files : List File) (reads : List (Option Read)) (k : ℕ) → AreRead (read_files files) reads → is_read_at reads k ≡ true → k < length files
read_listed files reads k a e = at (read_at reads k) refl e
  where
    listed : (o : Option File) → slice_get files k ≡ o → is_some o ≡ true → k < length files
    listed None f g = absurd cc
    listed (Some x) f g = slice_get_within files k x f

    some : (o : Option File) (c : Result (List LevelData) Fault) → option_map (λ (d : FileData). d.content) (option_map file_data o) ≡ Some c → is_some o ≡ true
    some None c h = absurd cc
    some (Some y) c h = refl

    at : (o : Option Read) → read_at reads k ≡ o → is_some o ≡ true → k < length files
    at None f g = absurd cc
    at (Some r) f g =
        let x : IsReadAt (read_files files) k r = a k r f in
        listed (slice_get files k) refl (some (slice_get files k) x.content
        (ap (option_map (λ (d : FileData). d.content)) (sym (slice_get-map file_data files k)) ∙ x.content_is))

pub string_listed : (files : List File) (k : ℕ) (text : List ℕ) → compatible_at files k ≡ Some text → k < length files
string_listed files k text e = at (slice_get files k) refl e
  where
    at : (o : Option File) → slice_get files k ≡ o → option_and_then (λ (f : File). compatible_in (reading f.1)) o ≡ Some text → k < length files
    at None g h = absurd cc
    at (Some x) g h = slice_get_within files k x g

pub name_listed : (files : List File) (k : ℕ) (f : File) → slice_get files k ≡ Some f → name_of (read_files files) k ≡ f.0
name_listed files k f e =
    ap (λ (o : Option FileData). option_map_or (λ (d : FileData). d.name) o []) (slice_get-map file_data files k ∙ ap (option_map file_data) e)

-- ---- one binding

module _ (files : List FileData) (names : NameData) (reads : List (Option Read)) (resolved : List (Option ResolvedData)) (known : IsKnown files names reads resolved) where
  unresolved-at : (b d : ℕ) → d < 17 → binding_walk files b ≡ walk_in d files [] b → is_read_at reads b ≡ true → resolved_at resolved b ≡ None
      → binding_walk files b ≢ None
  unfolding walk_in
  unresolved-at b d l w r n e =
      let c : is_clean files d b ≡ true = walk-clean d files [] b (sym w ∙ e) in
      let x : IsLow resolved b d = known.done.all b d l r c in
      let y : resolved_at resolved b ≡ Some x.found = x.found_is in
      absurd cc

  pub unresolved : (b : ℕ) → is_read_at reads b ≡ true → resolved_at resolved b ≡ None → binding_walk files b ≢ None
  unresolved b r n = unresolved-at b 16 (omega arith) (folded files b) r n

  walked-at : (b d : ℕ) (r : ResolvedData) → d + 1 ≡ 17 → binding_walk files b ≡ walk_in d files [] b → resolved_at resolved b ≡ Some r → binding_walk files b ≡ None
  unfolding walk_in
  walked-at b d r l w e =
      let s : (r.height < 17) × (is_clean files r.height b ≡ true) = known.done.sound b r e in
      let h = s.0 in
      w ∙ clean-walk d files [] b (clean-le files b r.height d (omega (arith, h, l)) s.1) tt

  walked : (b : ℕ) (r : ResolvedData) → resolved_at resolved b ≡ Some r → binding_walk files b ≡ None
  walked b r e = walked-at b 16 r refl (folded files b) e

  module _ (b : ℕ) (r : ResolvedData) (found : resolved_at resolved b ≡ Some r) where
    settled : (o : Option (List LevelTable)) → r.levels ≡ o → IsSettled files b o
    settled o e = subst (λ x. IsSettled files b x) e (known.done.settled b r found)

    levels-are : (ls : List LevelTable) → r.levels ≡ Some ls → levels_in (resolved_at resolved b) ≡ ls
    levels-are ls e = ap levels_in found ∙ ap (λ o. option_map_or (λ x. x) o []) e

    pub is_sound : KeepsRules r.levels → IsSound files b (levels_in (resolved_at resolved b))
    is_sound k = at r.levels refl k
      where
        at : (o : Option (List LevelTable)) → r.levels ≡ o → KeepsRules o → IsSound files b (levels_in (resolved_at resolved b))
        at None e h = absurd h
        at (Some ls) e h =
            let s : IsMerged files b ls × (HasConflict files b → ⊥) = settled (Some ls) e in
            subst (λ ts. IsSound files b ts) (sym (levels-are ls e)) (record { walked = walked b r found; agrees = s.1; merged = s.0; rules = h })

    pub is_broken : (name : List ℕ) (f : Fault) → name_of files b ≡ name → BreaksRule name r.levels f → BreaksAt files b f
    is_broken name f n k = at r.levels refl k
      where
        at : (o : Option (List LevelTable)) → r.levels ≡ o → BreaksRule name o f → BreaksAt files b f
        at None e h =
            inr (walked b r found, inl (settled None e, h ∙ ap (file_fault rule.B11) (sym n)))
        at (Some ls) e h =
            let s : IsMerged files b ls × (HasConflict files b → ⊥) = settled (Some ls) e in
            inr (walked b r found, inr (s.1, (ls, s.0, h.0, h.1 ∙ ap (file_fault f.rule) (sym n))))

    pub tells_sound : (o : Result (Unit {0}) End) → OnOk o (KeepsRules r.levels) → OnOk o (IsSound files b (levels_in (resolved_at resolved b)))
    tells_sound (Ok u) h = is_sound h
    tells_sound (Err e) h = tt

    pub tells_broken : (name : List ℕ) → name_of files b ≡ name → (o : Result (Unit {0}) End) → OnFault o (BreaksRule name r.levels) → OnFault o (BreaksAt files b)
    tells_broken name n (Ok u) h = tt
    tells_broken name n (Err (ending.Fault f)) h = is_broken name f n h
    tells_broken name n (Err (ending.Memory e)) h = tt

-- ---- the bindings in order

pub files_at : (resolved : List (Option ResolvedData)) (ks : List ℕ) → files_of (bindings_at resolved ks) ≡ ks
files_at resolved [] = refl
files_at resolved (k ∷ ks) = ap (λ js. k ∷ js) (files_at resolved ks)

sound-snoc : (files : List FileData) (bs : List BindingData) (b : BindingData) → AreSound files bs → IsSound files b.file b.levels → AreSound files (bs ++ b ∷ [])
sound-snoc files [] b s h = (h, tt)
sound-snoc files (x ∷ xs) b s h = (s.0, sound-snoc files xs b s.1 h)

module _ (files : List FileData) (resolved : List (Option ResolvedData)) (ks : List ℕ) (i k : ℕ) (l : i < length ks) (is : get_or ks i k ≡ k)
    (before : AreSound files (bindings_at resolved (take i ks))) where
  pub sound_more : IsSound files k (levels_in (resolved_at resolved k)) → AreSound files (bindings_at resolved (take (i + 1) ks))
  sound_more h =
      subst (λ bs. AreSound files bs)
      (sym (ap (bindings_at resolved) (at_take ks i k l is) ∙ map-append (binding_at resolved) (take i ks) (k ∷ [])))
      (sound-snoc files (bindings_at resolved (take i ks)) (binding_at resolved k) before h)

  pub first_broken : (f : Fault) → BreaksAt files k f → IsFirstBroken files ks f
  first_broken f h = record {
    before = bindings_at resolved (take i ks);
    broken = k;
    after = drop (i + 1) ks;
    parts = at_split ks i k l is ∙ ap (λ js. js ++ k ∷ drop (i + 1) ks) (sym (files_at resolved (take i ks)));
    sound = before;
    breaks = h;
  }

  pub first_end : (end : End) → OnFault {X = Unit {0}} (Err end) (BreaksAt files k) → OnFault {X = Unit {0}} (Err end) (IsFirstBroken files ks)
  first_end (ending.Fault f) h = first_broken f h
  first_end (ending.Memory e) h = tt
