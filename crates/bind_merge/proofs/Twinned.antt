-- The bindings that an index finds, with one more.
use Rattle.std.proofs.Common.{◌≡◌, ◌∙◌, sym, ap, subst, refl, ◌+◌, ◌<◌, length, get_or, take, drop, ℕ, Bool, true, false, ◌||◌, ◌&&◌, if◌then◌else◌, List, [], ◌∷◌, ◌++◌, append_assoc, Option, Some, None, Err, is_some}
use Rattle.std.specs.List.{list_any}
use Rattle.std.specs.Str.{bytes_eq}
use Rattle.std.proofs.lemmas.Bool.Decides.{Decides-eqb}
use Rattle.std.proofs.lemmas.Option.{slice_get-get_or}
use Rattle.std.proofs.lemmas.Slice.Eq.{bytes_eq-Decides}
use Rattle.edt_base.specs.declared.fault.End.{End}
use Rattle.edt_base.specs.declared.fault.End.TheVariants as ending
use Rattle.edt_base.specs.declared.fault.Fault.{Fault}
use Rattle.edt_base.specs.declared.fault.Rule.TheVariants as rule
use Rattle.bind_merge.specs.Files.{file_fault, name_of}
use Rattle.bind_merge.specs.LibraryData.{BindingData}
use Rattle.bind_merge.specs.Listing.{File, read_files}
use Rattle.bind_merge.specs.Loading.{OnFault, is_twin, twin_fault, twin_fault_from}
use Rattle.bind_merge.specs.Matching.{bus_of, compatible_at, find_in, is_bound, is_for, is_same}
use Rattle.bind_merge.specs.Options.{or_else}
use Rattle.bind_merge.specs.declared.matching.Match.{Match}
use Rattle.bind_merge.specs.Inner.Indexing.{HasPair, IndexData, IsIndexOf, in_index}
use Rattle.bind_merge.specs.Inner.Resolving.{ResolvedData, resolved_at}
use Rattle.bind_merge.specs.Inner.Steps.{AreStrings, binding_at, bindings_at, levels_in, numbers_of}
use Rattle.bind_merge.proofs.Matched.{string_at}
use Rattle.bind_merge.proofs.Places.{at_split, at_take}

or-none : {A : Type 0} (o : Option A) → or_else o None ≡ o
or-none None = refl
or-none (Some x) = refl

same-is : (a b : Option (List ℕ)) → is_same a b ≡ true → a ≡ b
same-is None None e = refl
same-is (Some a) (Some b) e = ap Some ((bytes_eq-Decides a b).0 e)
same-is None (Some b) e = absurd cc
same-is (Some a) None e = absurd cc

and-parts : (a b : Bool) → (a && b) ≡ true → (a ≡ true) × (b ≡ true)
and-parts true b e = (refl, e)
and-parts false b e = absurd cc

module _ (files : List File) where
  abbrev found_if : List ℕ → Option (List ℕ) → BindingData → Option ℕ
  found_if q r b = if is_for files (Some q) r b then Some b.file else None

  find-snoc : (q : List ℕ) (r : Option (List ℕ)) (xs : List BindingData) (b : BindingData)
      → find_in files q r (xs ++ b ∷ []) ≡ or_else (find_in files q r xs) (found_if q r b)
  find-snoc q r [] b = refl
  find-snoc q r (x ∷ xs) b = at (is_for files (Some q) r x) (find-snoc q r xs b)
    where
      at : (t : Bool) → find_in files q r (xs ++ b ∷ []) ≡ or_else (find_in files q r xs) (found_if q r b)
          → (if t then Some x.file else find_in files q r (xs ++ b ∷ [])) ≡ or_else (if t then Some x.file else find_in files q r xs) (found_if q r b)
      at true h = refl
      at false h = h

  find-any : (q : List ℕ) (r : Option (List ℕ)) (xs : List BindingData) → is_some (find_in files q r xs) ≡ list_any (is_for files (Some q) r) xs
  find-any q r [] = refl
  find-any q r (x ∷ xs) = at (is_for files (Some q) r x) (find-any q r xs)
    where
      at : (t : Bool) → is_some (find_in files q r xs) ≡ list_any (is_for files (Some q) r) xs
          → is_some (if t then Some x.file else find_in files q r xs) ≡ (t || list_any (is_for files (Some q) r) xs)
      at true h = refl
      at false h = h

  twin-append : (before xs ys : List BindingData)
      → twin_fault_from files before (xs ++ ys) ≡ or_else (twin_fault_from files before xs) (twin_fault_from files (before ++ xs) ys)
  twin-append before [] ys = ap (λ bs. twin_fault_from files bs ys) (sym (append-none before))
    where
      append-none : (bs : List BindingData) → bs ++ [] ≡ bs
      append-none [] = refl
      append-none (b ∷ bs) = ap (λ cs. b ∷ cs) (append-none bs)
  twin-append before (x ∷ xs) ys =
      at (is_twin files before x)
      (twin-append (before ++ x ∷ []) xs ys ∙ ap (λ bs. or_else (twin_fault_from files (before ++ x ∷ []) xs) (twin_fault_from files bs ys)) (append_assoc before (x ∷ []) xs))
    where
      fault : Option Fault
      fault = Some (file_fault rule.B12 (name_of (read_files files) x.file))

      at : (t : Bool) → twin_fault_from files (before ++ x ∷ []) (xs ++ ys)
          ≡ or_else (twin_fault_from files (before ++ x ∷ []) xs) (twin_fault_from files (before ++ x ∷ xs) ys)
          → (if t then fault else twin_fault_from files (before ++ x ∷ []) (xs ++ ys))
          ≡ or_else (if t then fault else twin_fault_from files (before ++ x ∷ []) xs) (twin_fault_from files (before ++ x ∷ xs) ys)
      at true h = refl
      at false h = h

  -- an index and the next binding
  module _ (bs : List BindingData) (b : BindingData) (compat : List ℕ) (bus : Option (List ℕ)) (index : IndexData)
      (of : IsIndexOf files bs index) (string : compatible_at files b.file ≡ Some compat) (on : bus_of b.levels ≡ bus) where
    twin-is : is_twin files bs b ≡ is_some (in_index index compat bus)
    twin-is =
        ap (λ o. list_any (is_for files o (bus_of b.levels)) bs) string
        ∙ (ap (λ o. list_any (is_for files (Some compat) o) bs) on
        ∙ (sym (find-any compat bus bs) ∙ ap is_some (sym (of compat bus))))

    pub index_more : (more : IndexData) → in_index index compat bus ≡ None → HasPair index compat bus b.file more → IsIndexOf files (bs ++ b ∷ []) more
    index_more more free has q r =
        at (is_for files (Some q) r b) refl
      where
        for-is : is_for files (Some q) r b ≡ (bytes_eq compat q && is_same bus r)
        for-is = ap (λ o. is_same o (Some q) && is_same (bus_of b.levels) r) string ∙ ap (λ o. bytes_eq compat q && is_same o r) on

        at : (t : Bool) → is_for files (Some q) r b ≡ t → in_index more q r ≡ find_in files q r (bs ++ b ∷ [])
        at true e =
            let p : (bytes_eq compat q && is_same bus r) ≡ true = sym for-is ∙ e in
            let s : (bytes_eq compat q ≡ true) × (is_same bus r ≡ true) = and-parts _ _ p in
            let c : compat ≡ q = (bytes_eq-Decides compat q).0 s.0 in
            let d : bus ≡ r = same-is bus r s.1 in
            let f : find_in files q r bs ≡ None = sym (of q r) ∙ (ap (λ x. in_index index x r) (sym c) ∙ (ap (in_index index compat) (sym d) ∙ free)) in
            has q r ∙ (ap (λ x. if x then Some b.file else in_index index q r) p
            ∙ sym (find-snoc q r bs b ∙ (ap (λ o. or_else o (found_if q r b)) f ∙ ap (λ x. if x then Some b.file else None) e)))
        at false e =
            let p : (bytes_eq compat q && is_same bus r) ≡ false = sym for-is ∙ e in
            has q r ∙ (ap (λ x. if x then Some b.file else in_index index q r) p
            ∙ (of q r ∙ sym (find-snoc q r bs b ∙ (ap (λ x. or_else (find_in files q r bs) (if x then Some b.file else None)) e ∙ or-none (find_in files q r bs)))))

    pub single_more : in_index index compat bus ≡ None → twin_fault files bs ≡ None → twin_fault files (bs ++ b ∷ []) ≡ None
    single_more free none =
        let t : is_twin files bs b ≡ false = twin-is ∙ ap is_some free in
        twin-append [] bs (b ∷ []) ∙ (ap (λ o. or_else o (twin_fault_from files bs (b ∷ []))) none
        ∙ ap (λ x. if x then Some (file_fault rule.B12 (name_of (read_files files) b.file)) else None) t)

    pub twin_found : (rest : List BindingData) → is_some (in_index index compat bus) ≡ true → twin_fault files bs ≡ None
        → twin_fault files (bs ++ b ∷ rest) ≡ Some (file_fault rule.B12 (name_of (read_files files) b.file))
    twin_found rest taken none =
        let t : is_twin files bs b ≡ true = twin-is ∙ taken in
        twin-append [] bs (b ∷ rest) ∙ (ap (λ o. or_else o (twin_fault_from files bs (b ∷ rest))) none
        ∙ ap (λ x. if x then Some (file_fault rule.B12 (name_of (read_files files) b.file)) else twin_fault_from files (bs ++ b ∷ []) rest) t)

-- what is found is one of the bindings
pub found_bound : (files : List File) (q : List ℕ) (r : Option (List ℕ)) (bs : List BindingData) (k : ℕ) → find_in files q r bs ≡ Some k → is_bound bs k ≡ true
found_bound files q r [] k e = absurd cc
found_bound files q r (b ∷ bs) k e = at (is_for files (Some q) r b) (λ h. found_bound files q r bs k h) e
  where
    or-right : (a c : Bool) → c ≡ true → (a || c) ≡ true
    or-right true c h = refl
    or-right false c h = h

    or-left : (a c : Bool) → a ≡ true → (a || c) ≡ true
    or-left true c h = refl
    or-left false c h = absurd cc

    at : (t : Bool) → (find_in files q r bs ≡ Some k → is_bound bs k ≡ true) → (if t then Some b.file else find_in files q r bs) ≡ Some k → is_bound (b ∷ bs) k ≡ true
    at true below h = let s : b.file ≡ k = cc in or-left _ _ ((Decides-eqb b.file k).1 s)
    at false below h = or-right _ _ (below h)

-- ---- the bindings of the matching files in order

module _ (files : List File) (resolved : List (Option ResolvedData)) (ms : List Match) (i : ℕ) (m : Match) (l : i < length ms) (is : get_or ms i m ≡ m)
    (strings : AreStrings files ms) (index more : IndexData)
    (of : IsIndexOf files (bindings_at resolved (numbers_of (take i ms))) index)
    (none : twin_fault files (bindings_at resolved (numbers_of (take i ms))) ≡ None) where
  abbrev the_before : List BindingData
  the_before = bindings_at resolved (numbers_of (take i ms))

  abbrev the_one : BindingData
  the_one = binding_at resolved m.file

  abbrev the_bus : Option (List ℕ)
  the_bus = bus_of (levels_in (resolved_at resolved m.file))

  string : compatible_at files m.file ≡ Some m.compatible
  string = string_at files ms i m (slice_get-get_or ms i m l ∙ ap Some is) strings

  joined : (xs ys : List Match) → bindings_at resolved (numbers_of (xs ++ ys)) ≡ bindings_at resolved (numbers_of xs) ++ bindings_at resolved (numbers_of ys)
  joined [] ys = refl
  joined (x ∷ xs) ys = ap (λ bs. binding_at resolved x.file ∷ bs) (joined xs ys)

  more-is : bindings_at resolved (numbers_of (take (i + 1) ms)) ≡ the_before ++ the_one ∷ []
  more-is = ap (λ xs. bindings_at resolved (numbers_of xs)) (at_take ms i m l is) ∙ joined (take i ms) (m ∷ [])

  all-is : bindings_at resolved (numbers_of ms) ≡ the_before ++ the_one ∷ bindings_at resolved (numbers_of (drop (i + 1) ms))
  all-is = ap (λ xs. bindings_at resolved (numbers_of xs)) (at_split ms i m l is) ∙ joined (take i ms) (m ∷ drop (i + 1) ms)

  pub indexed_more : in_index index m.compatible the_bus ≡ None → HasPair index m.compatible the_bus m.file more
      → IsIndexOf files (bindings_at resolved (numbers_of (take (i + 1) ms))) more × (twin_fault files (bindings_at resolved (numbers_of (take (i + 1) ms))) ≡ None)
  indexed_more free has = (
    subst (λ bs. IsIndexOf files bs more) (sym more-is) (index_more files the_before the_one m.compatible the_bus index of string refl more free has),
    ap (twin_fault files) more-is ∙ single_more files the_before the_one m.compatible the_bus index of string refl free none,
  )

  pub first_twin : (f : Fault) → is_some (in_index index m.compatible the_bus) ≡ true → f ≡ file_fault rule.B12 (name_of (read_files files) m.file)
      → twin_fault files (bindings_at resolved (numbers_of ms)) ≡ Some f
  first_twin f taken e =
      ap (twin_fault files) all-is
      ∙ (twin_found files the_before the_one m.compatible the_bus index of string refl (bindings_at resolved (numbers_of (drop (i + 1) ms))) taken none ∙ ap Some (sym e))

  pub twin_end : (X : Type 0) (end : End) → OnFault {X = Unit {0}} (Err end) (λ f. is_some (in_index index m.compatible the_bus) ≡ true)
      → OnFault {X = Unit {0}} (Err end) (λ f. f ≡ file_fault rule.B12 (name_of (read_files files) m.file))
      → OnFault {X = X} (Err end) (λ f. twin_fault files (bindings_at resolved (numbers_of ms)) ≡ Some f)
  twin_end X (ending.Fault f) taken e = first_twin f taken e
  twin_end X (ending.Memory x) taken e = tt
