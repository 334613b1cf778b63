-- The way down to a binding's first fault, file by file.
use Rattle.std.proofs.Common.{◌≡◌, ◌≢◌, ◌∙◌, sym, ap, subst, refl, ℕ, suc, ◌+◌, ◌-◌, ◌<◌, ◌≤◌, ◌++◌, Bool, true, false, nat_lt, List, [], ◌∷◌, Option, Some, None, is_some, length, get_or, arith}
use Rattle.std.specs.List.{slice_get}
use Rattle.std.specs.Option.{option_and_then}
use Rattle.std.proofs.lemmas.Bool.Decides.{Decides-ltb}
use Rattle.std.proofs.lemmas.Option.{slice_get_read, slice_get_within}
use Rattle.edt_base.specs.declared.fault.Fault.{Fault}
use Rattle.bind_merge.specs.Files.{FileData}
use Rattle.bind_merge.specs.Listing.{File, read_files}
use Rattle.bind_merge.specs.Walks.{binding_walk}
use Rattle.bind_merge.specs.declared.reading.Read.{Read}
use Rattle.bind_merge.specs.declared.walk.Next.{Next}
use Rattle.bind_merge.specs.declared.walk.Next.TheVariants as next
use Rattle.bind_merge.specs.Inner.Reading.{is_read_at, read_at}
use Rattle.bind_merge.specs.Inner.Resolving.{NameData, ResolvedData}
use Rattle.bind_merge.specs.Inner.Ways.{ComesTo, HasCome, IsKnown, next_of}
use Rattle.bind_merge.proofs.Tested.{name_listed, read_listed}
use Rattle.bind_merge.proofs.Ways.{StepsTo, way_begins, way_step}

-- what is read at a place
pub got : {X : Type 0} (xs : List X) (j k : ℕ) (x : X) → j ≡ k → j < length xs → x ≡ get_or xs j x → slice_get xs k ≡ Some x
got xs j k x e l is = subst (λ i. slice_get xs i ≡ Some x) e (slice_get_read xs (length xs) j x refl l is)

module _ (files : List File) (names : NameData) (reads : List (Option Read)) (resolved : List (Option ResolvedData)) (b : ℕ)
    (known : IsKnown (read_files files) names reads resolved) (broken : binding_walk (read_files files) b ≢ None) where
  pub way_goes : (depth left k : ℕ) (items more : List ℕ) (f : File) (r : Option Read) (n : Next) → left ≡ 16 - depth → slice_get files k ≡ Some f
      → slice_get reads k ≡ Some r → more ≡ items ++ k ∷ [] → n ≡ next_of names resolved f.0 left more r
      → HasCome (read_files files) reads b depth k items → StepsTo (read_files files) reads b left more n
  way_goes depth left k items more f r n e in-files in-reads is-more is h =
      let p = h.1 in
      let same : h.0 ≡ left = omega (arith, p, e) in
      let small : h.0 < 17 = omega (arith, p) in
      let step : StepsTo (read_files files) reads b h.0 (items ++ k ∷ []) (next_of names resolved f.0 h.0 (items ++ k ∷ []) (read_at reads k))
      = way_step (read_files files) names reads resolved known b h.0 k items f.0 (sym (name_listed files k f in-files)) small broken h.2 in
      let read-is : read_at reads k ≡ r = ap (option_and_then (λ x. x)) in-reads in
      let one : StepsTo (read_files files) reads b h.0 (items ++ k ∷ []) (next_of names resolved f.0 h.0 (items ++ k ∷ []) r)
      = subst (λ o. StepsTo (read_files files) reads b h.0 (items ++ k ∷ []) (next_of names resolved f.0 h.0 (items ++ k ∷ []) o)) read-is step in
      let two : StepsTo (read_files files) reads b left (items ++ k ∷ []) (next_of names resolved f.0 left (items ++ k ∷ []) r)
      = subst (λ d. StepsTo (read_files files) reads b d (items ++ k ∷ []) (next_of names resolved f.0 d (items ++ k ∷ []) r)) same one in
      let three : StepsTo (read_files files) reads b left more (next_of names resolved f.0 left more r)
      = subst (λ ks. StepsTo (read_files files) reads b left ks (next_of names resolved f.0 left ks r)) (sym is-more) two in
      subst (λ m. StepsTo (read_files files) reads b left more m) (sym is) three

  pub never_unlisted : (depth j k : ℕ) (items : List ℕ) → j ≡ k → false ≡ nat_lt j (length files) → HasCome (read_files files) reads b depth k items → ⊥
  never_unlisted depth j k items e n h =
      let l : k < length files = read_listed files reads k known.read h.2.read in
      let t : nat_lt k (length files) ≡ true = (Decides-ltb k (length files)).1 l in
      let f : nat_lt j (length files) ≡ nat_lt k (length files) = ap (λ i. nat_lt i (length files)) e in
      cc

  pub never_unread : (depth j k : ℕ) (items : List ℕ) → j ≡ k → false ≡ nat_lt j (length reads) → HasCome (read_files files) reads b depth k items → ⊥
  never_unread depth j k items e n h = at (slice_get reads k) refl h.2.read
    where
      at : (o : Option (Option Read)) → slice_get reads k ≡ o → is_read_at reads k ≡ true → ⊥
      at None g r =
          let f : is_read_at reads k ≡ false = ap (λ (x : Option (Option Read)). is_some (option_and_then (λ y. y) x)) g in
          cc
      at (Some x) g r =
          let l : k < length reads = slice_get_within reads k x g in
          let t : nat_lt k (length reads) ≡ true = (Decides-ltb k (length reads)).1 l in
          let f : nat_lt j (length reads) ≡ nat_lt k (length reads) = ap (λ i. nat_lt i (length reads)) e in
          cc

pub way_down : (files : List FileData) (reads : List (Option Read)) (b depth above left t : ℕ) (items : List ℕ) → left ≡ 16 - depth → above ≡ depth + 1
    → StepsTo files reads b left items (next.Down t) → HasCome files reads b above t items
way_down files reads b depth above left t items e f s = let g = s.1 in (s.0, omega (arith, g, e, f), s.2)

pub way_ends : (files : List FileData) (reads : List (Option Read)) (b depth k : ℕ) (items : List ℕ) → 17 ≤ depth → HasCome files reads b depth k items → ⊥
way_ends files reads b depth k items l h = let p = h.1 in omega (arith, p, l)
