-- What a set of texts knows of their numbers.
use Rattle.std.proofs.Common.{◌≡◌, ℕ, zero, suc, true, false, List, [], ◌∷◌, ◌++◌, Some, map, refl, sym, ap, ◌∙◌, subst, true≢false, inl, inr}
use Rattle.std.specs.Prelude.{slice_get}
use Rattle.std.specs.List.{AllByRecursion, IsDistinct, list_any}
use Rattle.std.specs.Option.{option_map}
use Rattle.std.specs.Str.{bytes_eq}
use Rattle.std.proofs.lemmas.Bool.{cases_Bool}
use Rattle.std.proofs.lemmas.List.{map-append}
use Rattle.std.proofs.lemmas.Option.{slice_get-map}
use Rattle.std.proofs.lemmas.Slice.Eq.{bytes_eq-Decides}
use Rattle.indexmap.specs.IndexSet.{insert_key}
use Rattle.dt_names.specs.Inner.Keys.{AreDistinct, Keeps}

pub same_text : (a b : List ℕ) → bytes_eq a b ≡ true → a ≡ b
same_text a b e = (bytes_eq-Decides a b).0 e

itself_text : (a b : List ℕ) → a ≡ b → bytes_eq a b ≡ true
itself_text a b e = (bytes_eq-Decides a b).1 e

pub keeps_all : (texts : List (List ℕ)) → Keeps texts texts
keeps_all texts i t h = h

-- texts that are put behind others leave their numbers
pub keeps_more : (texts more : List (List ℕ)) → Keeps texts (texts ++ more)
keeps_more [] more i t h = absurd (cc)
keeps_more (x ∷ xs) more zero t h = h
keeps_more (x ∷ xs) more (suc i) t h = keeps_more xs more i t h

module _ {K : Type 0} (f : K → List ℕ) where
  not_later : (k : K) (ks : List K) (j : ℕ) → AllByRecursion (λ y. bytes_eq (f k) (f y) ≡ false) ks → slice_get (map f ks) j ≡ Some (f k) → ⊥
  not_later k [] j apart h = cc
  not_later k (y ∷ ys) zero apart h = let same : f k ≡ f y = cc in true≢false (sym (itself_text (f k) (f y) same) ∙ apart.0)
  not_later k (y ∷ ys) (suc j) apart h = not_later k ys j apart.1 h

  -- keys that differ have texts that stand once
  pub texts_distinct : (ks : List K) → IsDistinct (λ x y. bytes_eq (f x) (f y)) ks → AreDistinct (map f ks)
  unfolding IsDistinct
  texts_distinct [] d i j t p q = absurd (cc)
  texts_distinct (k ∷ ks) d zero zero t p q = refl
  texts_distinct (k ∷ ks) d zero (suc j) t p q = absurd (not_later k ks j d.0 (q ∙ sym p))
  texts_distinct (k ∷ ks) d (suc i) zero t p q = absurd (not_later k ks i d.0 (p ∙ sym q))
  texts_distinct (k ∷ ks) d (suc i) (suc j) t p q = ap suc (texts_distinct ks d.1 i j t p q)

  -- a key put into a set leaves the numbers of the others
  keeps_inserted : (ks : List K) (k : K) → Keeps (map f ks) (map f (insert_key (λ x y. bytes_eq (f x) (f y)) ks k))
  keeps_inserted ks k = elim (cases_Bool (list_any (λ y. bytes_eq (f k) (f y)) ks)) [
    | inl e ↦ rw e (keeps_all (map f ks))
    | inr e ↦ rw e (subst (λ l. Keeps (map f ks) l) (sym (map-append f ks (k ∷ []))) (keeps_more (map f ks) (f k ∷ [])))
  ]

  -- the same, of a set that is seen as its texts
  pub keeps_seen : (old : List (List ℕ)) (ks new : List K) (k : K) → map f ks ≡ old → new ≡ insert_key (λ x y. bytes_eq (f x) (f y)) ks k → Keeps old (map f new)
  keeps_seen old ks new k seen put =
      subst (λ o. Keeps o (map f new)) seen (subst (λ n. Keeps (map f ks) (map f n)) (sym put) (keeps_inserted ks k))

  -- the text of a key at a place is at this place
  pub text_found : (ks : List K) (i : ℕ) (k : K) (text : List ℕ) → slice_get ks i ≡ Some k → bytes_eq text (f k) ≡ true → slice_get (map f ks) i ≡ Some text
  text_found ks i k text at same = slice_get-map f ks i ∙ (ap (option_map f) at ∙ ap Some (sym (same_text text (f k) same)))
