-- What a sorted list has under a name after one more was put into it.
use Rattle.std.proofs.Common.{◌≡◌, ◌∙◌, ◌||◌, ◌++◌, ◌∷◌, [], ℕ, Bool, true, false, cond, List, Some, None, refl, sym, ap, subst}
use Rattle.std.specs.List.{list_any}
use Rattle.std.specs.BTreeMap.{is_at}
use Rattle.std.specs.Ordering.{nat_cmp, match_ordering, is_eq}
use Rattle.std.specs.declared.cmp.Ordering.{Ordering}
use Rattle.std.specs.declared.cmp.Ordering.TheVariants.{Less, Equal, Greater}
use Rattle.std.specs.Cmp.Lexicographic.{slice_cmp}
use Rattle.std.specs.Str.{bytes_eq}
use Rattle.std.proofs.lemmas.Map.Text.{is_eq-slice_cmp}
use Rattle.std.proofs.lemmas.Map.Lookups.{exact_bytes}
use Rattle.std.proofs.lemmas.Bool.{false_from_ne_true, true≢false}
use Rattle.std.proofs.lemmas.List.Folds.{list_any-append}
use Rattle.dts_tree.specs.Inner.Arena.{named, with_name}
use Rattle.dts_tree.proofs.Lists.{or_left, or_right}
use Rattle.dts_tree.proofs.PlaceLaws.{same_bytes, bytes_self}

test_self : (k : List ℕ) → is_at (slice_cmp nat_cmp k) k ≡ true
test_self k = is_eq-slice_cmp k k ∙ bytes_self k

test_other : (q k : List ℕ) → (q ≡ k → ⊥) → is_at (slice_cmp nat_cmp q) k ≡ false
test_other q k n = is_eq-slice_cmp q k ∙ false_from_ne_true (bytes_eq q k) (λ e. n (same_bytes q k e))

same_by : (o : Ordering) (k : List ℕ) (id : ℕ) (e : List ℕ × ℕ) (es : List (List ℕ × ℕ)) → slice_cmp nat_cmp k e.0 ≡ o
    → named k (with_name es k id) ≡ Some id
    → named k (match_ordering o ((k, id) ∷ e ∷ es) ((e.0, id) ∷ es) (e ∷ with_name es k id)) ≡ Some id
same_by Less k id e es h r = ap (λ b. cond b (Some id) (named k (e ∷ es))) (test_self k)
same_by Equal k id e es h r = ap (λ o. cond (is_eq o) (Some id) (named k es)) h
same_by Greater k id e es h r = ap (λ o. cond (is_eq o) (Some e.1) (named k (with_name es k id))) h ∙ r

pub named_same : (es : List (List ℕ × ℕ)) (k : List ℕ) (id : ℕ) → named k (with_name es k id) ≡ Some id
named_same [] k id = ap (λ b. cond b (Some id) None) (test_self k)
named_same (e ∷ es) k id = same_by (slice_cmp nat_cmp k e.0) k id e es refl (named_same es k id)

other_by : (o : Ordering) (q k : List ℕ) (id : ℕ) (e : List ℕ × ℕ) (es : List (List ℕ × ℕ)) → slice_cmp nat_cmp k e.0 ≡ o → (q ≡ k → ⊥)
    → named q (with_name es k id) ≡ named q es
    → named q (match_ordering o ((k, id) ∷ e ∷ es) ((e.0, id) ∷ es) (e ∷ with_name es k id)) ≡ named q (e ∷ es)
other_by Less q k id e es h n r = ap (λ b. cond b (Some id) (named q (e ∷ es))) (test_other q k n)
other_by Equal q k id e es h n r =
    let same : k ≡ e.0 = exact_bytes k e.0 h in
    let no : is_at (slice_cmp nat_cmp q) e.0 ≡ false = subst (λ t. is_at (slice_cmp nat_cmp q) t ≡ false) same (test_other q k n) in
    ap (λ b. cond b (Some id) (named q es)) no ∙ ap (λ b. cond b (Some e.1) (named q es)) (sym no)
other_by Greater q k id e es h n r = ap (λ t. cond (is_at (slice_cmp nat_cmp q) e.0) (Some e.1) t) r

pub named_other : (es : List (List ℕ × ℕ)) (q k : List ℕ) (id : ℕ) → (q ≡ k → ⊥) → named q (with_name es k id) ≡ named q es
named_other [] q k id n = ap (λ b. cond b (Some id) None) (test_other q k n)
named_other (e ∷ es) q k id n = other_by (slice_cmp nat_cmp k e.0) q k id e es refl n (named_other es q k id n)

-- ---- a list of names, and the set of them

seen_by : (b : Bool) (label k : List ℕ) (list : List (List ℕ)) → bytes_eq label k ≡ b → cond b true (list_any (bytes_eq k) list) ≡ (list_any (bytes_eq k) list || (bytes_eq k label || false))
seen_by true label k list e =
    let same : label ≡ k = same_bytes label k e in
    let self : bytes_eq k label ≡ true = subst (λ x. bytes_eq x label ≡ true) same (bytes_self label) in
    sym (or_right (list_any (bytes_eq k) list) (bytes_eq k label || false) (or_left (bytes_eq k label) false self))
seen_by false label k list e =
    let other : bytes_eq k label ≡ false = false_from_ne_true (bytes_eq k label) (λ h.
    let same : k ≡ label = same_bytes k label h in
    true≢false (sym (subst (λ x. bytes_eq label x ≡ true) (sym same) (bytes_self label)) ∙ e)) in
    or_none (list_any (bytes_eq k) list) ∙ ap (λ b. list_any (bytes_eq k) list || (b || false)) (sym other)
  where
    or_none : (b : Bool) → b ≡ (b || false)
    or_none true = refl
    or_none false = refl

-- a name more in both
pub seen_more : (label : List ℕ) (list : List (List ℕ)) (old new : List ℕ → Bool) → ((k : List ℕ) → new k ≡ cond (is_at (slice_cmp nat_cmp label) k) true (old k))
    → ((k : List ℕ) → old k ≡ list_any (bytes_eq k) list) → (k : List ℕ) → new k ≡ list_any (bytes_eq k) (list ++ label ∷ [])
seen_more label list old new more are k =
    more k ∙ (ap (λ b. cond b true (old k)) (is_eq-slice_cmp label k)
    ∙ (ap (cond (bytes_eq label k) true) (are k) ∙ (seen_by (bytes_eq label k) label k list refl ∙ sym (list_any-append (bytes_eq k) list (label ∷ [])))))
