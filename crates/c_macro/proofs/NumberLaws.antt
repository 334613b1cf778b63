-- Sets of numbers.
use Rattle.std.proofs.Common.{◌≡◌, ◌⊎◌, ℕ, zero, suc, ◌+◌, ◌*◌, ◌-◌, ◌<◌, ◌≤◌, ◌%◌, ◌/◌, Bool, true, false, ◌&&◌, ◌||◌, nat_eq, List, [], ◌∷◌, ◌++◌, length, refl, sym, ap, subst, ◌∙◌, arith, append_assoc, append-nil, length-append, slice_index_or, inl, inr, if◌then◌else◌}
use Rattle.std.proofs.lemmas.Bool.{cases_Bool, cases_order, cases_eq, eq-eqb, ne_eqb, eqb-true, eqb-false, or_cases, and_parts}
use Rattle.c_macro.specs.declared.numbers.Node.{Node}
use Rattle.c_macro.specs.NumberData.{Numbers, no_numbers, with_number, either_numbers, common_numbers, halved, set_in, sets_from, first_sets, numbers_of, sets_count, AreEarlier, Extends, AllBelow}

-- ---- lists by index

index_front : (xs ys : List Numbers) (k : ℕ) → k < length xs → set_in (xs ++ ys) k ≡ set_in xs k
index_front [] ys k h = absurd (omega arith)
index_front (x ∷ xs) ys zero h = refl
index_front (x ∷ xs) ys (suc k) h = index_front xs ys k (omega arith)

index_seam : (xs : List Numbers) (y : Numbers) (ys : List Numbers) → set_in (xs ++ y ∷ ys) (length xs) ≡ y
index_seam [] y ys = refl
index_seam (x ∷ xs) y ys = index_seam xs y ys

-- ---- nodes

from_length : (s : List Numbers) (ns : List Node) → length (sets_from s ns) ≡ length s + length ns
from_length s [] = omega arith
from_length s (n ∷ ns) =
    let x : Numbers = halved (set_in s n.evens) (set_in s n.odds) in
    let l : length (s ++ x ∷ []) ≡ length s + 1 = length-append s (x ∷ []) in
    let r = from_length (s ++ x ∷ []) ns in omega arith

from_keeps : (s : List Numbers) (ns : List Node) (k : ℕ) → k < length s → set_in (sets_from s ns) k ≡ set_in s k
from_keeps s [] k h = refl
from_keeps s (n ∷ ns) k h =
    let x : Numbers = halved (set_in s n.evens) (set_in s n.odds) in
    let l : length (s ++ x ∷ []) ≡ length s + 1 = length-append s (x ∷ []) in
    from_keeps (s ++ x ∷ []) ns k (omega arith) ∙ index_front s (x ∷ []) k h

from_append : (s : List Numbers) (ns ms : List Node) → sets_from s (ns ++ ms) ≡ sets_from (sets_from s ns) ms
from_append s [] ms = refl
from_append s (n ∷ ns) ms = from_append (s ++ halved (set_in s n.evens) (set_in s n.odds) ∷ []) ns ms

from_node : (s : List Numbers) (ns : List Node) (i : ℕ) (d : Node) → AreEarlier (length s) ns → i < length ns
    → (set_in (sets_from s ns) (length s + i) ≡ halved (set_in (sets_from s ns) (slice_index_or ns i d).evens) (set_in (sets_from s ns) (slice_index_or ns i d).odds))
    × ((slice_index_or ns i d).evens < length s + i) × ((slice_index_or ns i d).odds < length s + i)
from_node s [] i d h le = absurd (omega arith)
from_node s (n ∷ ns) zero d h le =
    let x : Numbers = halved (set_in s n.evens) (set_in s n.odds) in
    let t : List Numbers = s ++ x ∷ [] in
    let l : length t ≡ length s + 1 = length-append s (x ∷ []) in
    let a : set_in (sets_from t ns) (length s) ≡ x = from_keeps t ns (length s) (omega arith) ∙ index_seam s x [] in
    let b : set_in (sets_from t ns) n.evens ≡ set_in s n.evens = from_keeps t ns n.evens (omega (arith, h.0)) ∙ index_front s (x ∷ []) n.evens h.0 in
    let c : set_in (sets_from t ns) n.odds ≡ set_in s n.odds = from_keeps t ns n.odds (omega (arith, h.1)) ∙ index_front s (x ∷ []) n.odds h.1 in
    let z : length s + 0 ≡ length s = omega arith in
    (rw z (a ∙ (ap (λ y. halved y (set_in s n.odds)) (sym b) ∙ ap (halved (set_in (sets_from t ns) n.evens)) (sym c))), omega (arith, h.0), omega (arith, h.1))
from_node s (n ∷ ns) (suc i) d h le =
    let x : Numbers = halved (set_in s n.evens) (set_in s n.odds) in
    let t : List Numbers = s ++ x ∷ [] in
    let l : length t ≡ length s + 1 = length-append s (x ∷ []) in
    let r = from_node t ns i d (subst (λ k. AreEarlier k ns) (sym l) h.2) (omega arith) in
    let e : length t + i ≡ length s + suc i = omega arith in (
      subst (λ k. set_in (sets_from t ns) k ≡ halved (set_in (sets_from t ns) (slice_index_or ns i d).evens) (set_in (sets_from t ns) (slice_index_or ns i d).odds)) e r.0,
      omega (arith, r.1, e),
      omega (arith, r.2, e),
    )

pub node_is : (ns : List Node) (at : ℕ) (n : Node) → AreEarlier 2 ns → 1 < at → at < sets_count ns → n ≡ slice_index_or ns (at - 2) n
    → (numbers_of ns at ≡ halved (numbers_of ns n.evens) (numbers_of ns n.odds)) × (n.evens < at) × (n.odds < at)
node_is ns at n h some le e =
    let r = from_node first_sets ns (at - 2) n h (omega arith) in
    let i : 2 + (at - 2) ≡ at = omega arith in
    let P : Node → Type 0 = λ m. (numbers_of ns at ≡ halved (numbers_of ns m.evens) (numbers_of ns m.odds)) × (m.evens < at) × (m.odds < at) in
    subst P (sym e) (
      subst (λ k. numbers_of ns k ≡ halved (numbers_of ns (slice_index_or ns (at - 2) n).evens) (numbers_of ns (slice_index_or ns (at - 2) n).odds)) i r.0,
      omega (arith, r.1, i),
      omega (arith, r.2, i),
    )

pub none_is : (ns : List Node) → numbers_of ns 0 ≡ no_numbers
none_is ns = from_keeps first_sets ns 0 (omega arith)

pub zero_is : (ns : List Node) → numbers_of ns 1 ≡ (λ n. nat_eq n 0)
zero_is ns = from_keeps first_sets ns 1 (omega arith)

-- ---- a table that is extended

pub extends_refl : (ns : List Node) → Extends ns ns
extends_refl ns = ([], sym (append-nil ns))

pub extends_trans : (a b c : List Node) → Extends a b → Extends b c → Extends a c
extends_trans a b c (x, e) (y, f) = (x ++ y, f ∙ (ap (λ t. t ++ y) e ∙ append_assoc a x y))

pub extends_longer : (a b : List Node) → Extends a b → sets_count a ≤ sets_count b
extends_longer a b (x, e) = let l : length b ≡ length a + length x = ap length e ∙ length-append a x in omega arith

pub numbers_keep : (a b : List Node) (k : ℕ) → Extends a b → k < sets_count a → numbers_of b k ≡ numbers_of a k
numbers_keep a b k (x, e) h =
    let l : length (sets_from first_sets a) ≡ 2 + length a = from_length first_sets a in
    ap (λ ns. numbers_of ns k) e ∙ (ap (λ s. set_in s k) (from_append first_sets a x) ∙ from_keeps (sets_from first_sets a) x k (omega arith))

pub earlier_push : (k : ℕ) (ns : List Node) (n : Node) → AreEarlier k ns → n.evens < k + length ns → n.odds < k + length ns → AreEarlier k (ns ++ n ∷ [])
earlier_push k [] n h le lo = (omega arith, omega arith, tt)
earlier_push k (m ∷ ns) n h le lo = (h.0, h.1, earlier_push (k + 1) ns n h.2 (omega arith) (omega arith))

-- the set that was pushed last
pub pushed_is : (ns : List Node) (n : Node) → numbers_of (ns ++ n ∷ []) (sets_count ns) ≡ halved (numbers_of ns n.evens) (numbers_of ns n.odds)
pushed_is ns n =
    let s : List Numbers = sets_from first_sets ns in
    let l : length s ≡ 2 + length ns = from_length first_sets ns in
    let e : sets_count ns ≡ length s = omega arith in
    ap (λ t. set_in t (sets_count ns)) (from_append first_sets ns (n ∷ [])) ∙ (ap (set_in (sets_from s (n ∷ []))) e ∙ index_seam s (halved (set_in s n.evens) (set_in s n.odds)) [])

past_end : (s : List Numbers) (k : ℕ) → length s ≤ k → set_in s k ≡ no_numbers
past_end [] zero h = refl
past_end [] (suc k) h = refl
past_end (x ∷ s) zero h = absurd (omega arith)
past_end (x ∷ s) (suc k) h = past_end s k (omega arith)

pub pushed_below : (ns : List Node) (n : Node) (most : ℕ) → AllBelow most ns → ((i : ℕ) → halved (numbers_of ns n.evens) (numbers_of ns n.odds) i ≡ true → i < most) → AllBelow most (ns ++ n ∷ [])
pushed_below ns n most h new k i there =
    let l : length (sets_from first_sets (ns ++ n ∷ [])) ≡ 2 + length (ns ++ n ∷ []) = from_length first_sets (ns ++ n ∷ []) in
    let m : length (ns ++ n ∷ []) ≡ length ns + 1 = length-append ns (n ∷ []) in
    elim (cases_order k (sets_count ns)) [
      | inl e ↦ new i (sym (ap (λ (s : Numbers). s i) (ap (numbers_of (ns ++ n ∷ [])) e ∙ pushed_is ns n)) ∙ there)
      | inr (inl e) ↦ h k i (sym (ap (λ (s : Numbers). s i) (numbers_keep ns (ns ++ n ∷ []) k (n ∷ [], refl) e)) ∙ there)
      | inr (inr e) ↦
          let c : false ≡ true = sym (ap (λ (s : Numbers). s i) (past_end (sets_from first_sets (ns ++ n ∷ [])) k (omega (arith, l, m, e)))) ∙ there in cc
    ]

-- ---- halves

half_none : (n : ℕ) → no_numbers n ≡ halved no_numbers no_numbers n
half_none n = elim (cases_Bool (nat_eq (n % 2) 0)) [ inl e ↦ rw e refl | inr e ↦ rw e refl ]

pub halves_none : (ns : List Node) → numbers_of ns 0 ≡ halved (numbers_of ns 0) (numbers_of ns 0)
halves_none ns = let e = none_is ns in e ∙ ((λ i n. half_none n i) ∙ ap (λ s. halved s s) (sym e))

-- numbers with the same remainder are the same where their halves are
same_half : (n k : ℕ) → n % 2 ≡ k % 2 → nat_eq (n / 2) (k / 2) ≡ nat_eq n k
same_half n k e = elim (cases_eq n k) [
  | inl h ↦ eq-eqb (n / 2) (k / 2) (ap (λ z. z / 2) h) ∙ sym (eq-eqb n k h)
  | inr h ↦ ne_eqb (n / 2) (k / 2) (λ f. h (omega (arith, e, f))) ∙ sym (ne_eqb n k h)
]

other_half : (n k : ℕ) → (n % 2 ≡ k % 2 → ⊥) → nat_eq n k ≡ false
other_half n k e = ne_eqb n k (λ h. e (ap (λ z. z % 2) h))

even : (n : ℕ) → nat_eq (n % 2) 0 ≡ true → n % 2 ≡ 0
even n h = eqb-true (n % 2) 0 h

odd : (n : ℕ) → nat_eq (n % 2) 0 ≡ false → n % 2 ≡ 1
odd n h = let f = eqb-false (n % 2) 0 h in let g : n % 2 < 2 = omega arith in elim (cases_order (n % 2) 0) [
  | inl e ↦ absurd (f e)
  | inr (inl e) ↦ absurd (omega (arith, e))
  | inr (inr e) ↦ omega (arith, e, g)
]

half_zero : (n : ℕ) → nat_eq n 0 ≡ halved (λ k. nat_eq k 0) no_numbers n
half_zero n = elim (cases_Bool (nat_eq (n % 2) 0)) [
  | inl e ↦ rw e (sym (same_half n 0 (even n e)))
  | inr e ↦ rw e (other_half n 0 (eqb-false (n % 2) 0 e))
]

pub halves_zero : (ns : List Node) → numbers_of ns 1 ≡ halved (numbers_of ns 1) (numbers_of ns 0)
halves_zero ns = let e = zero_is ns in let f = none_is ns in e ∙ ((λ i n. half_zero n i) ∙ (ap (λ (s : Numbers). halved s no_numbers) (sym e) ∙ ap (halved (numbers_of ns 1)) (sym f)))

-- ---- a number more

more_even : (e o : Numbers) (k n : ℕ) → k % 2 ≡ 0 → halved (with_number e (k / 2)) o n ≡ with_number (halved e o) k n
more_even e o k n h = elim (cases_Bool (nat_eq (n % 2) 0)) [
  | inl f ↦ let g : n % 2 ≡ k % 2 = even n f ∙ sym h in let i = same_half n k g in rw f (ap (λ b. b || e (n / 2)) i)
  | inr f ↦ let g : nat_eq n k ≡ false = other_half n k (λ z. eqb-false (n % 2) 0 f (z ∙ h)) in rw (f, g) refl
]

more_odd : (e o : Numbers) (k n : ℕ) → k % 2 ≡ 1 → halved e (with_number o (k / 2)) n ≡ with_number (halved e o) k n
more_odd e o k n h = elim (cases_Bool (nat_eq (n % 2) 0)) [
  | inl f ↦ let g : nat_eq n k ≡ false = other_half n k (λ z. let a : 0 ≡ 1 = sym (even n f) ∙ (z ∙ h) in omega (arith, a)) in rw (f, g) refl
  | inr f ↦ let g : n % 2 ≡ k % 2 = odd n f ∙ sym h in let i = same_half n k g in rw f (ap (λ b. b || o (n / 2)) i)
]

pub with_even : (s e o : Numbers) (k : ℕ) → s ≡ halved e o → k % 2 ≡ 0 → halved (with_number e (k / 2)) o ≡ with_number s k
with_even s e o k is h = (λ i n. more_even e o k n h i) ∙ ap (λ (t : Numbers). with_number t k) (sym is)

pub with_odd : (s e o : Numbers) (k : ℕ) → s ≡ halved e o → k % 2 ≡ 1 → halved e (with_number o (k / 2)) ≡ with_number s k
with_odd s e o k is h = (λ i n. more_odd e o k n h i) ∙ ap (λ (t : Numbers). with_number t k) (sym is)

-- ---- two sets

both_either : (e o f p : Numbers) (n : ℕ) → halved (either_numbers e f) (either_numbers o p) n ≡ either_numbers (halved e o) (halved f p) n
both_either e o f p n = elim (cases_Bool (nat_eq (n % 2) 0)) [ inl h ↦ rw h refl | inr h ↦ rw h refl ]

both_common : (e o f p : Numbers) (n : ℕ) → halved (common_numbers e f) (common_numbers o p) n ≡ common_numbers (halved e o) (halved f p) n
both_common e o f p n = elim (cases_Bool (nat_eq (n % 2) 0)) [ inl h ↦ rw h refl | inr h ↦ rw h refl ]

pub halves_either : (s t e o f p : Numbers) → s ≡ halved e o → t ≡ halved f p → halved (either_numbers e f) (either_numbers o p) ≡ either_numbers s t
halves_either s t e o f p hs ht = (λ i n. both_either e o f p n i) ∙ (ap (λ (x : Numbers). either_numbers x (halved f p)) (sym hs) ∙ ap (either_numbers s) (sym ht))

pub halves_common : (s t e o f p : Numbers) → s ≡ halved e o → t ≡ halved f p → halved (common_numbers e f) (common_numbers o p) ≡ common_numbers s t
halves_common s t e o f p hs ht = (λ i n. both_common e o f p n i) ∙ (ap (λ (x : Numbers). common_numbers x (halved f p)) (sym hs) ∙ ap (common_numbers s) (sym ht))

-- ---- sets that need no node

pub small_halves : (ns : List Node) (e o : ℕ) → o ≡ 0 → e < 2 → numbers_of ns e ≡ halved (numbers_of ns e) (numbers_of ns o)
small_halves ns zero o z h = halves_none ns ∙ ap (λ k. halved (numbers_of ns 0) (numbers_of ns k)) (sym z)
small_halves ns (suc zero) o z h = halves_zero ns ∙ ap (λ k. halved (numbers_of ns 1) (numbers_of ns k)) (sym z)
small_halves ns (suc (suc e)) o z h = absurd (omega arith)

first_more : (n : ℕ) → nat_eq n 0 ≡ nat_eq n 0 || false
first_more n = elim (cases_Bool (nat_eq n 0)) [ inl e ↦ rw e refl | inr e ↦ rw e refl ]

same_more : (n : ℕ) → nat_eq n 0 ≡ nat_eq n 0 || nat_eq n 0
same_more n = elim (cases_Bool (nat_eq n 0)) [ inl e ↦ rw e refl | inr e ↦ rw e refl ]

pub first_with : (ns : List Node) (set k : ℕ) → k ≡ 0 → set < 2 → numbers_of ns 1 ≡ with_number (numbers_of ns set) k
first_with ns zero k e h = zero_is ns ∙ ((λ i n. first_more n i) ∙ (ap (λ (s : Numbers). with_number s 0) (sym (none_is ns)) ∙ ap (with_number (numbers_of ns 0)) (sym e)))
first_with ns (suc zero) k e h = zero_is ns ∙ ((λ i n. same_more n i) ∙ (ap (λ (s : Numbers). with_number s 0) (sym (zero_is ns)) ∙ ap (with_number (numbers_of ns 1)) (sym e)))
first_with ns (suc (suc set)) k e h = absurd (omega arith)

or_none : (b : Bool) → b ≡ b || false
or_none true = refl
or_none false = refl

or_self : (b : Bool) → b ≡ b || b
or_self true = refl
or_self false = refl

and_none : (b : Bool) → false ≡ b && false
and_none true = refl
and_none false = refl

and_self : (b : Bool) → b ≡ b && b
and_self true = refl
and_self false = refl

pub either_same : (ns : List Node) (a b : ℕ) → a ≡ b → numbers_of ns a ≡ either_numbers (numbers_of ns a) (numbers_of ns b)
either_same ns a b e = (λ i n. or_self (numbers_of ns a n) i) ∙ ap (λ k. either_numbers (numbers_of ns a) (numbers_of ns k)) e

pub either_none : (ns : List Node) (a b : ℕ) → b ≡ 0 → numbers_of ns a ≡ either_numbers (numbers_of ns a) (numbers_of ns b)
either_none ns a b e = (λ i n. or_none (numbers_of ns a n) i) ∙ (ap (either_numbers (numbers_of ns a)) (sym (none_is ns)) ∙ ap (λ k. either_numbers (numbers_of ns a) (numbers_of ns k)) (sym e))

pub none_either : (ns : List Node) (a b : ℕ) → a ≡ 0 → numbers_of ns b ≡ either_numbers (numbers_of ns a) (numbers_of ns b)
none_either ns a b e = ap (λ (s : Numbers). either_numbers s (numbers_of ns b)) (sym (ap (numbers_of ns) e ∙ none_is ns))

pub common_same : (ns : List Node) (a b : ℕ) → a ≡ b → numbers_of ns a ≡ common_numbers (numbers_of ns a) (numbers_of ns b)
common_same ns a b e = (λ i n. and_self (numbers_of ns a n) i) ∙ ap (λ k. common_numbers (numbers_of ns a) (numbers_of ns k)) e

pub common_none : (ns : List Node) (a b : ℕ) → b ≡ 0 → numbers_of ns 0 ≡ common_numbers (numbers_of ns a) (numbers_of ns b)
common_none ns a b e = none_is ns ∙ ((λ i n. and_none (numbers_of ns a n) i) ∙ ap (common_numbers (numbers_of ns a)) (sym (ap (numbers_of ns) e ∙ none_is ns)))

pub none_common : (ns : List Node) (a b : ℕ) → a ≡ 0 → numbers_of ns 0 ≡ common_numbers (numbers_of ns a) (numbers_of ns b)
none_common ns a b e = none_is ns ∙ ap (λ (s : Numbers). common_numbers s (numbers_of ns b)) (sym (ap (numbers_of ns) e ∙ none_is ns))

-- ---- sets whose numbers are below a bound

pub below_same : (most : ℕ) (ns : List Node) (k : ℕ) (x : Numbers) → AllBelow most ns → x ≡ numbers_of ns k → (n : ℕ) → x n ≡ true → n < most
below_same most ns k x h e n t = h k n (sym (ap (λ (s : Numbers). s n) e) ∙ t)

pub below_with : (most : ℕ) (ns : List Node) (k set : ℕ) (x : Numbers) → AllBelow most ns → k < most → x ≡ with_number (numbers_of ns set) k → (n : ℕ) → x n ≡ true → n < most
below_with most ns k set x h l e n t = elim (or_cases (nat_eq n k) (numbers_of ns set n) (sym (ap (λ (s : Numbers). s n) e) ∙ t)) [
  | inl f ↦ let g = eqb-true n k f in omega (arith, g, l)
  | inr f ↦ h set n f
]

pub below_either : (most : ℕ) (ns : List Node) (a b : ℕ) (x : Numbers) → AllBelow most ns → x ≡ either_numbers (numbers_of ns a) (numbers_of ns b) → (n : ℕ) → x n ≡ true → n < most
below_either most ns a b x h e n t = elim (or_cases (numbers_of ns a n) (numbers_of ns b n) (sym (ap (λ (s : Numbers). s n) e) ∙ t)) [ inl f ↦ h a n f | inr f ↦ h b n f ]

pub below_common : (most : ℕ) (ns : List Node) (a b : ℕ) (x : Numbers) → AllBelow most ns → x ≡ common_numbers (numbers_of ns a) (numbers_of ns b) → (n : ℕ) → x n ≡ true → n < most
below_common most ns a b x h e n t = h a n (and_parts (numbers_of ns a n) (numbers_of ns b n) (sym (ap (λ (s : Numbers). s n) e) ∙ t)).0

-- ---- what the halves of a result come to

pub made_is : (mid new : List Node) (e o r : ℕ) (f p : Numbers) → numbers_of mid e ≡ f → numbers_of mid o ≡ p → numbers_of new r ≡ halved (numbers_of mid e) (numbers_of mid o) → numbers_of new r ≡ halved f p
made_is mid new e o r f p he ho h = h ∙ (ap (λ (s : Numbers). halved s (numbers_of mid o)) he ∙ ap (halved f) ho)

pub either_made : (old mid new : List Node) (a b ae ao be bo e o : ℕ) → numbers_of old a ≡ halved (numbers_of old ae) (numbers_of old ao) → numbers_of old b ≡ halved (numbers_of old be) (numbers_of old bo)
    → Extends old mid → Extends mid new → ao < sets_count old → bo < sets_count old → e < sets_count mid
    → numbers_of mid e ≡ either_numbers (numbers_of old ae) (numbers_of old be) → numbers_of new o ≡ either_numbers (numbers_of mid ao) (numbers_of mid bo)
    → halved (numbers_of new e) (numbers_of new o) ≡ either_numbers (numbers_of old a) (numbers_of old b)
either_made old mid new a b ae ao be bo e o ha hb x y la lb le he ho =
    ap (λ (s : Numbers). halved s (numbers_of new o)) (numbers_keep mid new e y le ∙ he)
    ∙ (ap (halved (either_numbers (numbers_of old ae) (numbers_of old be)))
    (ho ∙ (ap (λ (s : Numbers). either_numbers s (numbers_of mid bo)) (numbers_keep old mid ao x la) ∙ ap (either_numbers (numbers_of old ao)) (numbers_keep old mid bo x lb)))
    ∙ halves_either (numbers_of old a) (numbers_of old b) (numbers_of old ae) (numbers_of old ao) (numbers_of old be) (numbers_of old bo) ha hb)

pub common_made : (old mid new : List Node) (a b ae ao be bo e o : ℕ) → numbers_of old a ≡ halved (numbers_of old ae) (numbers_of old ao) → numbers_of old b ≡ halved (numbers_of old be) (numbers_of old bo)
    → Extends old mid → Extends mid new → ao < sets_count old → bo < sets_count old → e < sets_count mid
    → numbers_of mid e ≡ common_numbers (numbers_of old ae) (numbers_of old be) → numbers_of new o ≡ common_numbers (numbers_of mid ao) (numbers_of mid bo)
    → halved (numbers_of new e) (numbers_of new o) ≡ common_numbers (numbers_of old a) (numbers_of old b)
common_made old mid new a b ae ao be bo e o ha hb x y la lb le he ho =
    ap (λ (s : Numbers). halved s (numbers_of new o)) (numbers_keep mid new e y le ∙ he)
    ∙ (ap (halved (common_numbers (numbers_of old ae) (numbers_of old be)))
    (ho ∙ (ap (λ (s : Numbers). common_numbers s (numbers_of mid bo)) (numbers_keep old mid ao x la) ∙ ap (common_numbers (numbers_of old ao)) (numbers_keep old mid bo x lb)))
    ∙ halves_common (numbers_of old a) (numbers_of old b) (numbers_of old ae) (numbers_of old ao) (numbers_of old be) (numbers_of old bo) ha hb)

pub even_made : (old mid : List Node) (set e o more k : ℕ) → numbers_of old set ≡ halved (numbers_of old e) (numbers_of old o) → Extends old mid → o < sets_count old
    → numbers_of mid more ≡ with_number (numbers_of old e) (k / 2) → k % 2 ≡ 0 → halved (numbers_of mid more) (numbers_of mid o) ≡ with_number (numbers_of old set) k
even_made old mid set e o more k hs x lo hm h =
    ap (λ (s : Numbers). halved s (numbers_of mid o)) hm ∙ (ap (halved (with_number (numbers_of old e) (k / 2))) (numbers_keep old mid o x lo) ∙ with_even (numbers_of old set) (numbers_of old e) (numbers_of old o) k hs h)

pub odd_made : (old mid : List Node) (set e o more k : ℕ) → numbers_of old set ≡ halved (numbers_of old e) (numbers_of old o) → Extends old mid → e < sets_count old
    → numbers_of mid more ≡ with_number (numbers_of old o) (k / 2) → k % 2 ≡ 1 → halved (numbers_of mid e) (numbers_of mid more) ≡ with_number (numbers_of old set) k
odd_made old mid set e o more k hs x le hm h =
    ap (λ (s : Numbers). halved s (numbers_of mid more)) (numbers_keep old mid e x le) ∙ (ap (halved (numbers_of old e)) hm ∙ with_odd (numbers_of old set) (numbers_of old e) (numbers_of old o) k hs h)
