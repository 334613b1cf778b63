-- The least number that no node has.
use Rattle.std.proofs.Common.{◌≡◌, ◌∙◌, ◌+◌, ◌-◌, ◌<◌, ◌≤◌, ◌≢◌, ◌⊎◌, ◌∷◌, [], ℕ, zero, suc, Bool, true, false, not, cond, ◌||◌, List, Option, Some, None, length, get_or, set, refl, sym, ap, subst, inl, inr, arith, eqb}
use Rattle.std.specs.Prelude.{unwrap_or, find}
use Rattle.std.specs.List.{list_any, range_with_len}
use Rattle.std.proofs.lemmas.Bool.{false≢true, true≢false, cases_lt, cases_eq}
use Rattle.std.proofs.lemmas.Bool.Decides.{nat_tests}
use Rattle.std.proofs.lemmas.List.{length-set}
use Rattle.edt_base.specs.NodeData.{holds_number}
use Rattle.dts_tree.specs.Final.{is_taken, least_free, given_to}
use Rattle.dts_tree.specs.Inner.Giving.{IsGiving}
use Rattle.dts_tree.proofs.Lists.{true_or_false, or_cases, or_left, or_right, not_true}

-- ---- so many numbers are taken by as many nodes

without : ℕ → List (Option ℕ) → List (Option ℕ)
without n [] = []
without n (x ∷ xs) = cond (holds_number n x) xs (x ∷ without n xs)

holds_same : (n m : ℕ) (x : Option ℕ) → holds_number n x ≡ true → holds_number m x ≡ true → n ≡ m
holds_same n m None h k = absurd (false≢true h)
holds_same n m (Some a) h k = grind (arith, nat_tests)

shorter_by : (b : Bool) (n : ℕ) (x : Option ℕ) (xs : List (Option ℕ)) → holds_number n x ≡ b
    → (list_any (holds_number n) xs ≡ true → length xs ≡ suc (length (without n xs))) → (b || list_any (holds_number n) xs) ≡ true
    → suc (length xs) ≡ suc (length (cond b xs (x ∷ without n xs)))
shorter_by true n x xs e h t = refl
shorter_by false n x xs e h t = ap suc (h t)

shorter : (n : ℕ) (xs : List (Option ℕ)) → is_taken xs n ≡ true → length xs ≡ suc (length (without n xs))
unfolding without
shorter n [] h = absurd (false≢true h)
shorter n (x ∷ xs) h = shorter_by (holds_number n x) n x xs refl (shorter n xs) h

still_by : (b c : Bool) (n m : ℕ) (x : Option ℕ) (xs : List (Option ℕ)) → holds_number n x ≡ b → holds_number m x ≡ c → (n ≡ m → ⊥)
    → (is_taken xs m ≡ true → is_taken (without n xs) m ≡ true) → (c || is_taken xs m) ≡ true
    → is_taken (cond b xs (x ∷ without n xs)) m ≡ true
still_by true true n m x xs e f apart h t = absurd (apart (holds_same n m x e f))
still_by true false n m x xs e f apart h t = t
still_by false true n m x xs e f apart h t = or_left (holds_number m x) (is_taken (without n xs) m) f
still_by false false n m x xs e f apart h t = or_right (holds_number m x) (is_taken (without n xs) m) (h t)

still : (n m : ℕ) (xs : List (Option ℕ)) → (n ≡ m → ⊥) → is_taken xs m ≡ true → is_taken (without n xs) m ≡ true
unfolding without
still n m [] apart h = absurd (false≢true h)
still n m (x ∷ xs) apart h = still_by (holds_number n x) (holds_number m x) n m x xs refl refl apart (still n m xs apart) h

pigeons : (m : ℕ) (xs : List (Option ℕ)) → ((k : ℕ) → 1 ≤ k → k ≤ m → is_taken xs k ≡ true) → m ≤ length xs
pigeons zero xs h = omega arith
pigeons (suc m) xs h =
    let t : is_taken xs (suc m) ≡ true = h (suc m) (omega arith) (omega arith) in
    let s : length xs ≡ suc (length (without (suc m) xs)) = shorter (suc m) xs t in
    let r : m ≤ length (without (suc m) xs) =
    pigeons m (without (suc m) xs) (λ k low high. still (suc m) k xs (λ e. absurd (omega arith)) (h k low (omega arith))) in
    omega arith

-- the first number above only taken ones
pub free_bound : (numbers : List (Option ℕ)) (n : ℕ) → ((k : ℕ) → 1 ≤ k → k < n → is_taken numbers k ≡ true) → n ≤ length numbers + 1
free_bound numbers zero h = omega arith
free_bound numbers (suc n) h =
    let r : n ≤ length numbers = pigeons n numbers (λ k low high. h k low (omega arith)) in
    omega arith

-- ---- the first number of a range that passes

abbrev IsFirst : (ℕ → Bool) → ℕ → ℕ → ℕ → Type 0
IsFirst p a m n = (a ≤ n) × (n < a + m) × (p n ≡ true) × ((k : ℕ) → a ≤ k → k < n → p k ≡ false)

abbrev Found : (ℕ → Bool) → ℕ → ℕ → Option ℕ → Type 0
Found p a m None = (k : ℕ) → a ≤ k → k < a + m → p k ≡ false
Found p a m (Some n) = IsFirst p a m n

found_next : (p : ℕ → Bool) (a m : ℕ) (o : Option ℕ) → p a ≡ false → Found p (a + 1) m o → Found p a (suc m) o
found_next p a m None e h = λ k low high. elim (cases_eq a k) [ inl s ↦ ap p (sym s) ∙ e | inr s ↦ h k (omega arith) (omega arith) ]
found_next p a m (Some n) e h = (omega arith, omega arith, h.2, λ k low high. elim (cases_eq a k) [ inl s ↦ ap p (sym s) ∙ e | inr s ↦ h.3 k (omega arith) high ])

found_by : (b : Bool) (p : ℕ → Bool) (a m : ℕ) → p a ≡ b → Found p (a + 1) m (find p (range_with_len (a + 1) m))
    → Found p a (suc m) (cond b (Some a) (find p (range_with_len (a + 1) m)))
found_by true p a m e h = (omega arith, omega arith, e, λ k low high. absurd (omega arith))
found_by false p a m e h = found_next p a m (find p (range_with_len (a + 1) m)) e h

found : (p : ℕ → Bool) (a m : ℕ) → Found p a m (find p (range_with_len a m))
found p a zero = λ k low high. absurd (omega arith)
found p a (suc m) = found_by (p a) p a m refl (found p (a + 1) m)

not_false : (a : Bool) → not a ≡ false → a ≡ true
not_false true e = refl
not_false false e = absurd (true≢false e)

-- what the least free number is
pub record IsLeastFree (numbers : List (Option ℕ)) (n : ℕ) : Type 0 where
  pub some : 1 ≤ n
  pub few : n ≤ length numbers + 1
  pub free : is_taken numbers n ≡ false
  pub below : (k : ℕ) → 1 ≤ k → k < n → is_taken numbers k ≡ true

least_by : (numbers : List (Option ℕ)) (o : Option ℕ) → Found (λ n. not (is_taken numbers n)) 1 (length numbers + 1) o → IsLeastFree numbers (unwrap_or o 0)
least_by numbers None h =
    let r : length numbers + 1 ≤ length numbers =
    pigeons (length numbers + 1) numbers (λ k low high. not_false (is_taken numbers k) (h k low (omega arith))) in
    absurd (omega arith)
least_by numbers (Some n) h = record {
  some = h.0;
  few = omega arith;
  free = not_true (is_taken numbers n) h.2;
  below = λ k low high. not_false (is_taken numbers k) (h.3 k low high);
}

pub least : (numbers : List (Option ℕ)) → IsLeastFree numbers (least_free numbers)
unfolding least_free
least numbers = least_by numbers (find (λ n. not (is_taken numbers n)) (range_with_len 1 (length numbers + 1))) (found (λ n. not (is_taken numbers n)) 1 (length numbers + 1))

pub least_is : (numbers : List (Option ℕ)) (n : ℕ) → 1 ≤ n → ((k : ℕ) → 1 ≤ k → k < n → is_taken numbers k ≡ true) → is_taken numbers n ≡ false
    → n ≡ least_free numbers
least_is numbers n some below free =
    let l = least numbers in
    elim (cases_eq n (least_free numbers)) [
      | inl e ↦ e
      | inr apart ↦ elim (cases_lt n (least_free numbers)) [
        | inl lt ↦ absurd (true≢false (sym (l.below n some lt) ∙ free))
        | inr ge ↦ absurd (true≢false (sym (below (least_free numbers) l.some (omega arith)) ∙ l.free))
      ]
    ]

-- ---- a number that is given

or_swap : (a b c : Bool) → (a || (b || c)) ≡ (b || (a || c))
or_swap true true c = refl
or_swap true false c = refl
or_swap false b c = refl

pub taken_set : (numbers : List (Option ℕ)) (i n k : ℕ) → i < length numbers → get_or numbers i None ≡ None
    → is_taken (set numbers i (Some n)) k ≡ (eqb n k || is_taken numbers k)
taken_set [] i n k l e = absurd (omega arith)
taken_set (x ∷ xs) zero n k l e = ap (λ y. eqb n k || (holds_number k y || is_taken xs k)) (sym e)
taken_set (x ∷ xs) (suc i) n k l e =
    ap (λ t. holds_number k x || t) (taken_set xs i n k (omega arith) e) ∙ or_swap (holds_number k x) (eqb n k) (is_taken xs k)

pub put_keeps : (numbers : List (Option ℕ)) (taken : ℕ → Bool) (next i : ℕ) → IsGiving numbers taken next → i < length numbers → get_or numbers i None ≡ None
    → IsGiving (set numbers i (Some (least_free numbers))) taken (least_free numbers + 1)
put_keeps numbers taken next i g l e =
    let f = least numbers in
    let n : ℕ = least_free numbers in
    let on : next ≤ least_free numbers = elim (cases_lt (least_free numbers) next) [
      | inl lt ↦ absurd (true≢false (sym (g.below (least_free numbers) f.some lt) ∙ f.free))
      | inr ge ↦ ge
    ] in
    let same : length (set numbers i (Some (least_free numbers))) ≡ length numbers = length-set {A = Option ℕ} numbers i (Some (least_free numbers)) in
    record {
      few = subst (λ m. m ≤ 65535) (sym same) g.few;
      some = omega arith;
      below = λ k low high. taken_set numbers i (least_free numbers) k l e ∙ elim (cases_eq (least_free numbers) k) [
        | inl s ↦ or_left (eqb (least_free numbers) k) (is_taken numbers k) (grind (arith, nat_tests))
        | inr s ↦ or_right (eqb (least_free numbers) k) (is_taken numbers k) (f.below k low (omega arith))
      ];
      rest = λ k low. g.rest k (omega arith) ∙ sym (taken_set numbers i (least_free numbers) k l e ∙ ap (λ b. b || is_taken numbers k) (let z : eqb (least_free numbers) k ≡ false = grind (arith, nat_tests) in z));
    }

-- one number more that is taken
pub taken_below : (numbers : List (Option ℕ)) (taken : ℕ → Bool) (next n : ℕ) → IsGiving numbers taken next → next ≤ n
    → ((k : ℕ) → 1 ≤ k → k < n → is_taken numbers k ≡ true) → taken n ≡ true → (k : ℕ) → 1 ≤ k → k < n + 1 → is_taken numbers k ≡ true
taken_below numbers taken next n g from below t k low high = elim (cases_eq k n) [
  | inl e ↦ subst (λ m. is_taken numbers m ≡ true) (sym e) (sym (g.rest n from) ∙ t)
  | inr apart ↦ below k low (omega arith)
]
