-- What strings have in common that are each known once.
use Rattle.std.proofs.Common.{◌≡◌, ℕ, Bool, true, false, ◌||◌, cond, not, List, [], ◌∷◌, ◌++◌, refl, sym, ap, ◌∙◌}
use Rattle.std.specs.List.{list_any}
use Rattle.std.specs.Str.{bytes_eq}
use Rattle.std.specs.Ordering.{is_eq, nat_cmp}
use Rattle.std.specs.Cmp.Lexicographic.{slice_cmp}
use Rattle.std.proofs.lemmas.Map.Text.{is_eq-slice_cmp}
use denote.Ref.{Bor}
use Rattle.std.specs.BTreeSet.{BTreeSet}
use Rattle.bind_merge.specs.Inner.Stringing.{Finds, Knows}
use Rattle.std.proofs.lemmas.Slice.Eq.{bytes_eq-Decides}

or-none : (a : Bool) → (a || false) ≡ a
or-none true = refl
or-none false = refl

or-assoc : (a b c : Bool) → (a || (b || c)) ≡ ((a || b) || c)
or-assoc true b c = refl
or-assoc false b c = refl

or-right : (a b : Bool) → b ≡ true → (a || b) ≡ true
or-right true b e = refl
or-right false b e = e

or-left : (a b : Bool) → a ≡ true → (a || b) ≡ true
or-left true b e = refl
or-left false b e = absurd cc

pub any-snoc : (test : List ℕ → Bool) (xs : List (List ℕ)) (x : List ℕ) → list_any test (xs ++ x ∷ []) ≡ (list_any test xs || test x)
any-snoc test [] x = or-none (test x)
any-snoc test (y ∷ ys) x = ap (λ b. test y || b) (any-snoc test ys x) ∙ or-assoc (test y) (list_any test ys) (test x)

-- a string that is known passes no test that none of them passes
known-any : (test : List ℕ → Bool) (xs : List (List ℕ)) (x : List ℕ) → list_any (λ t. bytes_eq t x) xs ≡ true → test x ≡ true → list_any test xs ≡ true
known-any test [] x e p = absurd cc
known-any test (y ∷ ys) x e p = at (λ h. known-any test ys x h p) (bytes_eq y x) refl e
  where
    at : (list_any (λ t. bytes_eq t x) ys ≡ true → list_any test ys ≡ true) → (b : Bool) → bytes_eq y x ≡ b
        → (b || list_any (λ t. bytes_eq t x) ys) ≡ true → (test y || list_any test ys) ≡ true
    at below true s h = let q : y ≡ x = (bytes_eq-Decides y x).0 s in or-left _ _ (ap test q ∙ p)
    at below false s h = or-right _ _ (below h)

pub known-again : (test : List ℕ → Bool) (xs : List (List ℕ)) (x : List ℕ) → list_any (λ t. bytes_eq t x) xs ≡ true → (list_any test xs || test x) ≡ list_any test xs
known-again test xs x e = at (test x) refl (list_any test xs) refl
  where
    at : (b : Bool) → test x ≡ b → (c : Bool) → list_any test xs ≡ c → (list_any test xs || test x) ≡ list_any test xs
    at true p c q = let r : list_any test xs ≡ true = known-any test xs x e p in or-left _ _ r ∙ sym r
    at false p c q = ap (λ b. list_any test xs || b) p ∙ or-none (list_any test xs)

-- the set of strings with one more, as its own clause says it
set-more : (keys new : List (Bor (List ℕ))) (xs : List (List ℕ)) (x : List ℕ)
    → ((q : List ℕ) → list_any (λ k. is_eq (slice_cmp nat_cmp q k.now)) keys ≡ list_any (λ t. bytes_eq t q) xs)
    → ((q : Bor (List ℕ)) → list_any (λ k. is_eq (slice_cmp nat_cmp q.now k.now)) new
    ≡ cond (is_eq (slice_cmp nat_cmp x q.now)) true (list_any (λ k. is_eq (slice_cmp nat_cmp q.now k.now)) keys))
    → (q : List ℕ) → list_any (λ k. is_eq (slice_cmp nat_cmp q k.now)) new ≡ list_any (λ t. bytes_eq t q) (xs ++ x ∷ [])
set-more keys new xs x h u q =
    u (record { ref_ptr = (0, 0); now = q })
    ∙ (ap (λ b. cond b true (list_any (λ k. is_eq (slice_cmp nat_cmp q k.now)) keys)) (is_eq-slice_cmp x q)
    ∙ (ap (λ b. cond (bytes_eq x q) true b) (h q) ∙ (or-cond (bytes_eq x q) (list_any (λ t. bytes_eq t q) xs) ∙ sym (any-snoc (λ t. bytes_eq t q) xs x))))
  where
    or-cond : (a b : Bool) → cond a true b ≡ (b || a)
    or-cond true true = refl
    or-cond true false = refl
    or-cond false true = refl
    or-cond false false = refl

pub knows-none : (known : BTreeSet (Bor (List ℕ))) → known.keys ≡ [] → Knows known []
knows-none known e q = ap (λ ks. list_any (λ k. is_eq (slice_cmp nat_cmp q k.now)) ks) e

pub knows-more : (known new : BTreeSet (Bor (List ℕ))) (x : List ℕ)
    → ((q : Bor (List ℕ)) → list_any (λ k. is_eq (slice_cmp nat_cmp q.now k.now)) new.keys
    ≡ cond (is_eq (slice_cmp nat_cmp x q.now)) true (list_any (λ k. is_eq (slice_cmp nat_cmp q.now k.now)) known.keys))
    → (all : List (List ℕ)) → Knows known all → Knows new (all ++ x ∷ [])
knows-more known new x u all h = set-more known.keys new.keys all x h u

pub finds-more : (once all : List (List ℕ)) (x : List ℕ) → Finds once all → Finds (once ++ x ∷ []) (all ++ x ∷ [])
finds-more once all x h test = any-snoc test once x ∙ (ap (λ b. b || test x) (h test) ∙ sym (any-snoc test all x))

pub finds-same : (known : BTreeSet (Bor (List ℕ))) (once all : List (List ℕ)) (x : List ℕ) → Knows known all
    → list_any (λ k. is_eq (slice_cmp nat_cmp x k.now)) known.keys ≡ true → Finds once all → Finds once (all ++ x ∷ [])
finds-same known once all x k e h test = h test ∙ (sym (known-again test all x (sym (k x) ∙ e)) ∙ sym (any-snoc test all x))

pub not-false : (b c : Bool) → c ≡ not b → c ≡ false → b ≡ true
not-false true c e f = refl
not-false false c e f = absurd cc
