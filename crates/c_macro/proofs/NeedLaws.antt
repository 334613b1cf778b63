-- Which arguments a body needs.
use Rattle.std.proofs.Common.{◌≡◌, ◌<◌, ◌||◌, ◌+◌, ℕ, zero, suc, Bool, true, false, List, [], ◌∷◌, ◌++◌, length, nat_eq, slice_index_or, slice_set, refl, sym, ap, ◌∙◌, arith}
use Rattle.std.proofs.Math.Dec.{eqb-suc-zero, eqb-zero-suc, eqb-suc-suc}
use Rattle.std.specs.List.{list_any}
use Rattle.c_macro.specs.declared.needs.Needs.{Needs}
use Rattle.c_macro.specs.Bodies.{Part, is_written, is_full}
use Rattle.c_macro.specs.Needing.{NeedsOf, Noted, Noting}

or_true : (b : Bool) → true ≡ b || true
or_true true = refl
or_true false = refl

or_false : (b : Bool) → b ≡ b || false
or_false true = refl
or_false false = refl

or_over : (a b c : Bool) → ((a || b) || c) ≡ (a || (b || c))
or_over true b c = refl
or_over false b c = refl

pub unset_more : (xs : List Bool) (i : ℕ) → ((j : ℕ) → slice_index_or xs j false ≡ false) → slice_index_or (xs ++ false ∷ []) i false ≡ false
unset_more [] zero h = refl
unset_more [] (suc i) h = refl
unset_more (x ∷ xs) zero h = h zero
unset_more (x ∷ xs) (suc i) h = unset_more xs i (λ j. h (suc j))

pub set_flag : (xs : List Bool) (k i : ℕ) → i < length xs → slice_index_or (slice_set xs k true) i false ≡ (slice_index_or xs i false || nat_eq k i)
set_flag [] k i h = absurd (omega (arith, h))
set_flag (x ∷ xs) zero zero h = or_true x
set_flag (x ∷ xs) zero (suc i) h = rw (eqb-zero-suc i) (or_false (slice_index_or xs i false))
set_flag (x ∷ xs) (suc k) zero h = rw (eqb-suc-zero k) (or_false x)
set_flag (x ∷ xs) (suc k) (suc i) h = rw (eqb-suc-suc k i) (set_flag xs k i (omega (arith, h)))

-- a flag that isn't there stays unset
pub past_flag : (xs : List Bool) (k i : ℕ) → length xs < k + 1 → i < length xs → slice_index_or xs i false ≡ (slice_index_or xs i false || nat_eq k i)
past_flag [] k i h l = absurd (omega (arith, l))
past_flag (x ∷ xs) zero i h l = absurd (omega (arith, h))
past_flag (x ∷ xs) (suc k) zero h l = rw (eqb-suc-zero k) (or_false x)
past_flag (x ∷ xs) (suc k) (suc i) h l = rw (eqb-suc-suc k i) (past_flag xs k i (omega (arith, h)) (omega (arith, l)))

pub noting_starts : (whole : List Part) (count : ℕ) (n : Needs) → length n.written.items ≡ count → length n.full.items ≡ count → ((i : ℕ) → slice_index_or n.written.items i false ≡ false)
    → ((i : ℕ) → slice_index_or n.full.items i false ≡ false) → Noting whole whole count n
noting_starts whole count n w f a b = record {
  written_count = w;
  full_count = f;
  written = λ i l. ap (λ x. x || list_any (is_written i) whole) (a i);
  full = λ i l. ap (λ x. x || list_any (is_full i) whole) (b i);
}

pub noting_goes : (whole left rest : List Part) (p : Part) (count : ℕ) (n m : Needs) → Noting whole left count n → left ≡ p ∷ rest → Noted n p m → Noting whole rest count m
noting_goes whole left rest p count n m k e d = record {
  written_count = d.written_count ∙ k.written_count;
  full_count = d.full_count ∙ k.full_count;
  written = λ i l.
      let a = d.written i (omega (arith, l, k.written_count)) in
      ap (λ x. x || list_any (is_written i) rest) a ∙ (or_over (slice_index_or n.written.items i false) (is_written i p) (list_any (is_written i) rest)
      ∙ (ap (λ xs. slice_index_or n.written.items i false || list_any (is_written i) xs) (sym e) ∙ k.written i l));
  full = λ i l.
      let a = d.full i (omega (arith, l, k.full_count)) in
      ap (λ x. x || list_any (is_full i) rest) a ∙ (or_over (slice_index_or n.full.items i false) (is_full i p) (list_any (is_full i) rest)
      ∙ (ap (λ xs. slice_index_or n.full.items i false || list_any (is_full i) xs) (sym e) ∙ k.full i l));
}

pub noting_ends : (whole left : List Part) (count : ℕ) (n : Needs) → Noting whole left count n → left ≡ [] → NeedsOf whole count n
noting_ends whole left count n k e = record {
  written = λ i l. or_false (slice_index_or n.written.items i false) ∙ (ap (λ xs. slice_index_or n.written.items i false || list_any (is_written i) xs) (sym e) ∙ k.written i l);
  full = λ i l. or_false (slice_index_or n.full.items i false) ∙ (ap (λ xs. slice_index_or n.full.items i false || list_any (is_full i) xs) (sym e) ∙ k.full i l);
}
