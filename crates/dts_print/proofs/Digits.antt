-- A number in hexadecimal is that of its sixteenth, and its last digit.
use Rattle.std.proofs.Common.{◌≡◌, ◌∙◌, ◌==◌, ◌+◌, ◌/◌, ◌%◌, ◌^◌, ◌<◌, ◌≤◌, ◌++◌, ℕ, zero, suc, Bool, true, false, List, [], ◌∷◌, if◌then◌else◌, length, refl, sym, ap, append_assoc, length-append, arith}
use Rattle.std.proofs.lemmas.Bool.Decides.{nat_tests}
use Rattle.std.proofs.lemmas.Fmt.{hex_one_digit}
use Rattle.std.specs.Fmt.{digit_glyph, digits, digits_onto}

abbrev last_of : ℕ → ℕ
last_of n = digit_glyph false (n % 16)

-- the digits stand before those that follow
onto_append : (k n : ℕ) (after : List ℕ) → digits_onto k 16 false n after ≡ digits_onto k 16 false n [] ++ after
onto_append zero n after = refl
onto_append (suc k) n after = by_test (n / 16 == 0) (onto_append k (n / 16) (last_of n ∷ after)) (onto_append k (n / 16) (last_of n ∷ []))
  where
    by_test : (b : Bool) → digits_onto k 16 false (n / 16) (last_of n ∷ after) ≡ digits_onto k 16 false (n / 16) [] ++ (last_of n ∷ after)
        → digits_onto k 16 false (n / 16) (last_of n ∷ []) ≡ digits_onto k 16 false (n / 16) [] ++ (last_of n ∷ [])
        → (if b then last_of n ∷ after else digits_onto k 16 false (n / 16) (last_of n ∷ after))
        ≡ (if b then last_of n ∷ [] else digits_onto k 16 false (n / 16) (last_of n ∷ [])) ++ after
    by_test true more last = refl
    by_test false more last = more
        ∙ (sym (append_assoc (digits_onto k 16 false (n / 16) []) (last_of n ∷ []) after) ∙ ap (λ t. t ++ after) (sym last))

-- the number has no more digits than one and so many
abbrev IsShort : ℕ → ℕ → Type 0
IsShort zero n = n < 16
IsShort (suc j) n = IsShort j (n / 16)

-- room for more digits than there are changes nothing
onto_enough : (j a b n : ℕ) (after : List ℕ) → IsShort j n → j < a → j < b → digits_onto a 16 false n after ≡ digits_onto b 16 false n after
onto_enough j zero b n after short low high = absurd (omega arith)
onto_enough j (suc a) zero n after short low high = absurd (omega arith)
onto_enough zero (suc a) (suc b) n after short low high =
    let none : (n / 16 == 0) ≡ true = grind (arith, nat_tests) in
    rw none refl
onto_enough (suc j) (suc a) (suc b) n after short low high =
    ap (λ t. if n / 16 == 0 then last_of n ∷ after else t) (onto_enough j a b (n / 16) (last_of n ∷ after) short (omega arith) (omega arith))

pub more_digits : (n : ℕ) → 16 ≤ n → n < 2 ^ 32 → digits 16 false (n / 16) ++ digit_glyph false (n % 16) ∷ [] ≡ digits 16 false n
unfolding digits
more_digits n many small =
    let some : (n / 16 == 0) ≡ false = grind (arith, nat_tests) in
    let short : IsShort 7 (n / 16) = omega arith in
    sym (ap (λ (b : Bool). if b then last_of n ∷ [] else digits_onto 63 16 false (n / 16) (last_of n ∷ [])) some
    ∙ (onto_append 63 (n / 16) (last_of n ∷ []) ∙ ap (λ t. t ++ last_of n ∷ []) (onto_enough 7 63 64 (n / 16) [] short (omega arith) (omega arith))))

pub one_digit : (n : ℕ) → n < 16 → digit_glyph false n ∷ [] ≡ digits 16 false n
one_digit n small = sym (hex_one_digit false n small)

-- how many there are
pub more_long : (n : ℕ) → 16 ≤ n → n < 2 ^ 32 → length (digits 16 false n) ≡ length (digits 16 false (n / 16)) + 1
more_long n many small =
    sym (ap length (more_digits n many small)) ∙ length-append (digits 16 false (n / 16)) (digit_glyph false (n % 16) ∷ [])

pub one_long : (n : ℕ) → n < 16 → length (digits 16 false n) ≡ 1
one_long n small = sym (ap length (one_digit n small))
