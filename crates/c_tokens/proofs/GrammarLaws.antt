-- The sizes of what stands at the front of a line.
use Rattle.std.proofs.Common.{◌≡◌, ℕ, zero, suc, ◌<◌, ◌≤◌, Bool, true, false, List, [], ◌∷◌, length, nat_eq, refl, arith, rules, ◌&&◌, ◌||◌, if◌then◌else◌, inl, inr}
use Rattle.std.proofs.lemmas.Bool.{cases_Bool}
use Rattle.std.proofs.lemmas.Bool.Decides.{nat_tests}
use Rattle.c_tokens.specs.Bytes.{byte_at, is_doubled, takes_equals, is_punctuator, is_other}
use Rattle.c_tokens.specs.Grammar.{is_three, is_two, punctuator_length, sign_of_length, IsWithin}

no_three : (a b : ℕ) → is_three a b 0 ≡ false
no_three a b = grind (arith, nat_tests)

no_two : (a : ℕ) → is_two a 0 ≡ false
no_two a = grind (arith, nat_tests)

pub punctuator_fits : (bytes : List ℕ) → 0 < length bytes → punctuator_length (byte_at bytes 0) (byte_at bytes 1) (byte_at bytes 2) ≤ length bytes
punctuator_fits [] h = absurd (omega arith)
punctuator_fits (a ∷ []) h = rw (no_three a 0, no_two a) (elim (cases_Bool (is_punctuator a)) [ inl e ↦ rw e (omega arith) | inr e ↦ rw e (omega arith) ])
punctuator_fits (a ∷ b ∷ []) h = rw (no_three a b) (elim (cases_Bool (is_two a b)) [
  | inl e ↦ rw e (omega arith)
  | inr e ↦ rw e (elim (cases_Bool (is_punctuator a)) [ inl f ↦ rw f (omega arith) | inr f ↦ rw f (omega arith) ])
])
punctuator_fits (a ∷ b ∷ c ∷ bs) h = elim (cases_Bool (is_three a b c)) [
  | inl e ↦ rw e (omega arith)
  | inr e ↦ rw e (elim (cases_Bool (is_two a b)) [
    | inl f ↦ rw f (omega arith)
    | inr f ↦ rw f (elim (cases_Bool (is_punctuator a)) [ inl g ↦ rw g (omega arith) | inr g ↦ rw g (omega arith) ])
  ])
]

pub sign_within : (n a size : ℕ) → 0 < size → n ≤ size → IsWithin size (sign_of_length n a)
sign_within zero a size some fits = elim (cases_Bool (is_other a)) [ inl e ↦ rw e (omega arith, omega arith) | inr e ↦ rw e tt ]
sign_within (suc n) a size some fits = (omega arith, fits)
