-- An escaped text is a text.
use Rattle.std.proofs.Common.{◌≡◌, ℕ, ◌≤◌, true, false, List, [], ◌∷◌, ◌||◌, refl, subst, arith, inl, inr, nat_eq, ltb}
use Rattle.std.proofs.lemmas.Bool.{cases_Bool, cases_lt, and_parts}
use Rattle.std.proofs.lemmas.Bool.Decides.{nat_tests}
use Rattle.std.proofs.lemmas.List.Concat.{flat_map-append}
use Rattle.std.proofs.lemmas.Str.{IsUtf8-append, IsUtf8-encode, IsUtf8-nil, IsUtf8-from_ascii}
use Rattle.std.proofs.lemmas.Str.Ascii.{encode_ascii, IsAscii-cons, IsAscii-nil}
use Rattle.std.specs.List.{flat_map}
use Rattle.std.specs.Str.{IsUtf8}
use lib.Utf8.{encode, encodes, scalar, scalars}
use Rattle.c_macro.specs.Bodies.{escaped}

not_escaped : (b : ℕ) → 128 ≤ b → escaped b ≡ b ∷ []
not_escaped b h = grind (arith, nat_tests)

two : (a b : ℕ) → 128 ≤ a → 128 ≤ b → flat_map escaped (a ∷ b ∷ []) ≡ a ∷ b ∷ []
two a b h k = rw (not_escaped a h, not_escaped b k) refl

three : (a b c : ℕ) → 128 ≤ a → 128 ≤ b → 128 ≤ c → flat_map escaped (a ∷ b ∷ c ∷ []) ≡ a ∷ b ∷ c ∷ []
three a b c h k l = rw (not_escaped a h, not_escaped b k, not_escaped c l) refl

four : (a b c d : ℕ) → 128 ≤ a → 128 ≤ b → 128 ≤ c → 128 ≤ d → flat_map escaped (a ∷ b ∷ c ∷ d ∷ []) ≡ a ∷ b ∷ c ∷ d ∷ []
four a b c d h k l m = rw (not_escaped a h, not_escaped b k, not_escaped c l, not_escaped d m) refl

high : (c : ℕ) → 128 ≤ c → flat_map escaped (encode c) ≡ encode c
unfolding encode
high c h =
    let low : ltb c 128 ≡ false = grind (arith, nat_tests) in
    rw low (elim (cases_Bool (ltb c 2048)) [
      | inl e ↦ rw e (two _ _ (omega arith) (omega arith))
      | inr e ↦ rw e (elim (cases_Bool (ltb c 65536)) [
        | inl f ↦ rw f (three _ _ _ (omega arith) (omega arith) (omega arith))
        | inr f ↦ rw f (four _ _ _ _ (omega arith) (omega arith) (omega arith) (omega arith))
      ])
    ])

one_char : (c : ℕ) → scalar c ≡ true → IsUtf8 (flat_map escaped (encode c))
one_char c s = elim (cases_lt c 128) [
  | inl low ↦ rw (encode_ascii c low) (elim (cases_Bool (nat_eq c 34 || nat_eq c 92)) [
    | inl e ↦ rw e (IsUtf8-from_ascii (92 ∷ c ∷ []) (IsAscii-cons 92 (c ∷ []) (omega arith) (IsAscii-cons c [] low IsAscii-nil)))
    | inr e ↦ rw e (IsUtf8-from_ascii (c ∷ []) (IsAscii-cons c [] low IsAscii-nil))
  ])
  | inr up ↦ rw (high c up) (IsUtf8-encode c s)
]

all_chars : (cs : List ℕ) → scalars cs ≡ true → IsUtf8 (flat_map escaped (encodes cs))
all_chars [] s = IsUtf8-nil
all_chars (c ∷ cs) s =
    let p : (scalar c ≡ true) × (scalars cs ≡ true) = and_parts _ _ s in
    rw (flat_map-append escaped (encode c) (encodes cs)) (IsUtf8-append _ _ (one_char c p.0) (all_chars cs p.1))

pub escaped_is_text : (bs : List ℕ) → IsUtf8 bs → IsUtf8 (flat_map escaped bs)
escaped_is_text bs (cs, (s, e)) = subst (λ xs. IsUtf8 (flat_map escaped xs)) e (all_chars cs s)
