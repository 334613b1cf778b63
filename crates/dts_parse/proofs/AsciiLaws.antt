-- ASCII bytes are a text.
use Rattle.std.proofs.Common.{◌≡◌, ◌<◌, ℕ, zero, suc, ◌-◌, Bool, true, List, [], ◌∷◌, drop, take, length, refl}
use Rattle.std.specs.Prelude.{All}
use Rattle.std.specs.List.{list_all}
use Rattle.std.specs.Str.{IsUtf8}
use Rattle.std.proofs.lemmas.Bool.{and_from, and_parts, ltb-true}
use Rattle.std.proofs.lemmas.Str.{IsUtf8-from_ascii}
use Rattle.std.proofs.lemmas.Str.Ascii.{IsAscii-from_all}
use Rattle.std.proofs.lemmas.List.Elements.{All-cons, All-nil}
use Rattle.dts_parse.specs.Texts.{within}
use Rattle.dts_parse.specs.Token.{is_ascii}

pub all_parts : (p : ℕ → Bool) (x : ℕ) (xs : List ℕ) → list_all p (x ∷ xs) ≡ true → (p x ≡ true) × (list_all p xs ≡ true)
all_parts p x xs h = and_parts (p x) (list_all p xs) h

pub all_drop : (p : ℕ → Bool) (n : ℕ) (xs : List ℕ) → list_all p xs ≡ true → list_all p (drop n xs) ≡ true
all_drop p zero [] h = refl
all_drop p (suc n) [] h = refl
all_drop p zero (x ∷ xs) h = h
all_drop p (suc n) (x ∷ xs) h = all_drop p n xs (all_parts p x xs h).1

pub all_take : (p : ℕ → Bool) (n : ℕ) (xs : List ℕ) → list_all p xs ≡ true → list_all p (take n xs) ≡ true
all_take p zero [] h = refl
all_take p (suc n) [] h = refl
all_take p zero (x ∷ xs) h = refl
all_take p (suc n) (x ∷ xs) h = let k : (p x ≡ true) × (list_all p xs ≡ true) = all_parts p x xs h in and_from (p x) (list_all p (take n xs)) k.0 (all_take p n xs k.1)

pub all_within : (n : ℕ) (xs : List ℕ) → list_all is_ascii xs ≡ true → list_all is_ascii (within n xs) ≡ true
all_within n xs h = all_take is_ascii (length (drop n xs) - 1) (drop n xs) (all_drop is_ascii n xs h)

all_below : (xs : List ℕ) → list_all is_ascii xs ≡ true → All (λ b. b < 128) xs
all_below [] h = All-nil (λ b. b < 128)
all_below (x ∷ xs) h = let k : (is_ascii x ≡ true) × (list_all is_ascii xs ≡ true) = all_parts is_ascii x xs h in All-cons (λ b. b < 128) x xs (ltb-true x 128 k.0) (all_below xs k.1)

pub is_text : (xs : List ℕ) → list_all is_ascii xs ≡ true → IsUtf8 xs
is_text xs h = IsUtf8-from_ascii xs (IsAscii-from_all xs (all_below xs h))
