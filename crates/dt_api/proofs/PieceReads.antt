-- How the pieces of names and bodies are read.
use Rattle.std.proofs.Common.{◌≡◌, ◌∙◌, ◌<◌, ◌++◌, ℕ, zero, suc, Bool, true, false, ◌&&◌, ◌||◌, ◌==◌, ◌/◌, ◌%◌, List, [], ◌∷◌, nat_eq, nat_le, nat_lt, refl, sym, subst, inl, inr, arith}
use Rattle.std.specs.Prelude.{decimal}
use Rattle.std.specs.Fmt.{digits, digits_onto, digit_glyph}
use Rattle.std.specs.List.{flat_map, list_all}
use Rattle.std.proofs.lemmas.Bool.{cases_Bool, and_parts, and_from}
use Rattle.std.proofs.lemmas.Bool.Decides.{nat_tests}
use Rattle.std.proofs.lemmas.Grind.{flat_map-append}
use Rattle.std.proofs.lemmas.List.Folds.{list_all-append}
use Rattle.edt_base.specs.Forms.{form_byte, form_char, form_of}
use Rattle.c_tokens.specs.Bytes.{is_digit, is_word_byte}
use Rattle.c_tokens.specs.Laws.{IsToken}
use Rattle.dt_names.specs.Facts.{id_pieces, name_first, name_pieces, names_pieces}
use Rattle.dt_names.specs.Pieces.{PieceData, form, lit, num, spell, spells, str}
use Rattle.dt_api.proofs.TokenReads.{a_number, digit_word, number_token}

-- ---- forms and decimals

form_byte_word : (c : ℕ) → is_word_byte (form_byte c) ≡ true
form_byte_word c = elim (cases_Bool (nat_le 65 c && nat_le c 90)) [
  | inl e ↦ rw e (grind (arith, nat_tests))
  | inr e ↦ rw e (elim (cases_Bool ((nat_le 97 c && nat_le c 122) || (nat_le 48 c && nat_le c 57))) [ inl f ↦ rw f (grind (arith, nat_tests)) | inr f ↦ rw f refl ])
]

form_char_word : (c : ℕ) → list_all is_word_byte (form_char c) ≡ true
form_char_word c = elim (cases_Bool (nat_lt c 128)) [
  | inl e ↦ rw (e, form_byte_word c) refl
  | inr e ↦ rw e (elim (cases_Bool (nat_lt c 192)) [ inl f ↦ rw f refl | inr f ↦ rw f refl ])
]

chars_word : (t : List ℕ) → list_all is_word_byte (flat_map form_char t) ≡ true
chars_word [] = refl
chars_word (c ∷ cs) = list_all-append is_word_byte (form_char c) (flat_map form_char cs) ∙ and_from _ _ (form_char_word c) (chars_word cs)

pub form_word : (t : List ℕ) → list_all is_word_byte (form_of t) ≡ true
unfolding form_of
form_word t = chars_word t

-- digits, of which there is one at least
record Digits (w : List ℕ) : Type 0 where
  pub first : ℕ
  pub rest : List ℕ
  pub is : w ≡ first ∷ rest
  pub first_digit : is_digit first ≡ true
  pub rest_digits : list_all is_digit rest ≡ true

glyph_digit : (d : ℕ) → d < 10 → is_digit (digit_glyph false d) ≡ true
glyph_digit d h =
    let e : nat_lt d 10 ≡ true = grind (arith, nat_tests) in
    rw e (grind (arith, nat_tests))

last_digit : (n : ℕ) → n % 10 < 10
last_digit n = grind (arith)

onto : (j n b : ℕ) (bs : List ℕ) → is_digit b ≡ true → list_all is_digit bs ≡ true → Digits (digits_onto j 10 false n (b ∷ bs))
onto zero n b bs d h = record { first = b; rest = bs; is = refl; first_digit = d; rest_digits = h }
onto (suc j) n b bs d h =
    let g : is_digit (digit_glyph false (n % 10)) ≡ true = glyph_digit (n % 10) (last_digit n) in
    elim (cases_Bool (nat_eq (n / 10) 0)) [
      | inl e ↦ rw e (record { first = digit_glyph false (n % 10); rest = b ∷ bs; is = refl; first_digit = g; rest_digits = and_from _ _ d h })
      | inr e ↦ rw e (onto j (n / 10) (digit_glyph false (n % 10)) (b ∷ bs) g (and_from _ _ d h))
    ]

decimal_digits : (n : ℕ) → Digits (decimal n)
unfolding digits
decimal_digits n =
    let g : is_digit (digit_glyph false (n % 10)) ≡ true = glyph_digit (n % 10) (last_digit n) in
    elim (cases_Bool (nat_eq (n / 10) 0)) [
      | inl e ↦ rw e (record { first = digit_glyph false (n % 10); rest = []; is = refl; first_digit = g; rest_digits = refl })
      | inr e ↦ rw e (onto 63 (n / 10) (digit_glyph false (n % 10)) [] g refl)
    ]

digits_words : (w : List ℕ) → list_all is_digit w ≡ true → list_all is_word_byte w ≡ true
digits_words [] h = refl
digits_words (b ∷ bs) h = let p : (is_digit b ≡ true) × (list_all is_digit bs ≡ true) = and_parts _ _ h in and_from _ _ (digit_word b p.0) (digits_words bs p.1)

pub decimal_token : (spaced : Bool) (n : ℕ) → IsToken (a_number spaced (decimal n))
decimal_token spaced n =
    let d = decimal_digits n in
    subst (λ w. IsToken (a_number spaced w)) (sym d.is) (number_token spaced d.first d.rest d.first_digit (digits_words d.rest d.rest_digits))

pub decimal_word : (n : ℕ) → list_all is_word_byte (decimal n) ≡ true
decimal_word n =
    let d = decimal_digits n in
    subst (λ w. list_all is_word_byte w ≡ true) (sym d.is) (and_from _ _ (digit_word d.first d.first_digit) (digits_words d.rest d.rest_digits))

-- ---- pieces

pub spells_append : (ps qs : List PieceData) → spells (ps ++ qs) ≡ spells ps ++ spells qs
unfolding spells
spells_append ps qs = flat_map-append spell ps qs

-- pieces of which each is a part of a word
abbrev pub are_words : List PieceData → Bool
are_words [] = true
are_words (lit t ∷ ps) = list_all is_word_byte t && are_words ps
are_words (form t ∷ ps) = are_words ps
are_words (num n ∷ ps) = are_words ps
are_words (str t ∷ ps) = false

pub are_words_append : (ps qs : List PieceData) → are_words ps ≡ true → are_words qs ≡ true → are_words (ps ++ qs) ≡ true
are_words_append [] qs h k = k
are_words_append (lit t ∷ ps) qs h k = let p : (list_all is_word_byte t ≡ true) × (are_words ps ≡ true) = and_parts _ _ h in and_from _ _ p.0 (are_words_append ps qs p.1 k)
are_words_append (form t ∷ ps) qs h k = are_words_append ps qs h k
are_words_append (num n ∷ ps) qs h k = are_words_append ps qs h k
are_words_append (str t ∷ ps) qs h k = cc

pub words_spelled : (ps : List PieceData) → are_words ps ≡ true → list_all is_word_byte (spells ps) ≡ true
unfolding spells
words_spelled [] h = refl
words_spelled (lit t ∷ ps) h =
    let p : (list_all is_word_byte t ≡ true) × (are_words ps ≡ true) = and_parts _ _ h in
    list_all-append is_word_byte t (flat_map spell ps) ∙ and_from _ _ p.0 (words_spelled ps p.1)
words_spelled (form t ∷ ps) h = list_all-append is_word_byte (form_of t) (flat_map spell ps) ∙ and_from _ _ (form_word t) (words_spelled ps h)
words_spelled (num n ∷ ps) h = list_all-append is_word_byte (decimal n) (flat_map spell ps) ∙ and_from _ _ (decimal_word n) (words_spelled ps h)
words_spelled (str t ∷ ps) h = cc

names_words : (path : List ℕ) → are_words (names_pieces path) ≡ true
names_words [] = refl
names_words (c ∷ cs) = elim (cases_Bool (c == 47)) [ inl e ↦ rw e (are_words_append (name_pieces (name_first cs)) (names_pieces cs) (name_words (name_first cs)) (names_words cs)) | inr e ↦ rw e (names_words cs) ]
  where
    name_words : (w : List ℕ) → are_words (name_pieces w) ≡ true
    name_words [] = refl
    name_words (b ∷ bs) = refl

pub id_words : (path : List ℕ) → are_words (id_pieces path) ≡ true
id_words path = names_words path
