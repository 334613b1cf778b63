-- Identifiers, and spellings before bytes that don't continue them.
use Rattle.std.proofs.Common.{◌≡◌, ◌↔◌, ℕ, zero, suc, ◌+◌, ◌<◌, ◌≤◌, Bool, true, false, ◌&&◌, ◌||◌, not, cond, List, [], ◌∷◌, ◌++◌, Option, Some, None, option_map, length, take, drop, nat_eq, refl, sym, ap, subst, ◌∙◌, arith, if◌then◌else◌, inl, inr}
use Rattle.std.proofs.lemmas.Bool.{cases_Bool, and_parts, and_from, and_left, and_right, or_parts, or_from, or_left, eqb-true, eq-eqb}
use Rattle.std.proofs.lemmas.Bool.Decides.{nat_tests}
use Rattle.std.specs.List.{list_all, prefix_len}
use Rattle.c_tokens.specs.declared.tok.TokKind.{TokKind}
use Rattle.c_tokens.specs.declared.tok.TokKind.TheVariants as kind
use Rattle.c_tokens.specs.declared.grammar.Piece.{Piece}
use Rattle.c_tokens.specs.declared.grammar.Piece.TheVariants as piece
use Rattle.c_tokens.specs.Bytes.{byte_at, is_blank, is_digit, is_letter, is_word_byte, is_exponent, is_sign, is_quote, is_prefix, is_punctuator, takes_equals, is_doubled, is_other}
use Rattle.c_tokens.specs.Grammar.{comment_end, literal_end, number_rest, quote_place, begins_number, is_three, is_two, punctuator_length, sign_of_length, literal_of, comment_of, plain_front, token_front, front, kind_of_front, kind_of}
use Rattle.c_tokens.specs.Laws.{is_identifier, IdentifiersAreWords, IdentifiersGrow}

-- ---- bytes

letter_blank : (b : ℕ) → is_letter b ≡ true → is_blank b ≡ false
letter_blank b h = grind (arith, nat_tests)

letter_slash : (b : ℕ) → is_letter b ≡ true → nat_eq b 47 ≡ false
letter_slash b h = grind (arith, nat_tests)

letter_quote : (b : ℕ) → is_letter b ≡ true → is_quote b ≡ false
letter_quote b h = grind (arith, nat_tests)

letter_word : (b : ℕ) → is_letter b ≡ true → is_word_byte b ≡ true
letter_word b h = or_left _ _ h

word_quote : (b : ℕ) → is_word_byte b ≡ true → is_quote b ≡ false
word_quote b h = grind (arith, nat_tests)

-- the byte behind so many, if there is one, is of a word
behind_quote : (bs : List ℕ) → list_all is_word_byte bs ≡ true → is_quote (byte_at bs 0) ≡ false
behind_quote [] h = refl
behind_quote (b ∷ bs) h = word_quote b (and_parts _ _ h).0

behind_second : (bs : List ℕ) → list_all is_word_byte bs ≡ true → is_quote (byte_at bs 1) ≡ false
behind_second [] h = refl
behind_second (b ∷ bs) h = behind_quote bs (and_parts _ _ h).1

-- ---- what a piece is

abbrev pub IsToken : Piece → TokKind → ℕ → Type 0
IsToken p k n = p ≡ piece.Token k n

piece_is : (p : Piece) (m : ℕ) (k : TokKind) → kind_of_front p m ≡ Some k → IsToken p k m
piece_is (piece.Gap n) m k h = cc
piece_is piece.Unclosed m k h = cc
piece_is piece.Nothing m k h = cc
piece_is (piece.Token j n) m k h = elim (cases_Bool (nat_eq n m)) [
  | inl e ↦
      let g : Some j ≡ Some k = rw e at h in
      let f : j ≡ k = cc in
      let q : n ≡ m = eqb-true n m e in
      ap (λ x. piece.Token x n) f ∙ ap (piece.Token k) q
  | inr e ↦ let g : None ≡ Some k = rw e at h in cc
]

pub front_is : (bytes : List ℕ) (k : TokKind) → kind_of bytes ≡ Some k → front bytes ≡ piece.Token k (length bytes)
front_is bytes k h = piece_is (front bytes) (length bytes) k h

pub is_kind : (bytes : List ℕ) (k : TokKind) → front bytes ≡ piece.Token k (length bytes) → kind_of bytes ≡ Some k
is_kind bytes k h = ap (λ p. kind_of_front p (length bytes)) h ∙ ap (λ b. if b then Some k else None) (eq-eqb (length bytes) (length bytes) refl)

-- ---- identifiers

all_prefix : (bs : List ℕ) → list_all is_word_byte bs ≡ true → prefix_len is_word_byte bs ≡ length bs
all_prefix [] h = refl
all_prefix (b ∷ bs) h =
    let p : (is_word_byte b ≡ true) × (list_all is_word_byte bs ≡ true) = and_parts _ _ h in
    let e : prefix_len is_word_byte bs ≡ length bs = all_prefix bs p.1 in
    rw p.0 (omega (arith, e))

prefix_all : (bs : List ℕ) → prefix_len is_word_byte bs ≡ length bs → list_all is_word_byte bs ≡ true
prefix_all [] h = refl
prefix_all (b ∷ bs) h = elim (cases_Bool (is_word_byte b)) [
  | inl e ↦
      let g : 1 + prefix_len is_word_byte bs ≡ suc (length bs) = rw e at h in
      let i : prefix_len is_word_byte bs ≡ length bs = omega (arith, g) in
      rw e (prefix_all bs i)
  | inr e ↦ let g : 0 ≡ suc (length bs) = rw e at h in absurd (omega (arith, g))
]

if_none : (b : Bool) (o : Option ℕ) → b ≡ false → (if b then o else None) ≡ None
if_none b o h = ap (λ x. if x then o else None) h

no_place : (a b c : ℕ) → is_quote a ≡ false → is_quote b ≡ false → is_quote c ≡ false → quote_place a b c ≡ None
no_place a b c ha hb hc =
    let q : nat_eq c 34 ≡ false = (or_parts (nat_eq c 34) (nat_eq c 39) hc).0 in
    let u : (nat_eq a 117 && nat_eq b 56 && nat_eq c 34) ≡ false = and_right (nat_eq a 117 && nat_eq b 56) (nat_eq c 34) q in
    let p : (is_prefix a && is_quote b) ≡ false = and_right (is_prefix a) (is_quote b) hb in
    rw (ha, p) (if_none (nat_eq a 117 && nat_eq b 56 && nat_eq c 34) (Some 2) u)

pub identifier_kind : (bytes : List ℕ) → is_identifier bytes ≡ true → kind_of bytes ≡ Some kind.Ident
identifier_kind [] h = cc
identifier_kind (b ∷ bs) h =
    let p : (is_letter b ≡ true) × (list_all is_word_byte bs ≡ true) = and_parts _ _ h in
    let m : prefix_len is_word_byte bs ≡ length bs = all_prefix bs p.1 in
    let n : 1 + prefix_len is_word_byte bs ≡ suc (length bs) = omega (arith, m) in
    let q : quote_place b (byte_at bs 0) (byte_at bs 1) ≡ None = no_place b (byte_at bs 0) (byte_at bs 1) (letter_quote b p.0) (behind_quote bs p.1) (behind_second bs p.1) in
    is_kind (b ∷ bs) kind.Ident (rw (letter_blank b p.0, letter_slash b p.0, q, p.0) (ap (piece.Token kind.Ident) n))

-- what stands at the front, where it is a token
pub record Told (bytes : List ℕ) (k : TokKind) (n : ℕ) : Type 0 where
  pub blank : is_blank (byte_at bytes 0) ≡ false
  pub comment : (nat_eq (byte_at bytes 0) 47 && nat_eq (byte_at bytes 1) 42) ≡ false
  pub line : (nat_eq (byte_at bytes 0) 47 && nat_eq (byte_at bytes 1) 47) ≡ false
  pub token : token_front (quote_place (byte_at bytes 0) (byte_at bytes 1) (byte_at bytes 2)) bytes ≡ piece.Token k n

no_comment : (o : Option ℕ) (k : TokKind) (n : ℕ) → comment_of o ≡ piece.Token k n → ⊥
no_comment None k n h = cc
no_comment (Some m) k n h = cc

pub told : (bytes : List ℕ) (k : TokKind) (n : ℕ) → front bytes ≡ piece.Token k n → Told bytes k n
told bytes k n h = elim (cases_Bool (is_blank (byte_at bytes 0))) [
  | inl a ↦ let e : piece.Gap 1 ≡ piece.Token k n = rw a at h in cc
  | inr a ↦ elim (cases_Bool (nat_eq (byte_at bytes 0) 47 && nat_eq (byte_at bytes 1) 42)) [
    | inl b ↦ let e : comment_of (comment_end false (drop 2 bytes)) ≡ piece.Token k n = rw (a, b) at h in absurd (no_comment (comment_end false (drop 2 bytes)) k n e)
    | inr b ↦ elim (cases_Bool (nat_eq (byte_at bytes 0) 47 && nat_eq (byte_at bytes 1) 47)) [
      | inl c ↦ let e : piece.Gap (length bytes) ≡ piece.Token k n = rw (a, b, c) at h in cc
      | inr c ↦ record { blank = a; comment = b; line = c; token = rw (a, b, c) at h }
    ]
  ]
]

pub told_front : (bytes : List ℕ) (k : TokKind) (n : ℕ) → Told bytes k n → front bytes ≡ piece.Token k n
told_front bytes k n t = rw (t.blank, t.comment, t.line) t.token

-- ---- the other way: a token that is an identifier is one of words

no_sign : (n a m : ℕ) → sign_of_length n a ≡ piece.Token kind.Ident m → ⊥
no_sign zero a m h = elim (cases_Bool (is_other a)) [
  | inl e ↦ let g : piece.Token kind.Other 1 ≡ piece.Token kind.Ident m = rw e at h in cc
  | inr e ↦ let g : piece.Nothing ≡ piece.Token kind.Ident m = rw e at h in cc
]
no_sign (suc n) a m h = cc

no_literal : (quote place : ℕ) (o : Option ℕ) (m : ℕ) → literal_of quote place o ≡ piece.Token kind.Ident m → ⊥
no_literal quote place None m h = cc
no_literal quote place (Some n) m h = elim (cases_Bool (nat_eq quote 34)) [
  | inl e ↦ let g : piece.Token kind.Str (place + 1 + n) ≡ piece.Token kind.Ident m = rw e at h in cc
  | inr e ↦ elim (cases_Bool (nat_eq n 1)) [
    | inl f ↦ let g : piece.Nothing ≡ piece.Token kind.Ident m = rw (e, f) at h in cc
    | inr f ↦ let g : piece.Token kind.Char (place + 1 + n) ≡ piece.Token kind.Ident m = rw (e, f) at h in cc
  ]
]

words_of : (b : ℕ) (bs : List ℕ) → plain_front (b ∷ bs) ≡ piece.Token kind.Ident (length (b ∷ bs)) → is_identifier (b ∷ bs) ≡ true
words_of b bs h = elim (cases_Bool (is_letter b)) [
  | inl e ↦
      let g : piece.Token kind.Ident (1 + prefix_len is_word_byte bs) ≡ piece.Token kind.Ident (suc (length bs)) = rw e at h in
      let n : 1 + prefix_len is_word_byte bs ≡ suc (length bs) = cc in
      let m : prefix_len is_word_byte bs ≡ length bs = omega (arith, n) in
      and_from _ _ e (prefix_all bs m)
  | inr e ↦ elim (cases_Bool (begins_number b (byte_at bs 0))) [
    | inl f ↦ let g : piece.Token kind.Number (1 + number_rest false bs) ≡ piece.Token kind.Ident (length (b ∷ bs)) = rw (e, f) at h in cc
    | inr f ↦
        let g : sign_of_length (punctuator_length b (byte_at bs 0) (byte_at bs 1)) b ≡ piece.Token kind.Ident (length (b ∷ bs)) = rw (e, f) at h in
        absurd (no_sign (punctuator_length b (byte_at bs 0) (byte_at bs 1)) b (length (b ∷ bs)) g)
  ]
]

words_front : (o : Option ℕ) (b : ℕ) (bs : List ℕ) → token_front o (b ∷ bs) ≡ piece.Token kind.Ident (length (b ∷ bs)) → is_identifier (b ∷ bs) ≡ true
words_front None b bs h = words_of b bs h
words_front (Some i) b bs h = absurd (no_literal (byte_at (b ∷ bs) i) i (literal_end (byte_at (b ∷ bs) i) false (drop (i + 1) (b ∷ bs))) (length (b ∷ bs)) h)

identifier_words : (bytes : List ℕ) → kind_of bytes ≡ Some kind.Ident → is_identifier bytes ≡ true
identifier_words [] h = cc
identifier_words (b ∷ bs) h =
    let t : Told (b ∷ bs) kind.Ident (length (b ∷ bs)) = told (b ∷ bs) kind.Ident (length (b ∷ bs)) (front_is (b ∷ bs) kind.Ident h) in
    words_front (quote_place b (byte_at bs 0) (byte_at bs 1)) b bs t.token

pub identifiers_are_words : IdentifiersAreWords
identifiers_are_words bytes = (identifier_words bytes, identifier_kind bytes)

all_more : (xs ys : List ℕ) → list_all is_word_byte xs ≡ true → list_all is_word_byte ys ≡ true → list_all is_word_byte (xs ++ ys) ≡ true
all_more [] ys h k = k
all_more (x ∷ xs) ys h k =
    let p : (is_word_byte x ≡ true) × (list_all is_word_byte xs ≡ true) = and_parts _ _ h in
    and_from _ _ p.0 (all_more xs ys p.1 k)

pub longer : (word more : List ℕ) → is_identifier word ≡ true → list_all is_word_byte more ≡ true → is_identifier (word ++ more) ≡ true
longer [] more h k = cc
longer (b ∷ bs) more h k =
    let p : (is_letter b ≡ true) × (list_all is_word_byte bs ≡ true) = and_parts _ _ h in
    and_from _ _ p.0 (all_more bs more p.1 k)

pub identifiers_grow : IdentifiersGrow
identifiers_grow word more h k = identifier_kind (word ++ more) (longer word more (identifier_words word h) k)
