-- Bytes that are read as tokens, one token after another.
use Rattle.std.proofs.Common.{◌≡◌, ◌∙◌, ◌+◌, ◌<◌, ◌++◌, ℕ, suc, Bool, true, false, not, ◌&&◌, ◌||◌, ◌==◌, ◌/◌, ◌%◌, List, [], ◌∷◌, Option, Some, None, option_map, length, take, drop, nat_eq, nat_le, nat_lt, refl, sym, ap, subst, inl, inr, arith, append-nil, append_assoc}
use Rattle.std.proofs.lemmas.Bool.{cases_Bool, and_parts, and_from, or_parts}
use Rattle.std.proofs.lemmas.Bool.Decides.{nat_tests}
use Rattle.std.proofs.lemmas.Str.{IsUtf8-from_ascii, is_utf8-from_IsUtf8}
use Rattle.std.proofs.lemmas.Str.Ascii.{IsAscii-cons, IsAscii-nil}
use Rattle.std.proofs.Math.Seq.{take-append_seam, drop-length}
use Rattle.std.proofs.lemmas.List.{length-append}
use Rattle.std.proofs.lemmas.List.Folds.{list_all-append}
use Rattle.std.specs.List.{flat_map, list_all}
use Rattle.std.specs.Str.{is_utf8, IsAscii}
use Rattle.c_tokens.specs.declared.tok.Tok.{Tok}
use Rattle.c_tokens.specs.declared.tok.TokKind.{TokKind}
use Rattle.c_tokens.specs.declared.tok.TokKind.TheVariants as kind
use Rattle.c_tokens.specs.declared.grammar.Piece.TheVariants as piece
use Rattle.c_tokens.specs.Bytes.{is_blank, is_digit, is_exponent, is_letter, is_prefix, is_quote, is_word_byte}
use Rattle.c_tokens.specs.Grammar.{front, kind_of, literal_end, literal_of, number_rest}
use Rattle.c_tokens.specs.Lexed.{Lexed, lexed_behind, lexed_end, with_tok}
use Rattle.c_tokens.specs.Laws.{IsToken, continues, is_identifier, respaced}
use Rattle.dt_names.specs.Pieces.{escaped, quoted}
use Rattle.c_tokens.proofs.LexedLaws.{lexed_gap, lexed_none, lexed_token}
use Rattle.c_tokens.proofs.WordLaws.{front_is, identifier_kind, is_kind}
use Rattle.c_tokens.proofs.EndLaws.{spellings_are_read}

abbrev pub read_as : List Tok → Option Lexed
read_as toks = Some (record { toks = toks; unclosed = false })

-- all of these bytes are read as these tokens
abbrev pub Reads : (spaced : Bool) → List ℕ → List Tok → Type 0
Reads spaced bytes toks = lexed_behind spaced 0 bytes ≡ read_as toks

-- these bytes continue no token before them
abbrev pub is_fresh : List ℕ → Bool
is_fresh [] = true
is_fresh (b ∷ bs) = not (continues b)

pub reads_none : (spaced : Bool) → Reads spaced [] []
reads_none spaced = lexed_none [] spaced refl

pub reads_gap : (spaced : Bool) (bytes : List ℕ) (toks : List Tok) → Reads true bytes toks → Reads spaced (32 ∷ bytes) toks
reads_gap spaced bytes toks h = lexed_gap (32 ∷ bytes) spaced 1 (omega arith) refl (omega arith) ∙ h

no_bytes : (k : TokKind) → kind_of [] ≡ Some k → ⊥
no_bytes k h = cc

some_bytes : (t : List ℕ) (k : TokKind) → kind_of t ≡ Some k → 0 < length t
some_bytes [] k h = absurd (no_bytes k h)
some_bytes (b ∷ bs) k h = omega arith

negated : (b : Bool) → not b ≡ true → b ≡ false
negated false e = refl
negated true e = cc

read_last : (spaced : Bool) (t : Tok) → IsToken t → Reads spaced (t.spell ++ []) (respaced spaced t ∷ [])
read_last spaced t is =
    let n : 0 < length t.spell = some_bytes t.spell t.kind is.told in
    let e = lexed_token t.spell spaced t.kind (length t.spell) n (front_is t.spell t.kind is.told) n in
    let whole : take (length t.spell) t.spell ≡ t.spell = ap (take (length t.spell)) (sym (append-nil t.spell)) ∙ take-append_seam t.spell [] in
    let l : lexed_behind false 0 (drop (length t.spell) t.spell) ≡ lexed_end false = ap (lexed_behind false 0) (drop-length t.spell) ∙ lexed_none [] false refl in
    ap (lexed_behind spaced 0) (append-nil t.spell) ∙ (rw (whole, is.utf8, l) at e)

abbrev pub toks_read : Option Lexed → List Tok
toks_read None = []
toks_read (Some l) = l.toks

pub nothing : {ts us : List Tok} → read_as ts ≡ read_as us → ts ≡ us
nothing e = ap toks_read e

-- a token before bytes that don't continue it
pub reads_token : (spaced : Bool) (t : Tok) (bytes : List ℕ) (toks : List Tok) → IsToken t → is_fresh bytes ≡ true → Reads false bytes toks
    → Reads spaced (t.spell ++ bytes) (respaced spaced t ∷ toks)
reads_token spaced t [] toks is fresh h = subst (λ o. Reads spaced (t.spell ++ []) (respaced spaced t ∷ o)) (nothing (sym (reads_none false) ∙ h)) (read_last spaced t is)
reads_token spaced t (b ∷ bytes) toks is fresh h =
    spellings_are_read spaced t b bytes is (negated (continues b) fresh)
    ∙ ap (option_map (λ (l : Lexed). with_tok (respaced spaced t) l)) h

-- ---- tokens

abbrev pub a_word : Bool → List ℕ → Tok
a_word spaced w = record { spell = w; kind = kind.Ident; spaced = spaced }

abbrev pub a_number : Bool → List ℕ → Tok
a_number spaced w = record { spell = w; kind = kind.Number; spaced = spaced }

abbrev pub a_string : Bool → List ℕ → Tok
a_string spaced w = record { spell = w; kind = kind.Str; spaced = spaced }

abbrev pub a_sign : Bool → List ℕ → Tok
a_sign spaced w = record { spell = w; kind = kind.Punct; spaced = spaced }

-- bytes of ASCII are UTF-8
abbrev pub is_low : ℕ → Bool
is_low b = nat_lt b 128

low_below : (b : ℕ) → is_low b ≡ true → b < 128
low_below b h = grind (arith, nat_tests)

low_ascii : (bytes : List ℕ) → list_all is_low bytes ≡ true → IsAscii bytes
low_ascii [] h = IsAscii-nil
low_ascii (b ∷ bs) h = let p = and_parts _ _ h in IsAscii-cons b bs (low_below b p.0) (low_ascii bs p.1)

pub low_utf8 : (bytes : List ℕ) → list_all is_low bytes ≡ true → is_utf8 bytes ≡ true
low_utf8 bytes h = is_utf8-from_IsUtf8 bytes (IsUtf8-from_ascii bytes (low_ascii bytes h))

word_low : (b : ℕ) → is_word_byte b ≡ true → is_low b ≡ true
word_low b h = grind (arith, nat_tests)

words_low : (w : List ℕ) → list_all is_word_byte w ≡ true → list_all is_low w ≡ true
words_low [] h = refl
words_low (b ∷ bs) h = let p = and_parts _ _ h in and_from _ _ (word_low b p.0) (words_low bs p.1)

letter_word : (b : ℕ) → is_letter b ≡ true → is_word_byte b ≡ true
letter_word b h = rw h refl

pub word_token : (spaced : Bool) (w : List ℕ) → is_identifier w ≡ true → IsToken (a_word spaced w)
word_token spaced [] h = cc
word_token spaced (b ∷ bs) h =
    let p = and_parts _ _ h in
    record { told = identifier_kind (b ∷ bs) h; utf8 = low_utf8 (b ∷ bs) (words_low (b ∷ bs) (and_from _ _ (letter_word b p.0) p.1)) }

number_all : (exponent : Bool) (w : List ℕ) → list_all is_word_byte w ≡ true → number_rest exponent w ≡ length w
number_all exponent [] h = refl
number_all exponent (b ∷ bs) h =
    let p : (is_word_byte b ≡ true) × (list_all is_word_byte bs ≡ true) = and_parts _ _ h in
    rw p.0 (ap suc (number_all (is_exponent b) bs p.1))

digit_blank : (b : ℕ) → is_digit b ≡ true → is_blank b ≡ false
digit_blank b h = grind (arith, nat_tests)

digit_letter : (b : ℕ) → is_digit b ≡ true → is_letter b ≡ false
digit_letter b h = grind (arith, nat_tests)

digit_quote : (b : ℕ) → is_digit b ≡ true → is_quote b ≡ false
digit_quote b h = grind (arith, nat_tests)

digit_prefix : (b : ℕ) → is_digit b ≡ true → is_prefix b ≡ false
digit_prefix b h = grind (arith, nat_tests)

digit_slash : (b : ℕ) → is_digit b ≡ true → nat_eq b 47 ≡ false
digit_slash b h = grind (arith, nat_tests)

digit_u : (b : ℕ) → is_digit b ≡ true → nat_eq b 117 ≡ false
digit_u b h = grind (arith, nat_tests)

pub digit_word : (b : ℕ) → is_digit b ≡ true → is_word_byte b ≡ true
digit_word b h = rw (digit_letter b h, h) refl

-- a digit and word bytes behind it
pub number_token : (spaced : Bool) (b : ℕ) (bs : List ℕ) → is_digit b ≡ true → list_all is_word_byte bs ≡ true → IsToken (a_number spaced (b ∷ bs))
number_token spaced b bs d h =
    let n : 1 + number_rest false bs ≡ suc (length bs) = omega (arith, number_all false bs h) in
    record {
      told = is_kind (b ∷ bs) kind.Number
          (rw (digit_blank b d, digit_slash b d, digit_quote b d, digit_prefix b d, digit_u b d, digit_letter b d, d) (ap (piece.Token kind.Number) n));
      utf8 = low_utf8 (b ∷ bs) (words_low (b ∷ bs) (and_from _ _ (digit_word b d) h));
    }

-- ---- strings

abbrev pub is_byte : ℕ → Bool
is_byte c = nat_lt c 256

third_digit : (n : ℕ) → (nat_eq (48 + n % 8) 34 ≡ false) × (nat_eq (48 + n % 8) 92 ≡ false)
third_digit n = (grind (arith, nat_tests), grind (arith, nat_tests))

over_plain : (c : ℕ) (rest : List ℕ) → nat_eq c 34 ≡ false → nat_eq c 92 ≡ false → literal_end 34 false (c ∷ rest) ≡ option_map suc (literal_end 34 false rest)
over_plain c rest q b = rw (q, b) refl

over_escape : (c : ℕ) (rest : List ℕ) → literal_end 34 false (92 ∷ c ∷ rest) ≡ option_map suc (option_map suc (literal_end 34 false rest))
over_escape c rest = refl

more : (k n : ℕ) (o : Option ℕ) (m : ℕ) → o ≡ Some n → m ≡ k + n → option_map (λ i. k + i) o ≡ Some m
more k n o m h e = rw (h, e) refl

one_more : (n : ℕ) → Some (suc n) ≡ Some (1 + n)
one_more n = let e : suc n ≡ 1 + n = omega arith in ap Some e

two_more : (n : ℕ) → Some (suc (suc n)) ≡ Some (2 + n)
two_more n = let e : suc (suc n) ≡ 2 + n = omega arith in ap Some e

four_more : (n : ℕ) → Some (suc (suc (suc (suc n)))) ≡ Some (4 + n)
four_more n = let e : suc (suc (suc (suc n))) ≡ 4 + n = omega arith in ap Some e

literal_on : (c : ℕ) (rest : List ℕ) (n : ℕ) → literal_end 34 false rest ≡ Some n → literal_end 34 false (escaped c ++ rest) ≡ Some (length (escaped c) + n)
literal_on c rest n h = elim (cases_Bool ((c == 34) || (c == 92))) [
  | inl e ↦ rw e (over_escape c rest ∙ (ap (λ o. option_map suc (option_map suc o)) h ∙ two_more n))
  | inr e ↦ elim (cases_Bool (nat_le 32 c && nat_le c 126)) [
    | inl f ↦ rw (e, f) (over_plain c rest (or_parts _ _ e).0 (or_parts _ _ e).1 ∙ (ap (option_map suc) h ∙ one_more n))
    | inr f ↦
        let two = third_digit (c / 8) in
        let one = third_digit c in
        rw (e, f) (over_escape (48 + c / 64) ((48 + (c / 8) % 8) ∷ (48 + c % 8) ∷ rest)
        ∙ (ap (λ o. option_map suc (option_map suc o))
        (over_plain (48 + (c / 8) % 8) ((48 + c % 8) ∷ rest) two.0 two.1 ∙ ap (option_map suc) (over_plain (48 + c % 8) rest one.0 one.1 ∙ ap (option_map suc) h)) ∙ four_more n))
  ]
]

literal_whole : (text : List ℕ) → literal_end 34 false (flat_map escaped text ++ 34 ∷ []) ≡ Some (length (flat_map escaped text ++ 34 ∷ []))
literal_whole [] = refl
literal_whole (c ∷ cs) =
    let all = flat_map escaped cs ++ 34 ∷ [] in
    let e : length (escaped c) + length all ≡ length (escaped c ++ all) = sym (length-append (escaped c) all) in
    ap (literal_end 34 false) (append_assoc (escaped c) (flat_map escaped cs) (34 ∷ []))
    ∙ (literal_on c all (length all) (literal_whole cs)
    ∙ (ap Some e ∙ ap (λ l. Some (length l)) (sym (append_assoc (escaped c) (flat_map escaped cs) (34 ∷ [])))))

escaped_low : (c : ℕ) → is_byte c ≡ true → list_all is_low (escaped c) ≡ true
escaped_low c h = elim (cases_Bool ((c == 34) || (c == 92))) [
  | inl e ↦ let k : nat_lt c 128 ≡ true = grind (arith, nat_tests) in rw (e, k) refl
  | inr e ↦ elim (cases_Bool (nat_le 32 c && nat_le c 126)) [
    | inl f ↦ let k : nat_lt c 128 ≡ true = grind (arith, nat_tests) in rw (e, f, k) refl
    | inr f ↦
        let b : c < 256 = grind (arith, nat_tests) in
        let a3 : nat_lt (48 + c / 64) 128 ≡ true = grind (arith, nat_tests) in
        let a2 : nat_lt (48 + (c / 8) % 8) 128 ≡ true = grind (arith, nat_tests) in
        let a1 : nat_lt (48 + c % 8) 128 ≡ true = grind (arith, nat_tests) in
        rw (e, f, a3, a2, a1) refl
  ]
]

all_low : (text : List ℕ) → list_all is_byte text ≡ true → list_all is_low (flat_map escaped text) ≡ true
all_low [] h = refl
all_low (c ∷ cs) h =
    let p : (is_byte c ≡ true) × (list_all is_byte cs ≡ true) = and_parts _ _ h in
    list_all-append is_low (escaped c) (flat_map escaped cs) ∙ and_from _ _ (escaped_low c p.0) (all_low cs p.1)

-- a text of bytes as a string literal
pub string_token : (spaced : Bool) (text : List ℕ) → list_all is_byte text ≡ true → IsToken (a_string spaced (quoted text))
string_token spaced text h =
    let inner = flat_map escaped text ++ 34 ∷ [] in
    let low : list_all is_low (34 ∷ inner) ≡ true = list_all-append is_low (flat_map escaped text) (34 ∷ []) ∙ and_from _ _ (all_low text h) refl in
    let n : 0 + 1 + length inner ≡ suc (length inner) = omega arith in
    record {
      told = is_kind (quoted text) kind.Str (ap (literal_of 34 0) (literal_whole text) ∙ ap (piece.Token kind.Str) n);
      utf8 = low_utf8 (34 ∷ inner) low;
    }

-- a sign
pub sign_token : (spaced : Bool) (s : List ℕ) → kind_of s ≡ Some kind.Punct → list_all is_low s ≡ true → IsToken (a_sign spaced s)
sign_token spaced s k low = record { told = k; utf8 = low_utf8 s low }

-- a sign that no byte behind it continues
pub reads_sign : (spaced : Bool) (c : ℕ) (rest : List ℕ) (more : List Tok) → front (c ∷ rest) ≡ piece.Token kind.Punct 1 → is_low c ≡ true → Reads false rest more
    → Reads spaced (c ∷ rest) (a_sign spaced (c ∷ []) ∷ more)
reads_sign spaced c rest more f low h =
    let e = lexed_token (c ∷ rest) spaced kind.Punct 1 (omega arith) f (omega arith) in
    let u : is_utf8 (c ∷ []) ≡ true = low_utf8 (c ∷ []) (and_from _ _ low refl) in
    rw (u, h) at e
