-- What stands at the start stays what it is, before any byte that doesn't go on with it.
use Rattle.std.proofs.Common.{◌≡◌, ◌<◌, ◌≤◌, ℕ, zero, suc, ◌+◌, Bool, true, false, ◌&&◌, ◌||◌, not, List, [], ◌∷◌, ◌++◌, Option, Some, None, length, drop, take, nat_eq, nat_lt, nat_le, refl, sym, ap, subst, ◌∙◌, arith, length-append, inl, inr, option_map, if◌then◌else◌, codes, append-nil}
use Rattle.std.specs.List.{starts_with, prefix_len}
use Rattle.std.proofs.Math.Seq.{drop-append_seam, drop-length}
use Rattle.std.proofs.lemmas.List.{drop-append-le, take-append-le}
use Rattle.std.proofs.lemmas.List.Folds.{prefix_len-append}
use Rattle.std.proofs.lemmas.Bool.{agree_below_at, and_from, and_left, and_parts, and_right, cases_eq, cases_lt, cond-false, cond-true, eq-eqb, eqb-false, le-leb, lt-leb, lt-ltb, ltb-true, ne_eqb, not-false, not-true, or_parts}
use Rattle.std.proofs.lemmas.Bool.Decides.{Decides-eqb}
use Rattle.std.proofs.lemmas.Slice.Eq.{starts_is}
use Rattle.edt_base.specs.SourceBytes.{begins_label, is_hex, is_letter, is_octal, is_plain}
use Rattle.dts_lex.specs.Names.{is_path}
use Rattle.dts_lex.specs.Spelled.{is_apart}
use Rattle.dts_lex.specs.Tokens.{at_colon, at_double, at_quote, char, char_size, directive_in, directives, escape, escapes, found, in_rounds, is_double, is_narrow, is_no_brace, is_operator, is_outer_punctuator, is_word_byte, mark, pair, path_reference, punctuator, quoted, reference, sized, stands, text, word}
use Rattle.dts_lex.specs.declared.lexer.SpanKind.{SpanKind}
use Rattle.dts_lex.specs.declared.lexer.SpanKind.TheVariants as kind
use Rattle.dts_lex.specs.declared.opened.Opened.{Opened}
use Rattle.dts_lex.specs.declared.token.Found.{Found}

-- ---- tests

pub keeps_if : (b : Bool) (x y v w f : Option Found) → (b ≡ true → x ≡ f → v ≡ f) → (b ≡ false → y ≡ f → w ≡ f)
    → (if b then x else y) ≡ f → (if b then v else w) ≡ f
keeps_if true x y v w f p q h = p refl h
keeps_if false x y v w f p q h = q refl h

pub from_if : (G : Type 0) (b : Bool) (x y f : Option Found) → (b ≡ true → x ≡ f → G) → (b ≡ false → y ≡ f → G)
    → (if b then x else y) ≡ f → G
from_if G true x y f p q h = p refl h
from_if G false x y f p q h = q refl h

pub same_found : (k j : SpanKind) (m n : ℕ) → found k m ≡ found j n → (k ≡ j) × (m ≡ n)
same_found k j m n h =
    let e : record { kind = k; size = m } ≡ record { kind = j; size = n } = cc in
    (ap (λ (f : Found). f.kind) e, ap (λ (f : Found). f.size) e)

pub none_found : (k : SpanKind) (n : ℕ) → None ≡ found k n → ⊥
none_found k n h = cc

-- ---- prefixes

prefix_on : (p : ℕ → Bool) (xs rest : List ℕ) → prefix_len p xs ≡ length xs → prefix_len p rest ≡ 0
    → prefix_len p (xs ++ rest) ≡ length xs
prefix_on p xs rest e r =
    prefix_len-append p xs rest ∙ (cond-true _ _ _ (eq-eqb _ _ e) ∙ (rw r (omega arith)))

prefix_stops : (p : ℕ → Bool) (xs rest : List ℕ) → prefix_len p xs < length xs
    → prefix_len p (xs ++ rest) ≡ prefix_len p xs
prefix_stops p xs rest h =
    prefix_len-append p xs rest ∙ cond-false _ _ _ (ne_eqb _ _ (λ (e : prefix_len p xs ≡ length xs). absurd (omega arith)))

-- ---- words

-- each hexadecimal digit is a byte of words
hex_plain : (b : ℕ) → is_hex b ≡ true → is_plain b ≡ true
hex_plain b h = elim (cases_lt b 128) [
  | inl l ↦
      let t : (is_hex b && not (is_plain b)) ≡ false = agree_below_at (λ c. is_hex c && not (is_plain c)) (λ _. false) 128 b refl l in
      not-false _ (rw h at t)
  | inr g ↦
      let k : false ≡ true = rw (le-leb 48 b (omega arith), lt-leb b 57 (omega arith), le-leb 97 b (omega arith), lt-leb b 102 (omega arith), le-leb 65 b (omega arith), lt-leb b 70 (omega arith)) at h in
      cc
]

hex_word : (n : Bool) (b : ℕ) → is_hex b ≡ true → is_word_byte n b ≡ true
hex_word true b h = hex_plain b h
hex_word false b h = rw (hex_plain b h) refl

pair_is : (n : Bool) (k : SpanKind) (xs rest : List ℕ) → pair xs ≡ found k (length xs)
    → (prefix_len (is_word_byte n) xs ≡ length xs) × ((kind.HexPair ≡ k) × (pair (xs ++ rest) ≡ found k (length xs)))
pair_is n k [] rest h = absurd (none_found _ _ h)
pair_is n k (a ∷ []) rest h = absurd (none_found _ _ h)
pair_is n k (a ∷ b ∷ []) rest h = pair_two (is_hex a && is_hex b) refl h
  where
    pair_two : (t : Bool) → (is_hex a && is_hex b) ≡ t → (if t then found kind.HexPair 2 else None) ≡ found k 2
        → (prefix_len (is_word_byte n) (a ∷ b ∷ []) ≡ 2) × ((kind.HexPair ≡ k) × (pair (a ∷ b ∷ rest) ≡ found k 2))
    pair_two true e h =
        let p = and_parts (is_hex a) (is_hex b) e in
        (rw (hex_word n a p.0, hex_word n b p.1) refl, ((same_found _ _ _ _ h).0, rw e h))
    pair_two false e h = absurd (none_found _ _ h)
pair_is n k (a ∷ b ∷ c ∷ xs) rest h = pair_more (is_hex a && is_hex b) h
  where
    pair_more : (t : Bool) → (if t then found kind.HexPair 2 else None) ≡ found k (suc (suc (suc (length xs))))
        → (prefix_len (is_word_byte n) (a ∷ b ∷ c ∷ xs) ≡ suc (suc (suc (length xs))))
        × ((kind.HexPair ≡ k) × (pair (a ∷ b ∷ c ∷ xs ++ rest) ≡ found k (suc (suc (suc (length xs))))))
    pair_more true h = let e : 2 ≡ suc (suc (suc (length xs))) = (same_found _ _ _ _ h).1 in absurd (omega arith)
    pair_more false h = absurd (none_found _ _ h)

-- a word that is a whole token has nothing but bytes of words
word_is : (o : Opened) (k : SpanKind) (xs : List ℕ) (n : ℕ) → word o n xs ≡ found k (length xs)
    → n ≡ prefix_len (is_word_byte (is_narrow o)) xs → n ≡ length xs
word_is o k xs n h e =
    from_if (n ≡ length xs) (not (in_rounds o) && at_colon (drop n xs)) _ _ _ (λ _ i. (same_found _ _ _ _ i).1) (λ _.
    from_if (n ≡ length xs) (not (in_rounds o) && nat_lt 0 o.squares) _ _ _
    (λ _ i. e ∙ (pair_is (is_narrow o) k xs [] i).0) (λ _.
    from_if (n ≡ length xs) (nat_lt 0 o.angles || nat_lt 0 o.numbers) _ _ _ (λ _ i. (same_found _ _ _ _ i).1)
    (λ _ i. (same_found _ _ _ _ i).1))) h

-- a word that no byte goes on with
pub record Ends (o : Opened) (rest : List ℕ) : Type 0 where
  pub word : prefix_len (is_word_byte (is_narrow o)) rest ≡ 0
  pub colon : at_colon rest ≡ false

name_ends : (o : Opened) (xs rest : List ℕ) → is_apart o kind.Name xs rest ≡ true
    → prefix_len (is_word_byte (is_narrow o)) rest ≡ 0
name_ends o xs [] h = refl
name_ends o xs (b ∷ rest) h = rw (not-true _ h) refl

ends_with : (o : Opened) (rest : List ℕ) (b : ℕ) → not (is_word_byte (is_narrow o) b || nat_eq b 58) ≡ true
    → Ends o (b ∷ rest)
ends_with o rest b h =
    let p = or_parts (is_word_byte (is_narrow o) b) (nat_eq b 58) (not-true _ h) in
    record { word = rw p.0 refl; colon = p.1 }

number_ends : (o : Opened) (xs rest : List ℕ) → is_apart o kind.Number xs rest ≡ true → Ends o rest
number_ends o xs [] h = record { word = refl; colon = refl }
number_ends o xs (b ∷ rest) h = ends_with o rest b h

pair_ends : (o : Opened) (xs rest : List ℕ) → is_apart o kind.HexPair xs rest ≡ true → Ends o rest
pair_ends o xs [] h = record { word = refl; colon = refl }
pair_ends o xs (b ∷ rest) h = ends_with o rest b h

-- the word of n bytes, by what follows it
abbrev after_word : Opened → ℕ → List ℕ → List ℕ → Option Found
after_word o n bytes rest =
    if not (in_rounds o) && at_colon rest then found kind.Name n
    else if not (in_rounds o) && nat_lt 0 o.squares then pair bytes
    else if nat_lt 0 o.angles || nat_lt 0 o.numbers then found kind.Number n
    else found kind.Name n

cond_same : (b : Bool) (x y f : Option Found) → x ≡ f → y ≡ f → (if b then x else y) ≡ f
cond_same true x y f p q = p
cond_same false x y f p q = q

abbrev Stays : Opened → SpanKind → List ℕ → List ℕ → Type 0
Stays o k xs rest = (prefix_len (is_word_byte (is_narrow o)) rest ≡ 0)
    × (after_word o (length xs) (xs ++ rest) rest ≡ found k (length xs))

abbrev IsApart : Opened → List ℕ → List ℕ → SpanKind → Type 0
IsApart o xs rest k = is_apart o k xs rest ≡ true

word_before : (o : Opened) (k : SpanKind) (xs rest : List ℕ) → after_word o (length xs) xs [] ≡ found k (length xs)
    → is_apart o k xs rest ≡ true → Stays o k xs rest
word_before o k xs rest h a =
    from_if (Stays o k xs rest) (not (in_rounds o) && false) _ _ _
    (λ t _. let f : false ≡ true = (and_parts (not (in_rounds o)) false t).1 in cc) (λ _.
    from_if (Stays o k xs rest) (not (in_rounds o) && nat_lt 0 o.squares) _ _ _ (λ t i.
    let p = pair_is (is_narrow o) k xs rest i in
    let e = pair_ends o xs rest (subst (IsApart o xs rest) (sym p.1.0) a) in
    (e.word, cond-false _ _ _ (and_right (not (in_rounds o)) (at_colon rest) e.colon) ∙ (cond-true _ _ _ t ∙ p.1.1)))
    (λ s. from_if (Stays o k xs rest) (nat_lt 0 o.angles || nat_lt 0 o.numbers) _ _ _ (λ t i.
    let e = number_ends o xs rest (subst (IsApart o xs rest) (sym (same_found kind.Number k _ _ i).0) a) in
    (e.word, cond-false _ _ _ (and_right (not (in_rounds o)) (at_colon rest) e.colon) ∙ (cond-false _ _ _ s ∙ (cond-true _ _ _ t ∙ i))))
    (λ t i. (
      name_ends o xs rest (subst (IsApart o xs rest) (sym (same_found kind.Name k _ _ i).0) a),
      cond_same (not (in_rounds o) && at_colon rest) _ _ _ i (cond-false _ _ _ s ∙ (cond-false _ _ _ t ∙ i)),
    )))) h

pub word_stays : (o : Opened) (k : SpanKind) (xs rest : List ℕ)
    → word o (prefix_len (is_word_byte (is_narrow o)) xs) xs ≡ found k (length xs) → is_apart o k xs rest ≡ true
    → word o (prefix_len (is_word_byte (is_narrow o)) (xs ++ rest)) (xs ++ rest) ≡ found k (length xs)
word_stays o k xs rest h a =
    let e : prefix_len (is_word_byte (is_narrow o)) xs ≡ length xs = word_is o k xs _ h refl in
    let i : after_word o (length xs) xs [] ≡ found k (length xs) =
    ap (after_word o (length xs) xs) (sym (drop-length xs)) ∙ (ap (λ m. after_word o m xs (drop m xs)) (sym e) ∙ h) in
    let s = word_before o k xs rest i a in
    ap (λ m. after_word o m (xs ++ rest) (drop m (xs ++ rest))) (prefix_on (is_word_byte (is_narrow o)) xs rest e s.0)
    ∙ (ap (after_word o (length xs) (xs ++ rest)) (drop-append_seam xs rest) ∙ s.1)

-- ---- texts

map_more : (x y : Option ℕ) (n : ℕ) → ((m : ℕ) → x ≡ Some m → y ≡ Some m) → option_map (λ n. suc n) x ≡ Some n
    → option_map (λ n. suc n) y ≡ Some n
map_more None y n f h = cc
map_more (Some m) y n f h = rw (f m refl) h

quoted_step : (next : Option Bool) (xs rest : List ℕ) (n : ℕ)
    → ((k : Bool) (m : ℕ) → quoted k xs ≡ Some m → quoted k (xs ++ rest) ≡ Some m)
    → elim next [ None ↦ Some 1 | Some k ↦ option_map (λ n. suc n) (quoted k xs) ] ≡ Some n
    → elim next [ None ↦ Some 1 | Some k ↦ option_map (λ n. suc n) (quoted k (xs ++ rest)) ] ≡ Some n
quoted_step None xs rest n f h = h
quoted_step (Some k) xs rest n f h = map_more (quoted k xs) (quoted k (xs ++ rest)) n (f k) h

quoted_more : (k : Bool) (xs rest : List ℕ) (n : ℕ) → quoted k xs ≡ Some n → quoted k (xs ++ rest) ≡ Some n
quoted_more k [] rest n h = cc
quoted_more k (b ∷ xs) rest n h = quoted_step (escapes k b) xs rest n (λ e. quoted_more e xs rest) h

text_of : (x y : Option ℕ) (f : Found) → ((m : ℕ) → x ≡ Some m → y ≡ Some m)
    → option_map (λ n. record { kind = kind.Str; size = suc n }) x ≡ Some f
    → option_map (λ n. record { kind = kind.Str; size = suc n }) y ≡ Some f
text_of None y f g h = cc
text_of (Some m) y f g h = rw (g m refl) h

pub text_stays : (xs rest : List ℕ) (f : Found) → text xs ≡ Some f → text (xs ++ rest) ≡ Some f
text_stays xs rest f h = text_of (quoted false xs) (quoted false (xs ++ rest)) f (quoted_more false xs rest) h

-- ---- characters

quote_more : (xs rest : List ℕ) → at_quote xs ≡ true → at_quote (xs ++ rest) ≡ true
quote_more [] rest h = cc
quote_more (x ∷ xs) rest h = h

take_stops : (p : ℕ → Bool) (n : ℕ) (xs rest : List ℕ) → at_quote (drop (prefix_len p (take n xs)) xs) ≡ true
    → prefix_len p (take n (xs ++ rest)) ≡ prefix_len p (take n xs)
take_stops p zero xs rest h = refl
take_stops p (suc n) [] rest h = cc
take_stops p (suc n) (x ∷ xs) rest h = take_step (p x) refl (take_stops p n xs rest)
  where
    take_step : (b : Bool) → p x ≡ b
        → (at_quote (drop (prefix_len p (take n xs)) xs) ≡ true → prefix_len p (take n (xs ++ rest)) ≡ prefix_len p (take n xs))
        → prefix_len p (x ∷ take n (xs ++ rest)) ≡ prefix_len p (x ∷ take n xs)
    take_step true e f =
        let k : 1 + prefix_len p (take n xs) ≡ suc (prefix_len p (take n xs)) = omega arith in
        let q = rw (e, k) at h in
        rw e (ap (λ m. 1 + m) (f q))
    take_step false e f = rw e refl

escape_stays : (xs rest : List ℕ) → at_quote (drop (escape xs) xs) ≡ true → escape (xs ++ rest) ≡ escape xs
escape_stays [] rest h = cc
escape_stays (b ∷ xs) rest h = octal_step (is_octal b) refl
  where
    hex_step : (t : Bool) → is_octal b ≡ false → nat_eq b 120 ≡ t → escape (b ∷ xs ++ rest) ≡ escape (b ∷ xs)
    hex_step true o e =
        let q = rw (o, e) at h in
        rw (o, e) (ap (λ n. suc n) (take_stops is_hex 2 xs rest q))
    hex_step false o e = rw (o, e) refl

    octal_step : (t : Bool) → is_octal b ≡ t → escape (b ∷ xs ++ rest) ≡ escape (b ∷ xs)
    octal_step true e =
        let q = rw e at h in
        rw e (ap (λ n. suc n) (take_stops is_octal (if nat_le b 51 then 2 else 1) xs rest q))
    octal_step false e = hex_step (nat_eq b 120) e refl

size_stays : (xs rest : List ℕ) → nat_lt 0 (char_size xs) ≡ true → at_quote (drop (char_size xs) xs) ≡ true
    → char_size (xs ++ rest) ≡ char_size xs
size_stays [] rest p h = cc
size_stays (b ∷ xs) rest p h = escaped (nat_eq b 92) refl
  where
    some : (t : Bool) → nat_eq b 92 ≡ true → nat_eq (escape xs) 0 ≡ t → char_size (b ∷ xs ++ rest) ≡ char_size (b ∷ xs)
    some true e z = let f : false ≡ true = rw (e, z) at p in cc
    some false e z =
        let q = rw (e, z) at h in
        let s : escape (xs ++ rest) ≡ escape xs = escape_stays xs rest q in
        rw (e, s) refl

    escaped : (t : Bool) → nat_eq b 92 ≡ t → char_size (b ∷ xs ++ rest) ≡ char_size (b ∷ xs)
    escaped true e = some (nat_eq (escape xs) 0) e refl
    escaped false e = rw e refl

quote_within : (n : ℕ) (xs : List ℕ) → at_quote (drop n xs) ≡ true → n ≤ length xs
quote_within zero xs h = omega arith
quote_within (suc n) [] h = cc
quote_within (suc n) (x ∷ xs) h = let p : n ≤ length xs = quote_within n xs h in omega arith

abbrev char_at : ℕ → List ℕ → Option Found
char_at n xs = if nat_lt 0 n && at_quote (drop n xs) then found kind.Char (2 + n) else None

pub char_stays : (xs rest : List ℕ) (f : Found) → char xs ≡ Some f → char (xs ++ rest) ≡ Some f
char_stays xs rest f h = from_if (char (xs ++ rest) ≡ Some f) (nat_lt 0 (char_size xs) && at_quote (drop (char_size xs) xs)) _ _ _ (λ t i.
    let p = and_parts (nat_lt 0 (char_size xs)) (at_quote (drop (char_size xs) xs)) t in
    let d : at_quote (drop (char_size xs) (xs ++ rest)) ≡ true =
    ap at_quote (drop-append-le (char_size xs) xs rest (quote_within (char_size xs) xs p.1)) ∙ quote_more (drop (char_size xs) xs) rest p.1 in
    ap (λ n. char_at n (xs ++ rest)) (size_stays xs rest p.0 p.1) ∙ (cond-true _ _ _ (and_from _ _ p.0 d) ∙ i)) (λ _ i. cc) h

-- ---- references

abbrev path_at : ℕ → List ℕ → Option Found
path_at n bytes = if is_path (take n bytes) && nat_lt n (length bytes) then found kind.PathRef (3 + n) else None

pub path_stays : (xs rest : List ℕ) (f : Found) → path_reference xs ≡ Some f → path_reference (xs ++ rest) ≡ Some f
path_stays xs rest f h = from_if (path_reference (xs ++ rest) ≡ Some f)
    (is_path (take (prefix_len is_no_brace xs) xs) && nat_lt (prefix_len is_no_brace xs) (length xs)) _ _ _ (λ t i.
    let p = and_parts (is_path (take (prefix_len is_no_brace xs) xs)) (nat_lt (prefix_len is_no_brace xs) (length xs)) t in
    let l : prefix_len is_no_brace xs < length xs = ltb-true _ _ p.1 in
    let w : is_path (take (prefix_len is_no_brace xs) (xs ++ rest)) ≡ true =
    ap is_path (take-append-le (prefix_len is_no_brace xs) xs rest (omega arith)) ∙ p.0 in
    ap (λ n. path_at n (xs ++ rest)) (prefix_stops is_no_brace xs rest l)
    ∙ (cond-true _ _ _ (and_from _ _ w (lt-ltb _ _ (omega (arith, length-append xs rest)))) ∙ i)) (λ _ i. cc) h

ref_ends : (o : Opened) (xs rest : List ℕ) → is_apart o kind.Ref xs rest ≡ true → prefix_len is_plain rest ≡ 0
ref_ends o xs [] h = refl
ref_ends o xs (b ∷ rest) h = rw (not-true _ h) refl

pub reference_stays : (o : Opened) (k : SpanKind) (a : ℕ) (xs rest : List ℕ) → reference xs ≡ found k (suc (length xs))
    → is_apart o k (a ∷ xs) rest ≡ true → reference (xs ++ rest) ≡ found k (suc (length xs))
reference_stays o k a [] rest h p = absurd (none_found _ _ h)
reference_stays o k a (b ∷ xs) rest h p =
    keeps_if (nat_eq b 123) _ _ _ _ _ (λ _ i. path_stays xs rest _ i) (λ _.
    keeps_if (begins_label b) _ _ _ _ _ (λ _ i.
    let s = same_found kind.Ref k _ _ i in
    let n : 2 + prefix_len is_plain xs ≡ suc (suc (length xs)) = s.1 in
    let e : prefix_len is_plain xs ≡ length xs = omega arith in
    let r = ref_ends o (a ∷ b ∷ xs) rest (subst (IsApart o (a ∷ b ∷ xs) rest) (sym s.0) p) in
    ap (λ m. found kind.Ref (2 + m)) (prefix_on is_plain xs rest e r ∙ sym e) ∙ i)
    (λ _ i. i)) h

-- ---- directives

abbrev Each : List (List ℕ) → List ℕ → Type 0
Each [] rest = Unit {0}
Each (d ∷ ds) rest = (directive_in directives (d ++ rest) ≡ length d) × Each ds rest

each_stays : (rest : List ℕ) → Each directives rest
each_stays rest = (refl, (refl, (refl, (refl, (refl, (refl, (refl, (refl, (refl, tt)))))))))

directive_of : (ds : List (List ℕ)) (xs rest : List ℕ) → Each ds rest → 0 < directive_in ds xs
    → directive_in ds xs ≡ length xs → directive_in directives (xs ++ rest) ≡ length xs
directive_of [] xs rest e p h = absurd (omega arith)
directive_of (d ∷ ds) xs rest e p h = directive_step (starts_with nat_eq xs d) refl (directive_of ds xs rest e.1)
  where
    directive_step : (t : Bool) → starts_with nat_eq xs d ≡ t
        → (0 < directive_in ds xs → directive_in ds xs ≡ length xs → directive_in directives (xs ++ rest) ≡ length xs)
        → directive_in directives (xs ++ rest) ≡ length xs
    directive_step true t f =
        let n : length d ≡ length xs = rw t at h in
        let s : xs ≡ d ++ drop (length d) xs = (starts_is Decides-eqb xs d (starts_with nat_eq xs d) refl).0 t in
        let z : drop (length d) xs ≡ [] = ap (λ m. drop m xs) n ∙ drop-length xs in
        let q : xs ≡ d = s ∙ (ap (λ ys. d ++ ys) z ∙ append-nil d) in
        subst (λ (ys : List ℕ). directive_in directives (ys ++ rest) ≡ length ys) (sym q) e.0
    directive_step false t f =
        let i = rw t at h in
        let r = rw t at p in
        f r i

-- no directive begins with another byte than a slash, or with a slash and no letter
pub elsewhere : (c : ℕ) (rest : List ℕ) → nat_eq 47 c ≡ false → directive_in directives (c ∷ rest) ≡ 0
elsewhere c rest h = rw h refl

not_letter : (b c : ℕ) → is_letter c ≡ true → is_letter b ≡ false → nat_eq c b ≡ false
not_letter b c p h = ne_eqb c b (λ e. let f : is_letter b ≡ true = subst (λ (x : ℕ). is_letter x ≡ true) e p in cc)

no_directive : (b : ℕ) (rest : List ℕ) → is_letter b ≡ false → directive_in directives (47 ∷ b ∷ rest) ≡ 0
no_directive b rest h =
    rw (not_letter b 100 refl h, not_letter b 112 refl h, not_letter b 109 refl h, not_letter b 111 refl h, not_letter b 98 refl h, not_letter b 105 refl h) refl

-- ---- punctuators

sized_is : (k j : SpanKind) (n m : ℕ) → sized k n ≡ found j m → (k ≡ j) × (n ≡ m)
sized_is k j zero m h = absurd (none_found _ _ h)
sized_is k j (suc n) m h = same_found k j (suc n) m h

swap_false : (b c : ℕ) → nat_eq b c ≡ false → nat_eq c b ≡ false
swap_false b c h = ne_eqb c b (λ e. eqb-false b c h (sym e))

abbrev size_of : Bool → Bool → Bool → ℕ
size_of comment double single = if comment then 0 else if double then 2 else if single then 1 else 0

single_of : (s r o : Bool) → size_of (s && false) (r && false) o ≡ 1 → o ≡ true
single_of s r true h = refl
single_of true true false h = absurd (omega arith)
single_of true false false h = absurd (omega arith)
single_of false true false h = absurd (omega arith)
single_of false false false h = absurd (omega arith)

double_of : (s r d o : Bool) → size_of s (r && d) o ≡ 2 → r ≡ true
double_of s true d o h = refl
double_of true false d o h = absurd (omega arith)
double_of false false d true h = absurd (omega arith)
double_of false false d false h = absurd (omega arith)

at_most_two : (s d o : Bool) → size_of s d o ≤ 2
at_most_two true d o = omega arith
at_most_two false true o = omega arith
at_most_two false false true = omega arith
at_most_two false false false = omega arith

abbrev pub slashed : ℕ → Bool
slashed b = nat_eq b 47 || (nat_eq b 42 || is_letter b)

-- a slash, before a byte that makes nothing else of it
pub record IsPlainSlash (b : ℕ) : Type 0 where
  pub slash : nat_eq 47 b ≡ false
  pub star : nat_eq 42 b ≡ false
  pub letter : is_letter b ≡ false

pub plain_slash : (c b : ℕ) → (nat_eq c 47 && slashed b) ≡ false → c ≡ 47 → IsPlainSlash b
plain_slash c b h e =
    let k : (nat_eq 47 47 && slashed b) ≡ false = subst (λ (x : ℕ). (nat_eq x 47 && slashed b) ≡ false) e h in
    let p = or_parts (nat_eq b 47) (nat_eq b 42 || is_letter b) k in
    let q = or_parts (nat_eq b 42) (is_letter b) p.1 in
    record { slash = swap_false b 47 p.0; star = swap_false b 42 q.0; letter = q.1 }

-- a punctuator before what follows it is no comment and no directive
abbrev IsSame : Bool → List ℕ → List ℕ → Type 0
IsSame r xs rest = (punctuator r (xs ++ rest) ≡ length xs)
    × ((not r && nat_lt 0 (directive_in directives (xs ++ rest))) ≡ false)

slash_or_not : (c b : ℕ) (rest : List ℕ) → (nat_eq c 47 && slashed b) ≡ false
    → ((nat_eq 47 c && (nat_eq 42 b && true)) ≡ false) × (directive_in directives (c ∷ b ∷ rest) ≡ 0)
slash_or_not c b rest h = elim (cases_eq c 47) [
  | inl e ↦
      let p = plain_slash c b h e in
      (and_right (nat_eq 47 c) _ (and_left _ true p.star), subst (λ (x : ℕ). directive_in directives (x ∷ b ∷ rest) ≡ 0) (sym e) (no_directive b rest p.letter))
  | inr n ↦
      let k : nat_eq 47 c ≡ false = ne_eqb 47 c (λ e. n (sym e)) in
      (and_left _ _ k, elsewhere c (b ∷ rest) k)
]

punct_stays : (o : Opened) (r : Bool) (xs rest : List ℕ) → r ≡ in_rounds o → punctuator r xs ≡ length xs
    → (not r && nat_lt 0 (directive_in directives xs)) ≡ false → is_apart o kind.Punct xs rest ≡ true
    → 0 < length xs → IsSame r xs rest
punct_stays o r [] rest e p g a s = absurd (omega arith)
punct_stays o r (c ∷ []) [] e p g a s = (p, g)
punct_stays o r (c ∷ []) (b ∷ rest) e p g a s =
    let q = or_parts (nat_eq c 47 && slashed b) (in_rounds o && is_double c b) (not-true _ a) in
    let w = slash_or_not c b rest q.0 in
    let u : (is_outer_punctuator c || (r && is_operator c)) ≡ true = single_of (nat_eq 47 c) r _ p in
    let d : (r && is_double c b) ≡ false = ap (λ x. x && is_double c b) e ∙ q.1 in
    (cond-false _ _ _ w.0 ∙ (cond-false _ _ _ d ∙ cond-true _ _ _ u), and_right (not r) _ (ap (λ n. nat_lt 0 n) w.1))
punct_stays o r (c ∷ d ∷ []) rest e p g a s =
    let t : r ≡ true = double_of (starts_with nat_eq (c ∷ d ∷ []) (codes "/*")) r (is_double c d) (is_outer_punctuator c || (r && is_operator c)) p in
    (p, and_left (not r) _ (ap not t))
punct_stays o r (c ∷ d ∷ x ∷ xs) rest e p g a s =
    let m = at_most_two (starts_with nat_eq (c ∷ d ∷ x ∷ xs) (codes "/*")) (r && at_double (c ∷ d ∷ x ∷ xs)) (is_outer_punctuator c || (r && is_operator c)) in
    absurd (omega (arith, p, m))

abbrev pub mark_of : Bool → ℕ → ℕ → Option Found
mark_of r d p = if not r && nat_lt 0 d then found kind.Directive d else sized kind.Punct p

pub mark_stays : (o : Opened) (k : SpanKind) (xs rest : List ℕ) → mark o xs ≡ found k (length xs)
    → is_apart o k xs rest ≡ true → 0 < length xs → mark o (xs ++ rest) ≡ found k (length xs)
mark_stays o k xs rest h a s =
    from_if (mark o (xs ++ rest) ≡ found k (length xs)) (not (in_rounds o) && nat_lt 0 (directive_in directives xs)) _ _ _ (λ t i.
    let p = and_parts (not (in_rounds o)) (nat_lt 0 (directive_in directives xs)) t in
    let z : 0 < directive_in directives xs = ltb-true _ _ p.1 in
    let n = same_found kind.Directive k _ _ i in
    let e : directive_in directives (xs ++ rest) ≡ length xs = directive_of directives xs rest (each_stays rest) z n.1 in
    ap (λ m. mark_of (in_rounds o) m (punctuator (in_rounds o) (xs ++ rest))) (e ∙ sym n.1) ∙ (cond-true _ _ _ t ∙ i)) (λ t i.
    let n = sized_is kind.Punct k _ _ i in
    let b : is_apart o kind.Punct xs rest ≡ true = subst (IsApart o xs rest) (sym n.0) a in
    let q = punct_stays o (in_rounds o) xs rest refl n.1 t b s in
    cond-false _ _ _ q.1 ∙ (ap (sized kind.Punct) (q.0 ∙ sym n.1) ∙ i)) h

-- ---- all of them

pub stays : (o : Opened) (k : SpanKind) (xs rest : List ℕ) → stands o xs ≡ found k (length xs)
    → is_apart o k xs rest ≡ true → stands o (xs ++ rest) ≡ found k (length xs)
stays o k [] rest h a = absurd (none_found _ _ h)
stays o k (c ∷ xs) rest h a =
    keeps_if (is_word_byte (is_narrow o) c) _ _ _ _ _ (λ _ i. word_stays o k (c ∷ xs) rest i a) (λ _.
    keeps_if (nat_eq c 34) _ _ _ _ _ (λ _ i. text_stays xs rest _ i) (λ _.
    keeps_if (nat_eq c 39) _ _ _ _ _ (λ _ i. char_stays xs rest _ i) (λ _.
    keeps_if (nat_eq c 38 && not (in_rounds o)) _ _ _ _ _ (λ _ i. reference_stays o k c xs rest i a)
    (λ _ i. mark_stays o k (c ∷ xs) rest i a (omega arith))))) h
