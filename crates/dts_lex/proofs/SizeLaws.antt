-- How many bytes a token has: at least one, and no more than there are.
use Rattle.std.proofs.Common.{◌≡◌, ◌<◌, ◌≤◌, ℕ, zero, suc, ◌+◌, ◌-◌, Bool, true, false, ◌&&◌, ◌||◌, not, List, [], ◌∷◌, ◌++◌, Option, Some, None, length, drop, take, nat_eq, nat_lt, nat_le, cond, refl, sym, ap, subst, ◌∙◌, arith, rules, length-append, length-drop, length-take, inl, inr, option_map, if◌then◌else◌, codes}
use Rattle.std.specs.List.{starts_with, prefix_len}
use Rattle.std.proofs.lemmas.Bool.{cases_Bool, and_parts, ltb-true}
use Rattle.std.proofs.lemmas.Grind.{common_steps}
use Rattle.std.proofs.lemmas.Bool.Decides.{nat_tests, Decides-eqb}
use Rattle.std.proofs.lemmas.Slice.Eq.{starts_is}
use Rattle.edt_base.specs.SourceBytes.{is_hex, is_octal, is_plain, begins_label}
use Rattle.dts_lex.specs.Between.{gap, enter}
use Rattle.dts_lex.specs.declared.between.Between.{Between}
use Rattle.dts_lex.specs.Names.{is_path}
use Rattle.dts_lex.specs.Tokens.{stands, word, pair, at_pair, text, quoted, escapes, char, char_size, at_quote, escape, reference, path_reference, is_no_brace, mark, sized, punctuator, at_double, is_double, is_outer_punctuator, is_operator, directive_in, directives, in_rounds, is_narrow, is_word_byte, at_word, at_colon, found}
use Rattle.dts_lex.specs.declared.opened.Opened.{Opened}
use Rattle.dts_lex.specs.declared.token.Found.{Found}
use Rattle.dts_lex.specs.declared.lexer.SpanKind.{SpanKind}
use Rattle.dts_lex.specs.declared.lexer.SpanKind.TheVariants as kind

abbrev pub HasSize : ℕ → Option Found → Type 0
HasSize most None = Unit {0}
HasSize most (Some f) = (0 < f.size) × (f.size ≤ most)

pub size_if : (most : ℕ) (b : Bool) (x y : Option Found) → (b ≡ true → HasSize most x) → (b ≡ false → HasSize most y) → HasSize most (if b then x else y)
size_if most true x y p q = p refl
size_if most false x y p q = q refl

pub prefix_within : (p : ℕ → Bool) (xs : List ℕ) → prefix_len p xs ≤ length xs
prefix_within p [] = omega arith
prefix_within p (x ∷ xs) = let h : prefix_len p xs ≤ length xs = prefix_within p xs in elim (cases_Bool (p x)) [ inl e ↦ rw e (omega arith) | inr e ↦ rw e (omega arith) ]

pub starts_within : (xs p : List ℕ) → starts_with nat_eq xs p ≡ true → length p ≤ length xs
starts_within xs p h = let e : xs ≡ p ++ drop (length p) xs = (starts_is Decides-eqb xs p (starts_with nat_eq xs p) refl).0 h in
    omega (arith, simp length-append at (ap length e))

pair_size : (bytes : List ℕ) → HasSize (length bytes) (pair bytes)
pair_size [] = tt
pair_size (a ∷ []) = tt
pair_size (a ∷ b ∷ rest) = size_if _ (is_hex a && is_hex b) _ _ (λ _. (omega arith, omega arith)) (λ _. tt)

word_size : (o : Opened) (n : ℕ) (bytes : List ℕ) → 0 < n → n ≤ length bytes → HasSize (length bytes) (word o n bytes)
word_size o n bytes p q =
    size_if _ (not (in_rounds o) && at_colon (drop n bytes)) _ _ (λ _. (p, q)) (λ _.
    size_if _ (not (in_rounds o) && nat_lt 0 o.squares) _ _ (λ _. pair_size bytes) (λ _.
    size_if _ (nat_lt 0 o.angles || nat_lt 0 o.numbers) _ _ (λ _. (p, q)) (λ _. (p, q))))

abbrev IsWithin : ℕ → Option ℕ → Type 0
IsWithin most None = Unit {0}
IsWithin most (Some n) = (0 < n) × (n ≤ most)

within_suc : (most : ℕ) (r : Option ℕ) → IsWithin most r → IsWithin (suc most) (option_map (λ n. suc n) r)
within_suc most None h = tt
within_suc most (Some n) h = (omega arith, omega arith)

quoted_step : (next : Option Bool) (rest : List ℕ) → ((k : Bool) → IsWithin (length rest) (quoted k rest)) → IsWithin (suc (length rest)) (elim next [ None ↦ Some 1 | Some k ↦ option_map (λ n. suc n) (quoted k rest) ])
quoted_step None rest h = (omega arith, omega arith)
quoted_step (Some k) rest h = within_suc _ _ (h k)

quoted_within : (k : Bool) (bytes : List ℕ) → IsWithin (length bytes) (quoted k bytes)
quoted_within k [] = tt
quoted_within k (b ∷ rest) = quoted_step (escapes k b) rest (λ next. quoted_within next rest)

text_size : (bytes : List ℕ) → HasSize (suc (length bytes)) (text bytes)
text_size bytes = text_of (quoted false bytes) (quoted_within false bytes)
  where
    text_of : (r : Option ℕ) → IsWithin (length bytes) r → HasSize (suc (length bytes)) (option_map (λ n. record { kind = kind.Str; size = suc n }) r)
    text_of None h = tt
    text_of (Some n) h = (omega arith, omega arith)

within_if : (b : Bool) (m n most : ℕ) → m ≤ most → n ≤ most → (if b then m else n) ≤ most
within_if true m n most p q = p
within_if false m n most p q = q

prefix_take : (p : ℕ → Bool) (k : ℕ) (xs : List ℕ) → prefix_len p (take k xs) ≤ length xs
prefix_take p k xs = let h : prefix_len p (take k xs) ≤ length (take k xs) = prefix_within p (take k xs) in omega (arith, length-take k xs)

escape_within : (bytes : List ℕ) → escape bytes ≤ length bytes
escape_within [] = omega arith
escape_within (b ∷ rest) =
    let octal : prefix_len is_octal (take (if nat_le b 51 then 2 else 1) rest) ≤ length rest = prefix_take is_octal (if nat_le b 51 then 2 else 1) rest in
    let hex : prefix_len is_hex (take 2 rest) ≤ length rest = prefix_take is_hex 2 rest in
    within_if (is_octal b) _ _ _ (omega arith) (within_if (nat_eq b 120) _ _ _ (omega arith) (omega arith))

char_within : (bytes : List ℕ) → char_size bytes ≤ length bytes
char_within [] = omega arith
char_within (b ∷ rest) =
    let h : escape rest ≤ length rest = escape_within rest in
    within_if (nat_eq b 92) _ _ _ (within_if (nat_eq (escape rest) 0) _ _ _ (omega arith) (omega arith))
    (within_if (nat_eq b 39 || nat_eq b 10) _ _ _ (omega arith) (omega arith))

quote_behind : (xs : List ℕ) → at_quote xs ≡ true → 0 < length xs
quote_behind [] h = cc
quote_behind (x ∷ xs) h = omega arith

char_size_is : (bytes : List ℕ) → HasSize (suc (length bytes)) (char bytes)
char_size_is bytes = size_if _ (nat_lt 0 (char_size bytes) && at_quote (drop (char_size bytes) bytes)) _ _
    (λ h. let q : 0 < length (drop (char_size bytes) bytes) = quote_behind (drop (char_size bytes) bytes) (and_parts (nat_lt 0 (char_size bytes)) (at_quote (drop (char_size bytes) bytes)) h).1 in (omega arith, omega (arith, length-drop (char_size bytes) bytes)))
    (λ _. tt)

path_size : (bytes : List ℕ) → HasSize (suc (suc (length bytes))) (path_reference bytes)
path_size bytes = size_if _ (is_path (take (prefix_len is_no_brace bytes) bytes) && nat_lt (prefix_len is_no_brace bytes) (length bytes)) _ _
    (λ h. let q : prefix_len is_no_brace bytes < length bytes = ltb-true (prefix_len is_no_brace bytes) (length bytes) (and_parts (is_path (take (prefix_len is_no_brace bytes) bytes)) _ h).1 in (omega arith, omega arith))
    (λ _. tt)

reference_size : (bytes : List ℕ) → HasSize (suc (length bytes)) (reference bytes)
reference_size [] = tt
reference_size (b ∷ rest) =
    let h : prefix_len is_plain rest ≤ length rest = prefix_within is_plain rest in
    size_if _ (nat_eq b 123) _ _ (λ _. path_size rest) (λ _.
    size_if _ (begins_label b) _ _ (λ _. (omega arith, omega arith)) (λ _. tt))

directive_step : (d bytes : List ℕ) (n : ℕ) (b : Bool) → starts_with nat_eq bytes d ≡ b → n ≤ length bytes → (if b then length d else n) ≤ length bytes
directive_step d bytes n true e h = starts_within bytes d e
directive_step d bytes n false e h = h

directive_within : (ds : List (List ℕ)) (bytes : List ℕ) → directive_in ds bytes ≤ length bytes
directive_within [] bytes = omega arith
directive_within (d ∷ ds) bytes = directive_step d bytes _ (starts_with nat_eq bytes d) refl (directive_within ds bytes)

double_within : (bytes : List ℕ) → at_double bytes ≡ true → 2 ≤ length bytes
double_within [] h = cc
double_within (a ∷ []) h = cc
double_within (a ∷ b ∷ rest) h = omega arith

punctuator_within : (rounds : Bool) (bytes : List ℕ) → punctuator rounds bytes ≤ length bytes
punctuator_within rounds [] = omega arith
punctuator_within rounds (b ∷ rest) =
    within_if (starts_with nat_eq (b ∷ rest) (codes "/*")) _ _ _ (omega arith) (punctuator_step (rounds && at_double (b ∷ rest)) refl)
  where
    one : (if is_outer_punctuator b || (rounds && is_operator b) then 1 else 0) ≤ suc (length rest)
    one = within_if (is_outer_punctuator b || (rounds && is_operator b)) _ _ _ (omega arith) (omega arith)

    punctuator_step : (t : Bool) → (rounds && at_double (b ∷ rest)) ≡ t → (if t then 2 else if is_outer_punctuator b || (rounds && is_operator b) then 1 else 0) ≤ suc (length rest)
    punctuator_step true e = double_within (b ∷ rest) (and_parts rounds _ e).1
    punctuator_step false e = one

sized_size : (k : SpanKind) (n most : ℕ) → n ≤ most → HasSize most (sized k n)
sized_size k zero most h = tt
sized_size k (suc n) most h = (omega arith, h)

mark_size : (o : Opened) (bytes : List ℕ) → HasSize (length bytes) (mark o bytes)
mark_size o bytes = size_if _ (not (in_rounds o) && nat_lt 0 (directive_in directives bytes)) _ _
    (λ h. (ltb-true _ _ (and_parts _ _ h).1, directive_within directives bytes))
    (λ _. sized_size kind.Punct _ _ (punctuator_within (in_rounds o) bytes))

prefix_some : (p : ℕ → Bool) (b : ℕ) (rest : List ℕ) → p b ≡ true → 0 < prefix_len p (b ∷ rest)
prefix_some p b rest h = rw h (omega arith)

-- a token has at least one byte, and no more than there are
pub stands_size : (o : Opened) (bytes : List ℕ) → HasSize (length bytes) (stands o bytes)
stands_size o [] = tt
stands_size o (b ∷ rest) =
    size_if _ (is_word_byte (is_narrow o) b) _ _ (λ h. word_size o _ (b ∷ rest) (prefix_some (is_word_byte (is_narrow o)) b rest h) (prefix_within (is_word_byte (is_narrow o)) (b ∷ rest))) (λ _.
    size_if _ (nat_eq b 34) _ _ (λ _. text_size rest) (λ _.
    size_if _ (nat_eq b 39) _ _ (λ _. char_size_is rest) (λ _.
    size_if _ (nat_eq b 38 && not (in_rounds o)) _ _ (λ _. reference_size rest) (λ _. mark_size o (b ∷ rest)))))

-- a gap has no more bytes than there are
gap_step : (next : Option Between) (rest : List ℕ) → ((k : Between) → gap k rest ≤ length rest) → elim next [ None ↦ 0 | Some k ↦ suc (gap k rest) ] ≤ suc (length rest)
gap_step None rest h = omega arith
gap_step (Some k) rest h = let p : gap k rest ≤ length rest = h k in omega arith

pub gap_within : (k : Between) (bytes : List ℕ) → gap k bytes ≤ length bytes
gap_within k [] = omega arith
gap_within k (b ∷ rest) = gap_step (enter k b (b ∷ rest)) rest (λ next. gap_within next rest)
