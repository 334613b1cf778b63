-- Spellings before bytes that don't continue them.
use Rattle.std.proofs.Common.{◌≡◌, ℕ, zero, suc, ◌+◌, ◌<◌, ◌≤◌, Bool, true, false, ◌&&◌, ◌||◌, not, cond, List, [], ◌∷◌, ◌++◌, Option, Some, None, option_map, map, length, take, drop, nat_eq, refl, sym, ap, subst, ◌∙◌, arith, if◌then◌else◌, inl, inr, add-one, append-nil}
use Rattle.std.proofs.lemmas.Bool.{cases_Bool, cases_lt, and_left, and_right, or_parts, or_from, eqb-true}
use Rattle.std.proofs.lemmas.Bool.Decides.{nat_tests}
use Rattle.std.proofs.Math.Seq.{take-append_seam, drop-append_seam, drop-length}
use Rattle.std.specs.List.{list_all, prefix_len, flat_map}
use Rattle.std.specs.Str.{is_utf8}
use Rattle.c_tokens.specs.declared.tok.Tok.{Tok}
use Rattle.c_tokens.specs.declared.tok.TokKind.{TokKind}
use Rattle.c_tokens.specs.declared.tok.TokKind.TheVariants as kind
use Rattle.c_tokens.specs.declared.grammar.Piece.{Piece}
use Rattle.c_tokens.specs.declared.grammar.Piece.TheVariants as piece
use Rattle.c_tokens.specs.Bytes.{byte_at, is_blank, is_digit, is_letter, is_word_byte, is_exponent, is_sign, is_quote, is_prefix, is_punctuator, takes_equals, is_doubled, is_other}
use Rattle.c_tokens.specs.Grammar.{comment_end, literal_end, number_rest, quote_place, begins_number, is_three, is_two, punctuator_length, sign_of_length, literal_of, plain_front, token_front, front, kind_of}
use Rattle.c_tokens.specs.Lexed.{Lexed, lexed, lexed_behind, with_tok, lexed_end}
use Rattle.c_tokens.specs.Shown.{shown, with_space}
use Rattle.c_tokens.specs.Laws.{IsToken, continues, respaced, SpellingsAreRead, AreTokens, read_toks, ShownTokensAreRead}
use Rattle.c_tokens.proofs.LexedLaws.{lexed_token, lexed_gap, lexed_none}
use Rattle.c_tokens.proofs.WordLaws.{front_is, Told, told, told_front}

-- a byte that continues nothing
pub record Ends (x : ℕ) : Type 0 where
  pub word : is_word_byte x ≡ false
  pub quote : is_quote x ≡ false
  pub doubled : is_doubled x ≡ false
  pub dot : nat_eq x 46 ≡ false
  pub equals : nat_eq x 61 ≡ false
  pub star : nat_eq x 42 ≡ false
  pub slash : nat_eq x 47 ≡ false

ends : (x : ℕ) → continues x ≡ false → Ends x
ends x h =
    let a = or_parts _ _ h in
    let b = or_parts _ _ a.1 in
    let c = or_parts _ _ b.1 in
    let d = or_parts _ _ c.1 in
    let e = or_parts _ _ d.1 in
    let f = or_parts _ _ e.1 in
    record { word = a.0; quote = b.0; doubled = c.0; dot = d.0; equals = e.0; star = f.0; slash = f.1 }

end_zero : Ends 0
end_zero = ends 0 refl

digit_of : (x : ℕ) → Ends x → is_digit x ≡ false
digit_of x e = (or_parts _ _ e.word).1

sign_of : (x : ℕ) → is_doubled x ≡ false → is_sign x ≡ false
sign_of x h = grind (arith, nat_tests)

greater_of : (x : ℕ) → is_doubled x ≡ false → nat_eq x 62 ≡ false
greater_of x h = grind (arith, nat_tests)

eight_of : (x : ℕ) → is_word_byte x ≡ false → nat_eq x 56 ≡ false
eight_of x h = grind (arith, nat_tests)

-- ---- two and three bytes

same_doubled : (a x : ℕ) → is_doubled x ≡ false → (is_doubled a && nat_eq x a) ≡ false
same_doubled a x h = elim (cases_Bool (nat_eq x a)) [
  | inl e ↦ let q : x ≡ a = eqb-true x a e in and_left (is_doubled a) (nat_eq x a) (sym (ap is_doubled q) ∙ h)
  | inr e ↦ and_right (is_doubled a) (nat_eq x a) e
]

two_none : (a x : ℕ) → Ends x → is_two a x ≡ false
two_none a x e = or_from _ _ (or_from _ _ (and_right _ _ (greater_of x e.doubled)) (same_doubled a x e.doubled)) (and_right _ _ e.equals)

shift_none : (a x : ℕ) → is_doubled x ≡ false → ((nat_eq a 60 || nat_eq a 62) && nat_eq x a) ≡ false
shift_none a x h = elim (cases_Bool (nat_eq x a)) [
  | inl e ↦
      let q : x ≡ a = eqb-true x a e in
      let d : is_doubled a ≡ false = sym (ap is_doubled q) ∙ h in
      let s : (nat_eq a 60 || nat_eq a 62) ≡ false = grind (arith, nat_tests) in
      and_left _ _ s
  | inr e ↦ and_right _ _ e
]

three_none : (a x y : ℕ) → Ends x → is_three a x y ≡ false
three_none a x y e = or_from _ _ (and_left _ _ (and_right _ _ e.dot)) (and_left _ _ (shift_none a x e.doubled))

third_none : (a b x : ℕ) → Ends x → is_three a b x ≡ false
third_none a b x e = or_from _ _ (and_right _ _ e.dot) (and_right _ _ e.equals)

second_length : (a x y : ℕ) → Ends x → punctuator_length a x y ≡ (if is_punctuator a then 1 else 0)
second_length a x y e = rw (three_none a x y e, two_none a x e) refl

third_length : (a b x : ℕ) → Ends x → punctuator_length a b x ≡ (if is_two a b then 2 else if is_punctuator a then 1 else 0)
third_length a b x e = rw (third_none a b x e) refl

second_place : (a x y : ℕ) → Ends x → quote_place a x y ≡ (if is_quote a then Some 0 else None)
second_place a x y e =
    let f : (is_prefix a && is_quote x) ≡ false = and_right _ _ e.quote in
    let g : (nat_eq a 117 && nat_eq x 56 && nat_eq y 34) ≡ false = and_left _ _ (and_right _ _ (eight_of x e.word)) in
    rw (f, g) refl

third_place : (a b x : ℕ) → Ends x → quote_place a b x ≡ (if is_quote a then Some 0 else if is_prefix a && is_quote b then Some 1 else None)
third_place a b x e =
    let q : nat_eq x 34 ≡ false = (or_parts (nat_eq x 34) (nat_eq x 39) e.quote).0 in
    let g : (nat_eq a 117 && nat_eq b 56 && nat_eq x 34) ≡ false = and_right (nat_eq a 117 && nat_eq b 56) (nat_eq x 34) q in
    rw g refl

begins_ends : (a x : ℕ) → Ends x → begins_number a x ≡ is_digit a
begins_ends a x e = or_none (is_digit a) _ (and_right (nat_eq a 46) (is_digit x) (digit_of x e))
  where
    or_none : (b c : Bool) → c ≡ false → (b || c) ≡ b
    or_none true c h = refl
    or_none false c h = h

-- ---- words, numbers and literals

prefix_ends : (xs : List ℕ) (x : ℕ) (rest : List ℕ) → is_word_byte x ≡ false → prefix_len is_word_byte (xs ++ x ∷ rest) ≡ prefix_len is_word_byte xs
prefix_ends [] x rest h = ap (λ b. cond b (1 + prefix_len is_word_byte rest) 0) h
prefix_ends (y ∷ ys) x rest h = ap (λ n. cond (is_word_byte y) (1 + n) 0) (prefix_ends ys x rest h)

number_ends : (exponent : Bool) (xs : List ℕ) (x : ℕ) (rest : List ℕ) → Ends x → number_rest exponent (xs ++ x ∷ rest) ≡ number_rest exponent xs
number_ends exponent [] x rest e =
    let k : (is_word_byte x || nat_eq x 46 || (exponent && is_sign x)) ≡ false = or_from _ _ (or_from _ _ e.word e.dot) (and_right exponent _ (sign_of x e.doubled)) in
    ap (λ b. if b then suc (number_rest (is_exponent x) rest) else 0) k
number_ends exponent (y ∷ ys) x rest e = ap (λ n. if is_word_byte y || nat_eq y 46 || (exponent && is_sign y) then suc n else 0) (number_ends (is_exponent y) ys x rest e)

abbrev plain_of : (a n : ℕ) → Bool → (r p : ℕ) → Piece
plain_of a n number r p = if is_letter a then piece.Token kind.Ident n else if number then piece.Token kind.Number (1 + r) else sign_of_length p a

plain_by : (a n m : ℕ) (f g : Bool) (r s p q : ℕ) → n ≡ m → f ≡ g → r ≡ s → p ≡ q → plain_of a n f r p ≡ plain_of a m g s q
plain_by a n m f g r s p q e1 e2 e3 e4 = λ i. plain_of a (e1 i) (e2 i) (e3 i) (e4 i)

plain_ends : (t : List ℕ) (x : ℕ) (rest : List ℕ) → Ends x → 0 < length t → plain_front (t ++ x ∷ rest) ≡ plain_front t
plain_ends [] x rest e some = absurd (omega arith)
plain_ends (a ∷ []) x rest e some = plain_by a _ _ _ _ _ _ _ _
    (prefix_ends (a ∷ []) x rest e.word)
    (begins_ends a x e ∙ sym (begins_ends a 0 end_zero))
    (number_ends false [] x rest e)
    (second_length a x (byte_at rest 0) e ∙ sym (second_length a 0 0 end_zero))
plain_ends (a ∷ b ∷ []) x rest e some = plain_by a _ _ (begins_number a b) (begins_number a b) _ _ _ _
    (prefix_ends (a ∷ b ∷ []) x rest e.word)
    refl
    (number_ends false (b ∷ []) x rest e)
    (third_length a b x e ∙ sym (third_length a b 0 end_zero))
plain_ends (a ∷ b ∷ c ∷ ts) x rest e some = plain_by a _ _ (begins_number a b) (begins_number a b) _ _ (punctuator_length a b c) (punctuator_length a b c)
    (prefix_ends (a ∷ b ∷ c ∷ ts) x rest e.word)
    refl
    (number_ends false (b ∷ c ∷ ts) x rest e)
    refl

mapped : (o p : Option ℕ) (n : ℕ) → ((m : ℕ) → o ≡ Some m → p ≡ Some m) → option_map suc o ≡ Some n → option_map suc p ≡ Some n
mapped None p n f h = cc
mapped (Some m) p n f h = ap (option_map suc) (f m refl) ∙ h

literal_on : (quote : ℕ) (escaped : Bool) (xs ys : List ℕ) (n : ℕ) → literal_end quote escaped xs ≡ Some n → literal_end quote escaped (xs ++ ys) ≡ Some n
literal_on quote escaped [] ys n h = cc
literal_on quote escaped (b ∷ bs) ys n h = elim (cases_Bool (not escaped && nat_eq b quote)) [
  | inl e ↦ let k : Some 1 ≡ Some n = rw e at h in rw e k
  | inr e ↦
      let k : option_map suc (literal_end quote (not escaped && nat_eq b 92) bs) ≡ Some n = rw e at h in
      rw e (mapped (literal_end quote (not escaped && nat_eq b 92) bs) (literal_end quote (not escaped && nat_eq b 92) (bs ++ ys)) n (λ m. literal_on quote (not escaped && nat_eq b 92) bs ys m) k)
]

literal_by : (quote place : ℕ) (o p : Option ℕ) (k : TokKind) (n : ℕ) → ((m : ℕ) → o ≡ Some m → p ≡ Some m) → literal_of quote place o ≡ piece.Token k n → literal_of quote place p ≡ piece.Token k n
literal_by quote place None p k n f h = cc
literal_by quote place (Some m) p k n f h = ap (literal_of quote place) (f m refl) ∙ h

byte_in : (xs ys : List ℕ) (i : ℕ) → i < length xs → byte_at (xs ++ ys) i ≡ byte_at xs i
byte_in [] ys i h = absurd (omega arith)
byte_in (x ∷ xs) ys zero h = refl
byte_in (x ∷ xs) ys (suc i) h = byte_in xs ys i (omega arith)

drop_in : (xs ys : List ℕ) (i : ℕ) → i < length xs → drop (suc i) (xs ++ ys) ≡ drop (suc i) xs ++ ys
drop_in [] ys i h = absurd (omega arith)
drop_in (x ∷ xs) ys zero h = refl
drop_in (x ∷ xs) ys (suc i) h = drop_in xs ys i (omega arith)

drop_past : (xs : List ℕ) (i : ℕ) → length xs ≤ i → drop (suc i) xs ≡ []
drop_past [] i h = refl
drop_past (x ∷ xs) zero h = absurd (omega arith)
drop_past (x ∷ xs) (suc i) h = drop_past xs i (omega arith)

drop_on : (xs ys : List ℕ) (i : ℕ) → i < length xs → drop (i + 1) (xs ++ ys) ≡ drop (i + 1) xs ++ ys
drop_on xs ys i h = rw add-one (drop_in xs ys i h)

drop_out : (xs : List ℕ) (i : ℕ) → length xs ≤ i → drop (i + 1) xs ≡ []
drop_out xs i h = rw add-one (drop_past xs i h)

literal_at : (t ys : List ℕ) (i : ℕ) (k : TokKind) (n : ℕ) → literal_of (byte_at t i) i (literal_end (byte_at t i) false (drop (i + 1) t)) ≡ piece.Token k n
    → literal_of (byte_at (t ++ ys) i) i (literal_end (byte_at (t ++ ys) i) false (drop (i + 1) (t ++ ys))) ≡ piece.Token k n
literal_at t ys i k n h = elim (cases_lt i (length t)) [
  | inl l ↦ rw (byte_in t ys i l, drop_on t ys i l) (literal_by (byte_at t i) i _ _ k n (literal_on (byte_at t i) false (drop (i + 1) t) ys) h)
  | inr l ↦ let g : piece.Nothing ≡ piece.Token k n = rw (drop_out t i l) at h in cc
]

token_on : (o : Option ℕ) (t ys : List ℕ) (k : TokKind) (n : ℕ) → plain_front (t ++ ys) ≡ plain_front t → token_front o t ≡ piece.Token k n → token_front o (t ++ ys) ≡ piece.Token k n
token_on None t ys k n e h = e ∙ h
token_on (Some i) t ys k n e h = literal_at t ys i k n h

-- ---- what stands at the front

place_ends : (t : List ℕ) (x : ℕ) (rest : List ℕ) → Ends x → 0 < length t
    → quote_place (byte_at (t ++ x ∷ rest) 0) (byte_at (t ++ x ∷ rest) 1) (byte_at (t ++ x ∷ rest) 2) ≡ quote_place (byte_at t 0) (byte_at t 1) (byte_at t 2)
place_ends [] x rest e some = absurd (omega arith)
place_ends (a ∷ []) x rest e some = second_place a x (byte_at rest 0) e ∙ sym (second_place a 0 0 end_zero)
place_ends (a ∷ b ∷ []) x rest e some = third_place a b x e ∙ sym (third_place a b 0 end_zero)
place_ends (a ∷ b ∷ c ∷ ts) x rest e some = refl

told_ends : (t : List ℕ) (x : ℕ) (rest : List ℕ) (k : TokKind) (n : ℕ) → Ends x → Told t k n → 0 < length t → Told (t ++ x ∷ rest) k n
told_ends [] x rest k n e h some = absurd (omega arith)
told_ends (a ∷ ts) x rest k n e h some = record {
  blank = h.blank;
  comment = second ts 42 e.star h.comment;
  line = second ts 47 e.slash h.line;
  token = ap (λ o. token_front o (a ∷ ts ++ x ∷ rest)) (place_ends (a ∷ ts) x rest e some)
      ∙ token_on (quote_place a (byte_at ts 0) (byte_at ts 1)) (a ∷ ts) (x ∷ rest) k n (plain_ends (a ∷ ts) x rest e some) h.token;
}
  where
    second : (us : List ℕ) (m : ℕ) → nat_eq x m ≡ false → (nat_eq a 47 && nat_eq (byte_at us 0) m) ≡ false → (nat_eq a 47 && nat_eq (byte_at (us ++ x ∷ rest) 0) m) ≡ false
    second [] m f g = and_right _ _ f
    second (u ∷ us) m f g = g

no_bytes : (k : TokKind) → kind_of [] ≡ Some k → ⊥
no_bytes k h = cc

some_bytes : (t : List ℕ) (k : TokKind) → kind_of t ≡ Some k → 0 < length t
some_bytes [] k h = absurd (no_bytes k h)
some_bytes (b ∷ bs) k h = omega arith

pub front_ends : (t : List ℕ) (x : ℕ) (rest : List ℕ) (k : TokKind) → continues x ≡ false → kind_of t ≡ Some k → front (t ++ x ∷ rest) ≡ piece.Token k (length t)
front_ends t x rest k c h =
    told_front (t ++ x ∷ rest) k (length t) (told_ends t x rest k (length t) (ends x c) (told t k (length t) (front_is t k h)) (some_bytes t k h))

long : (t : List ℕ) (x : ℕ) (rest : List ℕ) → 0 < length (t ++ x ∷ rest)
long [] x rest = omega arith
long (y ∷ t) x rest = omega arith

pub spellings_are_read : SpellingsAreRead
spellings_are_read spaced t b rest is c =
    let e = lexed_token (t.spell ++ b ∷ rest) spaced t.kind (length t.spell) (long t.spell b rest) (front_ends t.spell b rest t.kind c is.told) (some_bytes t.spell t.kind is.told) in
    rw (take-append_seam, drop-append_seam, is.utf8) at e

read_last : (spaced : Bool) (t : Tok) → IsToken t → lexed_behind spaced 0 t.spell ≡ Some (record { toks = respaced spaced t ∷ []; unclosed = false })
read_last spaced t is =
    let n : 0 < length t.spell = some_bytes t.spell t.kind is.told in
    let e = lexed_token t.spell spaced t.kind (length t.spell) n (front_is t.spell t.kind is.told) n in
    let whole : take (length t.spell) t.spell ≡ t.spell = ap (take (length t.spell)) (sym (append-nil t.spell)) ∙ take-append_seam t.spell [] in
    let l : lexed_behind false 0 (drop (length t.spell) t.spell) ≡ lexed_end false = ap (lexed_behind false 0) (drop-length t.spell) ∙ lexed_none [] false refl in
    rw (whole, is.utf8, l) at e

read_from : (spaced : Bool) (t : Tok) (ts : List Tok) → IsToken t → AreTokens ts
    → lexed_behind spaced 0 (t.spell ++ flat_map with_space ts) ≡ Some (record { toks = respaced spaced t ∷ map (respaced true) ts; unclosed = false })
read_from spaced t [] is all = ap (lexed_behind spaced 0) (append-nil t.spell) ∙ read_last spaced t is
read_from spaced t (u ∷ us) is all =
    let gap : lexed_behind false 0 (32 ∷ u.spell ++ flat_map with_space us) ≡ lexed_behind true 0 (u.spell ++ flat_map with_space us) = lexed_gap (32 ∷ u.spell ++ flat_map with_space us) false 1 (omega arith) refl (omega arith) in
    spellings_are_read spaced t 32 (u.spell ++ flat_map with_space us) is refl
    ∙ ap (option_map (λ (l : Lexed). with_tok (respaced spaced t) l)) (gap ∙ read_from true u us all.0 all.1)

pub shown_tokens_are_read : ShownTokensAreRead
shown_tokens_are_read [] all = lexed_none [] false refl
shown_tokens_are_read (t ∷ ts) all = read_from false t ts all.0 all.1
