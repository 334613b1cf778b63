-- One step over the bytes of a line.
use Rattle.std.proofs.Common.{◌≡◌, ℕ, zero, suc, ◌-◌, ◌<◌, Bool, true, false, List, [], ◌∷◌, ◌++◌, Option, Some, None, option_map, length, take, drop, refl, sym, ap, subst, ◌∙◌, arith, rules, if◌then◌else◌, append-nil, append_assoc, inl, inr}
use Rattle.std.proofs.lemmas.Bool.{cases_Bool}
use Rattle.std.specs.Str.{is_utf8}
use Rattle.c_tokens.specs.declared.tok.Tok.{Tok}
use Rattle.c_tokens.specs.declared.tok.TokKind.{TokKind}
use Rattle.c_tokens.specs.declared.grammar.Piece.{Piece}
use Rattle.c_tokens.specs.declared.grammar.Piece.TheVariants as piece
use Rattle.c_tokens.specs.Grammar.{front, IsWithin, comment_end}
use Rattle.c_tokens.specs.Lexed.{Lexed, lexed, lexed_end, lexed_behind, after_front, with_tok, lexed_uncommented}
use Rattle.c_tokens.specs.Lexing.{behind_toks}

pub lexed_skip : (bs : List ℕ) (s : Bool) (k : ℕ) → lexed_behind s k bs ≡ lexed_behind s 0 (drop k bs)
unfolding lexed_behind
lexed_skip [] s zero = refl
lexed_skip [] s (suc k) = refl
lexed_skip (b ∷ bs) s zero = refl
lexed_skip (b ∷ bs) s (suc k) = lexed_skip bs s k

pub lexed_none : (bs : List ℕ) (s : Bool) → length bs ≡ 0 → lexed_behind s 0 bs ≡ lexed_end false
unfolding lexed_behind
lexed_none [] s h = refl
lexed_none (b ∷ bs) s h = absurd (omega arith)

lexed_first : (b : ℕ) (bs : List ℕ) (s : Bool) → lexed_behind s 0 (b ∷ bs) ≡ after_front (front (b ∷ bs)) s (b ∷ bs) (λ s n. lexed_behind s (n - 1) bs)
unfolding lexed_behind
lexed_first b bs s = refl

skipped : (b : ℕ) (bs : List ℕ) (s : Bool) (n : ℕ) → 0 < n → lexed_behind s (n - 1) bs ≡ lexed_behind s 0 (drop n (b ∷ bs))
skipped b bs s zero h = absurd (omega arith)
skipped b bs s (suc n) h = let e : suc n - 1 ≡ n = omega arith in rw e (lexed_skip bs s n)

pub lexed_gap : (bs : List ℕ) (s : Bool) (n : ℕ) → 0 < length bs → front bs ≡ piece.Gap n → 0 < n → lexed_behind s 0 bs ≡ lexed_behind true 0 (drop n bs)
lexed_gap [] s n h e m = absurd (omega arith)
lexed_gap (b ∷ bs) s n h e m =
    lexed_first b bs s ∙ (ap (λ p. after_front p s (b ∷ bs) (λ s n. lexed_behind s (n - 1) bs)) e ∙ skipped b bs true n m)

pub lexed_unclosed : (bs : List ℕ) (s : Bool) → 0 < length bs → front bs ≡ piece.Unclosed → lexed_behind s 0 bs ≡ lexed_end true
lexed_unclosed [] s h e = absurd (omega arith)
lexed_unclosed (b ∷ bs) s h e =
    lexed_first b bs s ∙ ap (λ p. after_front p s (b ∷ bs) (λ s n. lexed_behind s (n - 1) bs)) e

pub lexed_nothing : (bs : List ℕ) (s : Bool) → 0 < length bs → front bs ≡ piece.Nothing → lexed_behind s 0 bs ≡ None
lexed_nothing [] s h e = absurd (omega arith)
lexed_nothing (b ∷ bs) s h e =
    lexed_first b bs s ∙ ap (λ p. after_front p s (b ∷ bs) (λ s n. lexed_behind s (n - 1) bs)) e

some_same : {A : Type 0} {x y : A} → Some x ≡ Some y → x ≡ y
some_same e = cc

abbrev pub tok_of : List ℕ → TokKind → Bool → Tok
tok_of bytes k s = record { spell = bytes; kind = k; spaced = s }

pub lexed_token : (bs : List ℕ) (s : Bool) (k : TokKind) (n : ℕ) → 0 < length bs → front bs ≡ piece.Token k n → 0 < n
    → lexed_behind s 0 bs ≡ (if is_utf8 (take n bs) then option_map (λ l. with_tok (record { spell = take n bs; kind = k; spaced = s }) l) (lexed_behind false 0 (drop n bs)) else None)
lexed_token [] s k n h e m = absurd (omega arith)
lexed_token (b ∷ bs) s k n h e m =
    lexed_first b bs s ∙ (ap (λ p. after_front p s (b ∷ bs) (λ s n. lexed_behind s (n - 1) bs)) e
    ∙ ap (λ o. if is_utf8 (take n (b ∷ bs)) then option_map (λ l. with_tok (record { spell = take n (b ∷ bs); kind = k; spaced = s }) l) o else None) (skipped b bs false n m))

-- a token more
pub behind_more : (ts : List Tok) (t : Tok) (o : Option Lexed) → behind_toks ts (option_map (λ l. with_tok t l) o) ≡ behind_toks (ts ++ t ∷ []) o
behind_more ts t None = refl
behind_more ts t (Some l) = ap (λ xs. Some (record { toks = xs; unclosed = l.unclosed })) (sym (append_assoc ts (t ∷ []) l.toks))

-- ---- what the loop over a line keeps: `all` is what the whole line comes to

pub kept_gap : (bs : List ℕ) (s : Bool) (n : ℕ) (ts : List Tok) (all : Option Lexed) → 0 < length bs → front bs ≡ piece.Gap n → 0 < n
    → behind_toks ts (lexed_behind s 0 bs) ≡ all → behind_toks ts (lexed_behind true 0 (drop n bs)) ≡ all
kept_gap bs s n ts all h e m k = ap (behind_toks ts) (sym (lexed_gap bs s n h e m)) ∙ k

pub ends_unclosed : (bs : List ℕ) (s : Bool) (ts : List Tok) (all : Option Lexed) → 0 < length bs → front bs ≡ piece.Unclosed
    → behind_toks ts (lexed_behind s 0 bs) ≡ all → Some (record { toks = ts; unclosed = true }) ≡ all
ends_unclosed bs s ts all h e k =
    ap (λ xs. Some (record { toks = xs; unclosed = true })) (sym (append-nil ts)) ∙ (ap (behind_toks ts) (sym (lexed_unclosed bs s h e)) ∙ k)

pub ends_nothing : (bs : List ℕ) (s : Bool) (ts : List Tok) (all : Option Lexed) → 0 < length bs → front bs ≡ piece.Nothing
    → behind_toks ts (lexed_behind s 0 bs) ≡ all → None ≡ all
ends_nothing bs s ts all h e k = ap (behind_toks ts) (sym (lexed_nothing bs s h e)) ∙ k

pub ends_whole : (bs : List ℕ) (s : Bool) (ts : List Tok) (all : Option Lexed) → length bs ≡ 0
    → behind_toks ts (lexed_behind s 0 bs) ≡ all → Some (record { toks = ts; unclosed = false }) ≡ all
ends_whole bs s ts all h k =
    ap (λ xs. Some (record { toks = xs; unclosed = false })) (sym (append-nil ts)) ∙ (ap (behind_toks ts) (sym (lexed_none bs s h)) ∙ k)

-- the token of these bytes, if they are UTF-8
pub kept_token : (bs spell : List ℕ) (s : Bool) (kind : TokKind) (n : ℕ) (ts : List Tok) (t : Tok) (all : Option Lexed) → 0 < length bs → front bs ≡ piece.Token kind n → 0 < n
    → spell ≡ take n bs → Some t ≡ (if is_utf8 spell then Some (record { spell = spell; kind = kind; spaced = s }) else None)
    → behind_toks ts (lexed_behind s 0 bs) ≡ all → behind_toks (ts ++ t ∷ []) (lexed_behind false 0 (drop n bs)) ≡ all
kept_token bs spell s kind n ts t all h e m w is k = elim (cases_Bool (is_utf8 spell)) [
  | inl u ↦
      let is1 : Some t ≡ Some (record { spell = spell; kind = kind; spaced = s }) = rw u at is in
      let same : t ≡ record { spell = take n bs; kind = kind; spaced = s } = rw w at (some_same is1) in
      let u1 : is_utf8 (take n bs) ≡ true = rw w at u in
      let step = lexed_token bs s kind n h e m in
      let step1 : lexed_behind s 0 bs ≡ option_map (λ l. with_tok t l) (lexed_behind false 0 (drop n bs)) = rw (sym same, u1) at step in
      sym (behind_more ts t (lexed_behind false 0 (drop n bs))) ∙ (ap (behind_toks ts) (sym step1) ∙ k)
  | inr u ↦ let is1 : Some t ≡ None = rw u at is in cc
]

pub refused_token : (bs spell : List ℕ) (s : Bool) (kind : TokKind) (n : ℕ) (ts : List Tok) (all : Option Lexed) → 0 < length bs → front bs ≡ piece.Token kind n → 0 < n
    → spell ≡ take n bs → None ≡ (if is_utf8 spell then Some (tok_of spell kind s) else None)
    → behind_toks ts (lexed_behind s 0 bs) ≡ all → None ≡ all
refused_token bs spell s kind n ts all h e m w is k = elim (cases_Bool (is_utf8 spell)) [
  | inl u ↦ let is1 : None ≡ Some (tok_of spell kind s) = rw u at is in cc
  | inr u ↦
      let u1 : is_utf8 (take n bs) ≡ false = rw w at u in
      let step : lexed_behind s 0 bs ≡ None = rw u1 at (lexed_token bs s kind n h e m) in
      ap (behind_toks ts) (sym step) ∙ k
]

-- behind the end of a comment
pub lexed_behind_comment : (bs rest : List ℕ) (n : ℕ) (c : Bool) → c ≡ true → comment_end false bs ≡ Some n → rest ≡ drop n bs → lexed_behind true 0 rest ≡ lexed c bs
lexed_behind_comment bs rest n true t e r = ap (lexed_behind true 0) r ∙ (sym (lexed_skip bs true n) ∙ ap (λ o. lexed_uncommented o bs) (sym e))
lexed_behind_comment bs rest n false t e r = cc
