-- The tokens of a source, one list of them in front of another.
use Rattle.std.proofs.Common.{◌≡◌, ◌<◌, ◌≤◌, ℕ, List, [], ◌∷◌, ◌++◌, Option, Some, None, Result, Ok, Err, refl, sym, ap, subst, ◌∙◌, arith}
use Rattle.dts_lex.specs.Left.{Left}
use Rattle.dts_lex.specs.Slices.{IsSlice}
use Rattle.dts_lex.specs.Tokens.{next_of}
use Rattle.dts_lex.specs.declared.lexer.LexFault.{LexFault}
use Rattle.dts_lex.specs.declared.lexer.Span.{Span}
use Rattle.dts_lex.proofs.SliceLaws.{are_slices}
use Rattle.dts_parse.specs.Source.{AreTokens, token_of}
use Rattle.dts_parse.specs.Token.{Token}

-- one call gives one thing
pub pair_same : (r : Result (Option (Span × Left)) LexFault) (x y : Span × Left) → r ≡ Ok (Some x) → r ≡ Ok (Some y) → x ≡ y
pair_same r x y e f = cc

pub some_not_none : (r : Result (Option (Span × Left)) LexFault) (x : Span × Left) → r ≡ Ok (Some x) → r ≡ Ok None → ⊥
some_not_none r x e f = cc

pub some_not_err : (r : Result (Option (Span × Left)) LexFault) (x : Span × Left) (f : LexFault) → r ≡ Ok (Some x) → r ≡ Err f → ⊥
some_not_err r x f e g = cc

pub left_same : (src : List ℕ) (b : List Token) (l m : Left) → AreTokens src b l → AreTokens src b m → l ≡ m
left_same src [] l m h k = h ∙ sym k
left_same src (t ∷ b) l m (h, s, p, e, q) (k, s', p', e', q') =
    let mids : h ≡ k = left_same src b h k p p' in
    let both : (s, l) ≡ (s', m) = pair_same (next_of k) (s, l) (s', m) (subst (λ (x : Left). next_of x ≡ Ok (Some (s, l))) mids e) e' in
    ap (λ x. x.1) both

-- the token after them, and what is left after it
pub record Follows (src : List ℕ) (b : List Token) (t : Token) (after : Left) : Type 0 where
  pub left : Left
  pub span : Span
  pub tokens : AreTokens src b left
  pub is : next_of left ≡ Ok (Some (span, after))
  pub token_is : t ≡ token_of src span

pub follows : (src : List ℕ) (b : List Token) (t : Token) (after : Left) → AreTokens src (t ∷ b) after → Follows src b t after
follows src b t after (mid, span, p, e, q) = record { left = mid; span = span; tokens = p; is = e; token_is = q }

pub next_token : (src : List ℕ) (b : List Token) (l after : Left) (span : Span) → AreTokens src b l → next_of l ≡ Ok (Some (span, after)) → AreTokens src (token_of src span ∷ b) after
next_token src b l after span h e = (l, span, h, e, refl)

-- both read the same next token
pub token_same : (src : List ℕ) (b : List Token) (t : Token) (l after m : Left) (span : Span) → AreTokens src (t ∷ b) after → AreTokens src b l → next_of l ≡ Ok (Some (span, m)) → (t ≡ token_of src span) × (after ≡ m)
token_same src b t l after m span h k e =
    let f : Follows src b t after = follows src b t after h in
    let lefts : f.left ≡ l = left_same src b f.left l f.tokens k in
    let both : (f.span, after) ≡ (span, m) = pair_same (next_of l) (f.span, after) (span, m) (subst (λ (x : Left). next_of x ≡ Ok (Some (f.span, after))) lefts f.is) e in
    (f.token_is ∙ ap (λ x. token_of src x.0) both, ap (λ x. x.1) both)

pub record Prefix (src : List ℕ) (b : List Token) (l : Left) : Type 0 where
  pub left : Left
  pub tokens : AreTokens src b left
  pub at : left.at ≤ l.at

pub prefix : (src : List ℕ) (ext b : List Token) (l : Left) → AreTokens src (ext ++ b) l → Prefix src b l
prefix src [] b l h = record { left = l; tokens = h; at = omega arith }
prefix src (t ∷ ext) b l (mid, span, p, e, q) =
    let r : Prefix src b mid = prefix src ext b mid p in
    let s : IsSlice mid span l = are_slices mid l span e in
    record { left = r.left; tokens = r.tokens; at = omega arith }

-- one list of tokens goes on from another with this token
pub record Ahead (b : List Token) (a : List Token) : Type 0 where
  pub t : Token
  pub ext : List Token
  pub parts : a ≡ ext ++ t ∷ b

last_parts : (x : Token) (ext : List Token) → (y : Token) × ((rest : List Token) × (x ∷ ext ≡ rest ++ y ∷ []))
last_parts x [] = (x, ([], refl))
last_parts x (z ∷ ext) = let r : (y : Token) × ((rest : List Token) × (z ∷ ext ≡ rest ++ y ∷ [])) = last_parts z ext in (r.0, (x ∷ r.1.0, ap (λ ys. x ∷ ys) r.1.1))

pub data Compared (b : List Token) (a : List Token) : Type 0 where
  Same : a ≡ b → Compared b a
  Shorter : Ahead b a → Compared b a
  Longer : Ahead a b → Compared b a

append_one : (xs : List Token) (y : Token) (zs : List Token) → (xs ++ y ∷ []) ++ zs ≡ xs ++ y ∷ zs
append_one [] y zs = refl
append_one (x ∷ xs) y zs = ap (λ ys. x ∷ ys) (append_one xs y zs)

longer : (src : List ℕ) (b : List Token) (t y : Token) (a ext : List Token) (lb la : Left) → AreTokens src b lb → AreTokens src (t ∷ a) la → b ≡ ext ++ y ∷ a → Compared b (t ∷ a)
longer src b t y a ext lb la hb ha e =
    let p : Prefix src (y ∷ a) lb = prefix src ext (y ∷ a) lb (subst (λ (z : List Token). AreTokens src z lb) e hb) in
    let f : Follows src a t la = follows src a t la ha in
    let one : (y ≡ token_of src f.span) × (p.left ≡ la) = token_same src a y f.left p.left la f.span p.tokens f.tokens f.is in
    let same : y ≡ t = one.0 ∙ sym f.token_is in
    by_rest ext (subst (λ (z : Token). b ≡ ext ++ z ∷ a) same e)
  where
    by_rest : (ext : List Token) → b ≡ ext ++ t ∷ a → Compared b (t ∷ a)
    by_rest [] e = Same (sym e)
    by_rest (x ∷ ext) e =
        let r : (z : Token) × ((rest : List Token) × (x ∷ ext ≡ rest ++ z ∷ [])) = last_parts x ext in
        Longer (record { t = r.0; ext = r.1.0; parts = e ∙ (ap (λ ys. ys ++ t ∷ a) r.1.1 ∙ append_one r.1.0 r.0 (t ∷ a)) })

-- two lists of first tokens of one source: the same, or one goes on from the other
pub compare : (src : List ℕ) (b a : List Token) (lb la : Left) → AreTokens src b lb → AreTokens src a la → Compared b a
compare src b [] lb la hb ha = from_start b
  where
    from_start : (b : List Token) → Compared b []
    from_start [] = Same refl
    from_start (x ∷ ext) =
        let r : (z : Token) × ((rest : List Token) × (x ∷ ext ≡ rest ++ z ∷ [])) = last_parts x ext in
        Longer (record { t = r.0; ext = r.1.0; parts = r.1.1 })
compare src b (t ∷ a) lb la hb (mid, span, p, e, q) =
    elim (compare src b a lb mid hb p) [
      | Same same ↦ Shorter (record { t = t; ext = []; parts = ap (λ z. t ∷ z) same })
      | Shorter s ↦ Shorter (record { t = s.t; ext = t ∷ s.ext; parts = ap (λ z. t ∷ z) s.parts })
      | Longer s ↦ longer src b t s.t a s.ext lb la hb (mid, span, p, e, q) s.parts
    ]

-- ---- places

pub record Places (l : Left) (span : Span) (next : Left) : Type 0 where
  pub from : l.at ≤ span.start
  pub to : span.start < next.at

pub places : (l next : Left) (span : Span) → next_of l ≡ Ok (Some (span, next)) → Places l span next
places l next span e = let s : IsSlice l span next = are_slices l next span e in record { from = omega arith; to = omega arith }
