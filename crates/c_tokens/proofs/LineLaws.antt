-- What the loop over the joined lines of a logical line keeps.
use Rattle.std.proofs.Common.{◌≡◌, ℕ, ◌+◌, ◌<◌, ◌≤◌, Bool, true, false, List, [], ◌∷◌, ◌++◌, Option, Some, None, length, refl, sym, ap, subst, ◌∙◌, arith, rules, append_assoc, append-nil, add_assoc, zero-add, add-zero, inl, inr, option_map}
use Rattle.c_tokens.specs.declared.tok.Tok.{Tok}
use Rattle.c_tokens.specs.declared.join.Behind.{Behind}
use Rattle.c_tokens.specs.declared.lex.LineEnd.{LineEnd}
use Rattle.c_tokens.specs.declared.lex.LineEnd.TheVariants as ending
use Rattle.c_tokens.specs.Lexed.{Lexed, lexed}
use Rattle.c_tokens.specs.Lexing.{behind_toks, ended_as}
use Rattle.c_tokens.specs.Joining.{joined_behind, cut_of}
use Rattle.c_tokens.specs.Lines.{Cut, cut, Logical, LogicalLine, closes, goes_on, stays_open, no_token, going_on}

pub going_on_twice : (xs ys : List Tok) (m n : ℕ) (o : Option Logical) → going_on xs m (going_on ys n o) ≡ going_on (xs ++ ys) (m + n) o
going_on_twice xs ys m n None = refl
going_on_twice xs ys m n (Some l) = rw (append_assoc, add_assoc) refl

pub going_on_nothing : (o : Option Logical) → going_on [] 0 o ≡ o
going_on_nothing None = refl
going_on_nothing (Some l) = rw zero-add refl

-- all that the rest comes to, the whole text comes to
abbrev pub Leads : Bool → List ℕ → List Tok → ℕ → List ℕ → Type 0
Leads commented rest toks newlines text = (o : Option Logical) → LogicalLine commented rest o → LogicalLine false text (going_on toks newlines o)

pub leads_start : (text : List ℕ) → Leads false text [] 0 text
leads_start text = λ o h. subst (LogicalLine false text) (sym (going_on_nothing o)) h

-- what one joined line is
pub record Joined (commented : Bool) (rest joined : List ℕ) (b : Behind) (end : LineEnd) (toks new : List Tok) : Type 0 where
  pub line : cut_of joined b ≡ joined_behind [] 0 (cut rest)
  pub lexed_as : ended_as end new ≡ behind_toks toks (lexed commented joined)

joined_bytes : (rest joined : List ℕ) (b : Behind) → cut_of joined b ≡ joined_behind [] 0 (cut rest) → joined ≡ (cut rest).bytes
joined_bytes rest joined b e = ap (λ c. c.bytes) e

joined_rest : (rest joined : List ℕ) (b : Behind) → cut_of joined b ≡ joined_behind [] 0 (cut rest) → b.rest.now ≡ (cut rest).rest
joined_rest rest joined b e = ap (λ c. c.rest) e

joined_newlines : (rest joined : List ℕ) (b : Behind) → cut_of joined b ≡ joined_behind [] 0 (cut rest) → b.newlines ≡ (cut rest).newlines
joined_newlines rest joined b e = ap (λ c. c.newlines) e ∙ zero-add (cut rest).newlines

-- the tokens of the line itself
pub record Whole (toks new : List Tok) (unclosed : Bool) (o : Option Lexed) : Type 0 where
  pub own : List Tok
  pub is : o ≡ Some (record { toks = own; unclosed = unclosed })
  pub new_is : new ≡ toks ++ own

whole_of : (toks new : List Tok) (unclosed : Bool) (o : Option Lexed) → Some (record { toks = new; unclosed = unclosed }) ≡ behind_toks toks o → Whole toks new unclosed o
whole_of toks new u None e = cc
whole_of toks new u (Some l) e =
    let f : record { toks = new; unclosed = u } ≡ record { toks = toks ++ l.toks; unclosed = l.unclosed } = same e in
    record { own = l.toks; is = ap (λ b. Some (record { toks = l.toks; unclosed = b })) (sym (ap (λ r. r.unclosed) f)); new_is = ap (λ r. r.toks) f }
  where
    same : {x y : Lexed} → Some x ≡ Some y → x ≡ y
    same e = cc

none_of : (toks : List Tok) (o : Option Lexed) → None ≡ behind_toks toks o → o ≡ None
none_of toks None e = refl
none_of toks (Some l) e = cc

pub leads_whole : (commented : Bool) (rest joined text : List ℕ) (b : Behind) (toks new : List Tok) (n : ℕ) → Joined commented rest joined b ending.Whole toks new
    → Leads commented rest toks n text → LogicalLine false text (Some (record { toks = new; rest = b.rest.now; newlines = n + b.newlines }))
leads_whole commented rest joined text b toks new n j lead =
    let w : Whole toks new false (lexed commented joined) = whole_of toks new false _ j.lexed_as in
    let e : lexed commented (cut rest).bytes ≡ Some (record { toks = w.own; unclosed = false }) = sym (ap (lexed commented) (joined_bytes rest joined b j.line)) ∙ w.is in
    let all = lead _ (closes commented rest w.own e) in
    rw (w.new_is, joined_rest rest joined b j.line, joined_newlines rest joined b j.line) all

pub leads_none : (commented : Bool) (rest joined text : List ℕ) (b : Behind) (toks new : List Tok) (n : ℕ) → Joined commented rest joined b ending.NoToken toks new
    → Leads commented rest toks n text → LogicalLine false text None
leads_none commented rest joined text b toks new n j lead =
    let e : lexed commented (cut rest).bytes ≡ None = sym (ap (lexed commented) (joined_bytes rest joined b j.line)) ∙ none_of toks _ j.lexed_as in
    lead None (no_token commented rest e)

pub leads_open : (commented : Bool) (rest joined text : List ℕ) (b : Behind) (toks new : List Tok) (n : ℕ) → Joined commented rest joined b ending.Unclosed toks new → length b.rest.now ≡ 0
    → Leads commented rest toks n text → LogicalLine false text None
leads_open commented rest joined text b toks new n j none lead =
    let w : Whole toks new true (lexed commented joined) = whole_of toks new true _ j.lexed_as in
    let e : lexed commented (cut rest).bytes ≡ Some (record { toks = w.own; unclosed = true }) = sym (ap (lexed commented) (joined_bytes rest joined b j.line)) ∙ w.is in
    let m : length (cut rest).rest ≡ 0 = subst (λ (xs : List ℕ). length xs ≡ 0) (joined_rest rest joined b j.line) none in
    lead None (stays_open commented rest w.own e m)

pub leads_on : (commented : Bool) (rest joined text : List ℕ) (b : Behind) (toks new : List Tok) (n : ℕ) → Joined commented rest joined b ending.Unclosed toks new → 0 < length b.rest.now
    → Leads commented rest toks n text → Leads true b.rest.now new (n + b.newlines) text
leads_on commented rest joined text b toks new n j some lead = λ o h.
    let w : Whole toks new true (lexed commented joined) = whole_of toks new true _ j.lexed_as in
    let e : lexed commented (cut rest).bytes ≡ Some (record { toks = w.own; unclosed = true }) = sym (ap (lexed commented) (joined_bytes rest joined b j.line)) ∙ w.is in
    let m : 0 < length (cut rest).rest = subst (λ (xs : List ℕ). 0 < length xs) (joined_rest rest joined b j.line) some in
    let h1 : LogicalLine true (cut rest).rest o = subst (λ (xs : List ℕ). LogicalLine true xs o) (joined_rest rest joined b j.line) h in
    let all = lead _ (goes_on commented rest w.own o e m h1) in
    let all1 : LogicalLine false text (going_on (toks ++ w.own) (n + (cut rest).newlines) o) = subst (LogicalLine false text) (going_on_twice toks w.own n (cut rest).newlines o) all in
    rw (w.new_is, joined_newlines rest joined b j.line) all1

pub joined_of : (commented : Bool) (rest joined sliced js : List ℕ) (b : Behind) (end end' : LineEnd) (toks new : List Tok) → js ≡ [] → cut_of joined b ≡ joined_behind js 0 (cut rest)
    → sliced ≡ joined → ended_as end new ≡ behind_toks toks (lexed commented sliced) → end ≡ end' → Joined commented rest joined b end' toks new
joined_of commented rest joined sliced js b end end' toks new none line same lex is = record {
  line = rw none at line;
  lexed_as = rw (same, is) at lex;
}
