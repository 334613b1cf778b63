-- Reading a source, token for token.
use Rattle.std.proofs.Common.{◌≡◌, ◌<◌, ◌≤◌, ℕ, ◌+◌, Bool, true, false, List, [], ◌∷◌, ◌++◌, Option, Some, None, Result, Ok, Err, length, length-append, refl, sym, ap, subst, ◌∙◌, arith}
use Rattle.dts_lex.specs.Left.{Left, whole}
use Rattle.dts_lex.specs.Slices.{IsSlice}
use Rattle.dts_lex.specs.Tokens.{next_of}
use Rattle.dts_lex.specs.declared.lexer.LexFault.{LexFault}
use Rattle.dts_lex.specs.declared.lexer.Span.{Span}
use Rattle.dts_lex.proofs.SliceLaws.{are_slices}
use Rattle.dts_parse.specs.Inner.Machine.{Fault, Shape, is_whole, start, step}
use Rattle.dts_parse.specs.Inner.Outcome.{IsAnswer, IsSoFar, IsStop}
use Rattle.dts_parse.specs.Inner.Shown.{Leaves}
use Rattle.dts_parse.specs.Source.{IsFirst, NoneTakes, token_of}
use Rattle.dts_parse.specs.Token.{Token}
use Rattle.dts_parse.specs.declared.mode.Breach.{Breach}
use Rattle.dts_parse.specs.declared.mode.Breach.TheVariants.{S1}
use Rattle.dts_parse.specs.declared.stop.Stop.{Stop as Halt}
use Rattle.dts_parse.specs.declared.stop.Stop.TheVariants as stops
use Rattle.dts_parse.proofs.First.{first_end, first_token, within_source}
use Rattle.dts_parse.proofs.Order.{next_token, some_not_err, some_not_none}
use Rattle.dts_parse.proofs.Steps.{walk_on}
use Rattle.dts_parse.proofs.Whole.{found, not_whole, only, sound_whole}

pub so_far_start : (src : List ℕ) (base : Bool) (s : Shape) → s ≡ start base → IsSoFar src base (whole src) s
so_far_start src base s e = record { seen = []; tokens = refl; walked = ap (λ x. Ok x) (sym e) }

-- a span lies in its source
pub record Lies (src : List ℕ) (span : Span) (l next : Left) : Type 0 where
  pub from : span.start ≤ span.end
  pub to : span.end ≤ length src
  pub shorter : length next.bytes < length l.bytes

pub lies : (src : List ℕ) (base : Bool) (l next : Left) (span : Span) (s : Shape) → IsSoFar src base l s → next_of l ≡ Ok (Some (span, next)) → Lies src span l next
lies src base l next span s h e =
    let i : l.at + length l.bytes ≡ length src = within_source src h.seen l h.tokens in
    let k : IsSlice l span next = are_slices l next span e in
    let n : length l.bytes ≡ length (k.between ++ (k.text ++ next.bytes)) = ap (λ (ys : List ℕ). length ys) k.parts in
    record {
      from = omega (arith, k.ends);
      to = omega (arith, length-append k.between (k.text ++ next.bytes), length-append k.text next.bytes, k.begins, k.ends);
      shorter = omega (arith, length-append k.between (k.text ++ next.bytes), length-append k.text next.bytes, k.some);
    }

pub so_far_more : (src : List ℕ) (base : Bool) (l next : Left) (span : Span) (s to : Shape) → IsSoFar src base l s → next_of l ≡ Ok (Some (span, next)) → step s (token_of src span) ≡ Ok to → IsSoFar src base next to
so_far_more src base l next span s to h e k =
    record { seen = token_of src span ∷ h.seen; tokens = next_token src h.seen l next span h.tokens e; walked = walk_on base h.seen s (token_of src span) h.walked ∙ k }

pub first_stop : (src : List ℕ) (base : Bool) (l next : Left) (span : Span) (s : Shape) (rule : Breach) (at : ℕ) → IsSoFar src base l s → next_of l ≡ Ok (Some (span, next)) → step s (token_of src span) ≡ Err (record { rule = rule; at = at }) → IsFirst src base rule at
first_stop src base l next span s rule at h e k =
    let x : Fault = record { rule = rule; at = at } in
    first_token src base h.seen span x (record { left = l; next = next; s = s; tokens = h.tokens; walk_is = h.walked; is = e; stops = k })

pub first_lex : (src : List ℕ) (base : Bool) (l : Left) (f : LexFault) (s : Shape) → IsSoFar src base l s → next_of l ≡ Err f → IsFirst src base S1 f.at
first_lex src base l f s h e =
    let P : Result (Option (Span × Left)) LexFault → Type 0 = λ z. NoneTakes src base h.seen f.at z in
    first_end src base h.seen l s f.at h.tokens h.walked (λ span next k. some_not_err (next_of l) (span, next) f k e) (subst P (sym e) refl)

pub first_last : (src : List ℕ) (base : Bool) (l : Left) (s : Shape) → IsSoFar src base l s → next_of l ≡ Ok None → is_whole s ≡ false → IsFirst src base S1 (length src)
first_last src base l s h e k =
    first_end src base h.seen l s (length src) h.tokens h.walked (λ span next n. some_not_none (next_of l) (span, next) n e) (not_whole src base h.seen l s h.walked e k)

pub answered : (src : List ℕ) (base : Bool) (l : Left) (s : Shape) → IsSoFar src base l s → next_of l ≡ Ok None → is_whole s ≡ true → IsAnswer src base s.out
answered src base l s h e k =
    record { found = found src base h.seen l s h.tokens h.walked e k; only = only src base h.seen l s h.tokens h.walked e; none = sound_whole src base h.seen l s h.tokens h.walked e k }

-- why reading stops at a token
pub stop_is : (src : List ℕ) (base : Bool) (l next : Left) (span : Span) (s now : Shape) (t : Token) (stop : Halt) → IsSoFar src base l s → next_of l ≡ Ok (Some (span, next)) → t ≡ token_of src span
    → Leaves {T = Unit {0}} now (Err stop) (step s t) → IsStop src base stop
stop_is src base l next span s now t (stops.Broken rule at) h e k n = first_stop src base l next span s rule at h e (ap (λ z. step s z) (sym k) ∙ n)
stop_is src base l next span s now t (stops.Memory m) h e k n = tt

pub taken_is : (src : List ℕ) (base : Bool) (l next : Left) (span : Span) (s now : Shape) (t : Token) → IsSoFar src base l s → next_of l ≡ Ok (Some (span, next)) → t ≡ token_of src span → step s t ≡ Ok now → IsSoFar src base next now
taken_is src base l next span s now t h e k n = so_far_more src base l next span s now h e (ap (λ z. step s z) (sym k) ∙ n)
