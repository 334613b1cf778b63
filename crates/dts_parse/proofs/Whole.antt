-- A walk over all tokens gives the script, or shows that there is none.
use Rattle.std.proofs.Common.{◌≡◌, ℕ, Bool, true, false, ◌&&◌, List, [], ◌∷◌, Option, None, Result, Ok, Err, refl, sym, ap, subst, ◌∙◌, length}
use Rattle.std.proofs.lemmas.Bool.{and_parts}
use Rattle.dts_lex.specs.Left.{Left}
use Rattle.dts_lex.specs.Tokens.{next_of}
use Rattle.dts_lex.specs.declared.lexer.LexFault.{LexFault}
use Rattle.dts_lex.specs.declared.lexer.Span.{Span}
use Rattle.dts_parse.specs.Fronts.{Front, In_body, At_name, At_brace, At_directive, At_end, At_site, At_colon, At_bits, At_angle, Before_operand, After_operand, In_value, After_part, In_list, In_hex, fits_lead, spell_front}
use Rattle.dts_parse.specs.Inner.Machine.{Fault, Shape, Step, is_bare, is_whole, step, step_on, walk}
use Rattle.dts_parse.specs.Source.{AreTokens, BreaksNone, HasOneScript, IsScript, NoneTakes}
use Rattle.dts_parse.specs.Statements.{AreFit, Lead, No_lead, Label_lead, Mark_lead, Pieces, is_empty, labels_of, marks_of, place, script, spell_pieces, takes_top}
use Rattle.dts_parse.specs.StmtData.{StmtData}
use Rattle.dts_parse.specs.Token.{Token}
use Rattle.dts_parse.specs.declared.mode.Breach.TheVariants.{S1}
use Rattle.dts_parse.proofs.First.{Inside, There, Beyond, NoNext, Next, Stop, beyond_next, first_token, next_is, others_none, position}
use Rattle.dts_parse.proofs.FrontReads.{empty_more, leading, reads_pieces}
use Rattle.dts_parse.proofs.Kept.{kept, resting}
use Rattle.dts_parse.proofs.Order.{some_not_none}
use Rattle.dts_parse.proofs.Sound.{no_and, no_and_right, not_both}
use Rattle.dts_parse.proofs.Steps.{Reached, halt, leads_ok, not_ok, reach}

-- ---- a front that may end

pub record Ended (base : Bool) (ts : List Token) (out : List StmtData) : Type 0 where
  pub ps : Pieces
  pub fit : AreFit base ps
  pub top : takes_top (place base ps) ≡ true
  pub spells : spell_pieces ps ≡ ts
  pub statements : script base ps ≡ out

four_parts : (a b c d : Bool) → (a && b && c && d) ≡ true → (c ≡ true) × (d ≡ true)
four_parts a b c d e = let h : ((a && b && c) ≡ true) × (d ≡ true) = and_parts (a && b && c) d e in let k : ((a && b) ≡ true) × (c ≡ true) = and_parts (a && b) c h.0 in (k.1, h.1)

body_whole : (base : Bool) (ps : Pieces) (lead : Lead) → is_whole (leading base ps lead) ≡ true → (lead ≡ No_lead) × (takes_top (place base ps) ≡ true)
body_whole base ps No_lead e = (refl, (four_parts true true true (takes_top (place base ps)) e).1)
body_whole base ps (Label_lead lead n c) e =
    absurd (not_both _ (no_and (is_empty (labels_of (Label_lead lead n c))) (is_empty (marks_of lead)) (empty_more (labels_of lead) _)) (four_parts true true (is_bare (leading base ps (Label_lead lead n c))) (takes_top (place base ps)) e).0)
body_whole base ps (Mark_lead lead d) e =
    absurd (not_both _ (no_and_right (is_empty (labels_of lead)) (is_empty (marks_of (Mark_lead lead d))) (empty_more (marks_of lead) _)) (four_parts true true (is_bare (leading base ps (Mark_lead lead d))) (takes_top (place base ps)) e).0)

body_ended : (base : Bool) (ps : Pieces) (fit : AreFit base ps) (lead : Lead) → is_whole (leading base ps lead) ≡ true → (m : fits_lead (place base ps) lead ≡ true) → Ended base (spell_front (In_body ps fit lead m)) (script base ps)
body_ended base ps fit No_lead e m = record { ps = ps; fit = fit; top = (body_whole base ps No_lead e).1; spells = refl; statements = refl }
body_ended base ps fit (Label_lead lead n c) e m = let h : Label_lead lead n c ≡ No_lead = (body_whole base ps (Label_lead lead n c) e).0 in cc
body_ended base ps fit (Mark_lead lead d) e m = let h : Mark_lead lead d ≡ No_lead = (body_whole base ps (Mark_lead lead d) e).0 in cc

front_ended : (base : Bool) (f : Front base) → is_whole (kept f) ≡ true → Ended base (spell_front f) (kept f).out
front_ended base (In_body ps fit lead may) e = body_ended base ps fit lead e may
front_ended base (At_name ps fit lead may f n named) e = cc
front_ended base (At_brace ps fit lead may bare o) e = cc
front_ended base (At_directive ps fit b may) e = cc
front_ended base (At_end ps fit s may) e = cc
front_ended base (At_site (In_value top b ls)) e = cc
front_ended base (At_site (After_part top b ls part after)) e = cc
front_ended base (At_site (In_list w l)) e = cc
front_ended base (At_site (In_hex top b ls begin ps now)) e = cc
front_ended base (At_colon (In_value top b ls) n) e = cc
front_ended base (At_colon (After_part top b ls part after) n) e = cc
front_ended base (At_colon (In_list w l) n) e = cc
front_ended base (At_colon (In_hex top b ls begin ps now) n) e = cc
front_ended base (At_bits top b ls d) e = cc
front_ended base (At_angle top b ls d n w is q) e = cc
front_ended base (Before_operand w l begin x proper) e = cc
front_ended base (After_operand w l begin x proper t is fits) e = cc

-- ---- the end of the tokens

ended_along : (base : Bool) (ts ts' : List Token) (s s' : Shape) → ts ≡ ts' → s ≡ s' → Ended base ts s.out → Ended base ts' s'.out
ended_along base ts ts' s s' e f h =
    record { ps = h.ps; fit = h.fit; top = h.top; spells = h.spells ∙ e; statements = h.statements ∙ ap (λ x. x.out) f }

pub ended : (src : List ℕ) (base : Bool) (seen : List Token) (left : Left) (s : Shape) → AreTokens src seen left → walk base seen ≡ Ok s → is_whole s ≡ true → Ended base seen s.out
ended src base seen left s ha w e =
    let r : Reached base seen s = reach src base seen left s ha w in
    let F : Shape → Bool = λ x. is_whole x in
    ended_along base (spell_front r.f) seen (kept r.f) s r.spells r.keeps (front_ended base r.f (ap F r.keeps ∙ e))

no_next : (left : Left) → next_of left ≡ Ok None → NoNext left
no_next left e span next h = some_not_none (next_of left) (span, next) h e

-- what is walked over to the end is the script
pub found : (src : List ℕ) (base : Bool) (seen : List Token) (left : Left) (s : Shape) → AreTokens src seen left → walk base seen ≡ Ok s → next_of left ≡ Ok None → is_whole s ≡ true → IsScript src base s.out
found src base seen left s ha w none e =
    let h : Ended base seen s.out = ended src base seen left s ha w e in
    record { ps = h.ps; is_whole = record { fit = h.fit; ends = h.top; left = left; tokens = subst (λ (z : List Token). AreTokens src z left) (sym h.spells) ha; none = none }; statements = h.statements }

pieces_state : (base : Bool) (ps : Pieces) (s : Shape) (ts : List Token) → AreFit base ps → spell_pieces ps ≡ ts → walk base ts ≡ Ok s → s ≡ resting base ps
pieces_state base ps s ts fit e w = leads_ok true (walk base (spell_pieces ps)) s (resting base ps) (reads_pieces base ps fit).is (ap (λ z. walk base z) e ∙ w)

-- and it is the only one
pub only : (src : List ℕ) (base : Bool) (seen : List Token) (left : Left) (s : Shape) → AreTokens src seen left → walk base seen ≡ Ok s → next_of left ≡ Ok None
    → (other : List StmtData) → IsScript src base other → s.out ≡ other
only src base seen left s ha w none other o =
    elim (position src base seen left s ha w (spell_pieces o.ps) o.is_whole.left o.is_whole.tokens) [
      | Inside t x after k h ↦ (let n : Next src o.is_whole.left t after = next_is src (spell_pieces o.ps) o.is_whole.left t after o.is_whole.tokens h in
          absurd (some_not_none (next_of o.is_whole.left) (n.span, after) n.is o.is_whole.none))
      | There e ↦ ap (λ x. x.out) (pieces_state base o.ps s seen o.is_whole.fit (sym e) w) ∙ o.statements
      | Beyond y ext parts ↦ absurd (beyond_next src seen (spell_pieces o.ps) ext y left o.is_whole.left ha o.is_whole.tokens parts (no_next left none))
    ]

-- and no rule is broken
pub sound_whole : (src : List ℕ) (base : Bool) (seen : List Token) (left : Left) (s : Shape) → AreTokens src seen left → walk base seen ≡ Ok s → next_of left ≡ Ok None → is_whole s ≡ true → BreaksNone src base
sound_whole src base seen left s ha w none e rule at o =
    let h : Ended base seen s.out = ended src base seen left s ha w e in
    let k : (rule ≡ S1) × NoneTakes src base seen at (next_of left) = others_none src base seen left s ha w (no_next left none) rule at o in
    let P : Result (Option (Span × Left)) LexFault → Type 0 = λ z. NoneTakes src base seen at z in
    let n = subst P none k.1 in
    n.1 h.ps h.fit h.top h.spells

-- where a source can't end, no source ends
pub not_whole : (src : List ℕ) (base : Bool) (seen : List Token) (left : Left) (s : Shape) → walk base seen ≡ Ok s → next_of left ≡ Ok None → is_whole s ≡ false → NoneTakes src base seen (length src) (next_of left)
not_whole src base seen left s w none e =
    let P : Result (Option (Span × Left)) LexFault → Type 0 = λ z. NoneTakes src base seen (length src) z in
    subst P (sym none) (
      refl,
      λ ps fit top spells. (let F : Shape → Bool = λ x. is_whole x in
          not_both (is_whole s) e (ap F (pieces_state base ps s seen fit spells w) ∙ top)),
    )

-- ---- one script

record Cut (src : List ℕ) (base : Bool) (x : Fault) : Type 0 where
  seen : List Token
  span : Span
  stop : Stop src base seen span x

cut : (src : List ℕ) (base : Bool) (b : List Token) (lb : Left) (x : Fault) → AreTokens src b lb → walk base b ≡ halt x → Cut src base x
cut src base [] lb x h e = absurd (not_ok x _ (sym e))
cut src base (t ∷ b) lb x (mid, span, p, i, q) e = by_result (walk base b) refl e (λ y k. cut src base b mid y p k)
  where
    by_result : (r : Step) → walk base b ≡ r → step_on t r ≡ halt x → ((y : Fault) → walk base b ≡ halt y → Cut src base y) → Cut src base x
    by_result (Ok s) k e earlier = record { seen = b; span = span; stop = record { left = mid; next = lb; s = s; tokens = p; walk_is = k; is = i; stops = ap (λ z. step s z) (sym q) ∙ e } }
    by_result (Err y) k e earlier = earlier x (k ∙ e)

pub one_script : HasOneScript
one_script src base a b none p q = by_result (walk base (spell_pieces p.ps)) refl
  where
    by_result : (r : Step) → walk base (spell_pieces p.ps) ≡ r → a ≡ b
    by_result (Ok s) e =
        sym (only src base (spell_pieces p.ps) p.is_whole.left s p.is_whole.tokens e p.is_whole.none a p) ∙ only src base (spell_pieces p.ps) p.is_whole.left s p.is_whole.tokens e p.is_whole.none b q
    by_result (Err x) e =
        let c : Cut src base x = cut src base (spell_pieces p.ps) p.is_whole.left x p.is_whole.tokens e in
        absurd (none x.rule x.at (first_token src base c.seen c.span x c.stop).broken)
