-- The fault of a walk that stops is the first.
use Rattle.std.proofs.Common.{◌≡◌, ◌<◌, ◌≤◌, ℕ, ◌+◌, Bool, true, List, [], ◌∷◌, ◌++◌, Option, Some, None, Result, Ok, Err, refl, sym, ap, subst, ◌∙◌, arith, inl, inr, length, length-append}
use Rattle.std.specs.Prelude.{◌⊎◌}
use Rattle.std.proofs.lemmas.Bool.{cases_order}
use Rattle.dts_lex.specs.Left.{Left}
use Rattle.dts_lex.specs.Slices.{IsSlice}
use Rattle.dts_lex.specs.Tokens.{next_of}
use Rattle.dts_lex.specs.declared.lexer.LexFault.{LexFault}
use Rattle.dts_lex.specs.declared.lexer.Span.{Span}
use Rattle.dts_lex.proofs.SliceLaws.{are_faults_within, are_slices}
use Rattle.dts_parse.specs.Exprs.{literal_terminal, spell}
use Rattle.dts_parse.specs.Fronts.{Front, At_site, In_list, Listed, expression, in_expression, is_opening, nested, spell_front, spell_listed}
use Rattle.dts_parse.specs.Inner.Machine.{Fault, Shape, Step, in_rounds, step, stop, taken, walk}
use Rattle.dts_parse.specs.Token.{is_include}
use Rattle.dts_parse.specs.Source.{AreTokens, IsBroken, IsFirst, IsS1, IsS2, IsS5, IsS6, IsTooMuch, NoneTakes, token_of}
use Rattle.dts_parse.specs.Token.{Token, token}
use Rattle.dts_parse.specs.Values.{Element, Lone, Group, Refer, element_place, spell_element}
use Rattle.dts_parse.specs.declared.mode.Breach.{Breach}
use Rattle.dts_parse.specs.declared.mode.Breach.TheVariants.{S1, S2, S5, S6}
use Rattle.dts_parse.specs.declared.terminal.Terminal.TheVariants as terminal
use Rattle.dts_parse.specs.declared.terminal.Width.{Width}
use Rattle.dts_parse.proofs.Elements.{Behind, init, inner_stops, last_token, misfit_ends, misfit_not_ok, parts_are, spell_behind}
use Rattle.dts_parse.proofs.Kept.{kept}
use Rattle.dts_parse.proofs.Leading.{IsOther}
use Rattle.dts_parse.proofs.Order.{Same, Shorter, Longer, Follows, Places, Prefix, compare, follows, left_same, next_token, places, prefix, token_same}
use Rattle.dts_parse.proofs.Sound.{Grown, Misfit, Sound, SoundFault, with_element}
use Rattle.dts_parse.proofs.Steps.{By_include, By_depth, By_length, By_length_misfit, By_token, Reached, Stopped, Walked, depth_is, err_prefix, front_after, grows, halt, if_then, is_token, leads_err, long_is, much_stops, not_ok, ok_prefix, reach, rounds_is, sound_at, stopped, walk_on, walked}

-- ---- where other tokens stand

pub data Where (src : List ℕ) (base : Bool) (seen : List Token) (b : List Token) : Type 0 where
  Inside : (t : Token) (s : Shape) (after : Left) → walk base (t ∷ b) ≡ Ok s → AreTokens src (t ∷ b) after → Where src base seen b
  There : seen ≡ b → Where src base seen b
  Beyond : (y : Token) (ext : List Token) → b ≡ ext ++ y ∷ seen → Where src base seen b

pub position : (src : List ℕ) (base : Bool) (seen : List Token) (left : Left) (s : Shape) → AreTokens src seen left → walk base seen ≡ Ok s
    → (b : List Token) (lb : Left) → AreTokens src b lb → Where src base seen b
position src base seen left s ha w b lb hb =
    elim (compare src b seen lb left hb ha) [
      | Same e ↦ There e
      | Shorter r ↦ (let k : (x : Shape) × (walk base (r.t ∷ b) ≡ Ok x) = ok_prefix base r.ext (r.t ∷ b) s (ap (λ ts. walk base ts) (sym r.parts) ∙ w) in
          let p : Prefix src (r.t ∷ b) left = prefix src r.ext (r.t ∷ b) left (subst (λ (z : List Token). AreTokens src z left) r.parts ha) in
          Inside r.t k.0 p.left k.1 p.tokens)
      | Longer r ↦ Beyond r.t r.ext r.parts
    ]

-- the next token after them
pub record Next (src : List ℕ) (lb : Left) (t : Token) (after : Left) : Type 0 where
  pub span : Span
  pub is : next_of lb ≡ Ok (Some (span, after))
  pub token_is : t ≡ token_of src span

pub next_is : (src : List ℕ) (b : List Token) (lb : Left) (t : Token) (after : Left) → AreTokens src b lb → AreTokens src (t ∷ b) after → Next src lb t after
next_is src b lb t after hb h =
    let f : Follows src b t after = follows src b t after h in
    record { span = f.span; is = subst (λ (l : Left). next_of l ≡ Ok (Some (f.span, after))) (left_same src b f.left lb f.tokens hb) f.is; token_is = f.token_is }

pub within_source : (src : List ℕ) (b : List Token) (l : Left) → AreTokens src b l → l.at + length l.bytes ≡ length src
within_source src [] l h = let P : Left → Type 0 = λ x. x.at + length x.bytes ≡ length src in subst P (sym h) (omega arith)
within_source src (t ∷ b) l (mid, span, p, e, q) =
    let i : mid.at + length mid.bytes ≡ length src = within_source src b mid p in
    let k : IsSlice mid span l = are_slices mid l span e in
    let n : length mid.bytes ≡ length (k.between ++ (k.text ++ l.bytes)) = ap (λ (ys : List ℕ). length ys) k.parts in
    omega (arith, length-append k.between (k.text ++ l.bytes), length-append k.text l.bytes, k.begins, k.ends, k.goes_on)

-- ---- what stands inside of what is walked over breaks no rule

takes_along : (src : List ℕ) (base : Bool) (b : List Token) (at : ℕ) (r r' : Result (Option (Span × Left)) LexFault) → r ≡ r' → NoneTakes src base b at r → NoneTakes src base b at r'
takes_along src base b at r r' e h = let P : Result (Option (Span × Left)) LexFault → Type 0 = λ x. NoneTakes src base b at x in subst P e h

s1_not_inside : (src : List ℕ) (base : Bool) (at : ℕ) (o : IsS1 src base at) (t : Token) (s : Shape) (after : Left) → walk base (t ∷ spell_front o.front) ≡ Ok s → AreTokens src (t ∷ spell_front o.front) after → ⊥
s1_not_inside src base at o t s after w h =
    let n : Next src o.left t after = next_is src (spell_front o.front) o.left t after o.tokens h in
    let none = takes_along src base (spell_front o.front) at (next_of o.left) (Ok (Some (n.span, after))) n.is o.none in
    let r : Reached base (t ∷ spell_front o.front) s = reach src base (t ∷ spell_front o.front) after s h w in
    none.1 r.f (r.spells ∙ ap (λ x. x ∷ spell_front o.front) n.token_is)

s2_not_ok : (src : List ℕ) (base : Bool) (at : ℕ) (o : IsS2 src base at) (s : Shape) → walk base (token_of src o.span ∷ spell_front o.front) ≡ Ok s → ⊥
s2_not_ok src base at o s w =
    let k : Walked base (spell_front o.front) (token_of src o.span) s = walked base (spell_front o.front) (token_of src o.span) s w in
    not_ok _ s (sym (much_stops base o.front (token_of src o.span) k.mid o.much k.before) ∙ k.last)

s2_not_inside : (src : List ℕ) (base : Bool) (at : ℕ) (o : IsS2 src base at) (t : Token) (s : Shape) (after : Left) → walk base (t ∷ spell_front o.front) ≡ Ok s → AreTokens src (t ∷ spell_front o.front) after → ⊥
s2_not_inside src base at o t s after w h =
    let e : (t ≡ token_of src o.span) × (after ≡ o.next) = token_same src (spell_front o.front) t o.left after o.next o.span h o.tokens o.is in
    s2_not_ok src base at o s (ap (λ x. walk base (x ∷ spell_front o.front)) (sym e.0) ∙ w)

include_stops : (s : Shape) (t : Token) → is_include t.terminal ≡ true → step s t ≡ stop S6 t.spot
include_stops s t i = if_then (is_include t.terminal) _ _ i

s6_not_inside : (src : List ℕ) (base : Bool) (at : ℕ) (o : IsS6 src at) (t : Token) (s : Shape) (after : Left) → walk base (t ∷ o.before) ≡ Ok s → AreTokens src (t ∷ o.before) after → ⊥
s6_not_inside src base at o t s after w h =
    let e : (t ≡ token_of src o.span) × (after ≡ o.next) = token_same src o.before t o.left after o.next o.span h o.tokens o.is in
    let k : Walked base o.before t s = walked base o.before t s w in
    let i : is_include t.terminal ≡ true = (let F : Token → Bool = λ x. is_include x.terminal in ap F e.0) ∙ o.include in
    not_ok _ s (sym (include_stops k.mid t i) ∙ k.last)

-- ---- places of other rules

none_place : (src : List ℕ) (base : Bool) (b : List Token) (at : ℕ) (l : Left) (r : Result (Option (Span × Left)) LexFault) → next_of l ≡ r → l.at ≤ length src → NoneTakes src base b at r → l.at ≤ at
none_place src base b at l (Err f) e m h = let k : (l.at ≤ f.at) × (f.at < l.at + length l.bytes) = are_faults_within l f e in subst (λ (n : ℕ). l.at ≤ n) (sym h) k.0
none_place src base b at l (Ok None) e m h = subst (λ (n : ℕ). l.at ≤ n) (sym h.0) m
none_place src base b at l (Ok (Some next)) e m h = let k : Places l next.0 next.1 = places l next.1 next.0 e in subst (λ (n : ℕ). l.at ≤ n) (sym h.0) k.from

s1_place : (src : List ℕ) (base : Bool) (at : ℕ) (o : IsS1 src base at) → o.left.at ≤ at
s1_place src base at o =
    let k : o.left.at + length o.left.bytes ≡ length src = within_source src (spell_front o.front) o.left o.tokens in
    none_place src base (spell_front o.front) at o.left (next_of o.left) refl (omega arith) o.none

-- tokens beyond a token that is there: the token, and what is left after it is not after them
pub record Passed (src : List ℕ) (seen : List Token) (y t : Token) (next lb : Left) : Type 0 where
  pub same : y ≡ t
  pub at : next.at ≤ lb.at

pub passed : (src : List ℕ) (seen b ext : List Token) (y : Token) (left next lb : Left) (span : Span) → AreTokens src seen left → next_of left ≡ Ok (Some (span, next)) → AreTokens src b lb → b ≡ ext ++ y ∷ seen
    → Passed src seen y (token_of src span) next lb
passed src seen b ext y left next lb span ha e hb parts =
    let p : Prefix src (y ∷ seen) lb = prefix src ext (y ∷ seen) lb (subst (λ (z : List Token). AreTokens src z lb) parts hb) in
    let k : (y ≡ token_of src span) × (p.left ≡ next) = token_same src seen y left p.left next span p.tokens ha e in
    record { same = k.0; at = subst (λ (z : Left). z.at ≤ lb.at) k.1 p.at }

-- ---- an element that doesn't fit, from outside

s5_not_ok : (src : List ℕ) (base : Bool) (at : ℕ) (o : IsS5 src base at) (s : Shape) → walk base (spell_element o.e (spell_listed o.l)) ≡ Ok s → ⊥
s5_not_ok src base at o s w = misfit_not_ok base o.w o.l o.e s o.misfit w

-- ---- where no token is next

abbrev pub Order : ℕ → Breach → ℕ → Breach → Type 0
Order at rule other_at other = (at < other_at) ⊎ ((at ≡ other_at) × ((other ≡ rule) ⊎ (other ≡ S1)))

-- no token is next after these
abbrev pub NoNext : Left → Type 0
NoNext left = (span : Span) (next : Left) → next_of left ≡ Ok (Some (span, next)) → ⊥

pub beyond_next : (src : List ℕ) (seen b ext : List Token) (y : Token) (left lb : Left) → AreTokens src seen left → AreTokens src b lb → b ≡ ext ++ y ∷ seen → NoNext left → ⊥
beyond_next src seen b ext y left lb ha hb parts none =
    let p : Prefix src (y ∷ seen) lb = prefix src ext (y ∷ seen) lb (subst (λ (z : List Token). AreTokens src z lb) parts hb) in
    let n : Next src left y p.left = next_is src seen left y p.left ha p.tokens in
    none n.span p.left n.is

pub there_left : (src : List ℕ) (seen b : List Token) (left lb : Left) → AreTokens src seen left → AreTokens src b lb → seen ≡ b → left ≡ lb
there_left src seen b left lb ha hb e = left_same src b left lb (subst (λ (z : List Token). AreTokens src z left) e ha) hb

-- after the last token only S1 can stand, at what is there
pub others_none : (src : List ℕ) (base : Bool) (seen : List Token) (left : Left) (s : Shape) → AreTokens src seen left → walk base seen ≡ Ok s → NoNext left
    → (rule : Breach) (at : ℕ) → IsBroken src base rule at → (rule ≡ S1) × NoneTakes src base seen at (next_of left)
others_none src base seen left s ha w none S1 at o =
    elim (position src base seen left s ha w (spell_front o.front) o.left o.tokens) [
      | Inside t x after k h ↦ absurd (s1_not_inside src base at o t x after k h)
      | There e ↦ (let l : left ≡ o.left = there_left src seen (spell_front o.front) left o.left ha o.tokens e in
          let P : List Token → Type 0 = λ z. NoneTakes src base z at (next_of left) in
          let Q : Left → Type 0 = λ z. NoneTakes src base (spell_front o.front) at (next_of z) in
          (refl, subst P (sym e) (subst Q (sym l) o.none)))
      | Beyond y ext parts ↦ absurd (beyond_next src seen (spell_front o.front) ext y left o.left ha o.tokens parts none)
    ]
others_none src base seen left s ha w none S2 at o =
    elim (position src base seen left s ha w (spell_front o.front) o.left o.tokens) [
      | Inside t x after k h ↦ absurd (s2_not_inside src base at o t x after k h)
      | There e ↦ (let l : left ≡ o.left = there_left src seen (spell_front o.front) left o.left ha o.tokens e in
          absurd (none o.span o.next (subst (λ (z : Left). next_of z ≡ Ok (Some (o.span, o.next))) (sym l) o.is)))
      | Beyond y ext parts ↦ absurd (beyond_next src seen (spell_front o.front) ext y left o.left ha o.tokens parts none)
    ]
others_none src base seen left s ha w none S6 at o =
    elim (position src base seen left s ha w o.before o.left o.tokens) [
      | Inside t x after k h ↦ absurd (s6_not_inside src base at o t x after k h)
      | There e ↦ (let l : left ≡ o.left = there_left src seen o.before left o.left ha o.tokens e in
          absurd (none o.span o.next (subst (λ (z : Left). next_of z ≡ Ok (Some (o.span, o.next))) (sym l) o.is)))
      | Beyond y ext parts ↦ absurd (beyond_next src seen o.before ext y left o.left ha o.tokens parts none)
    ]
others_none src base seen left s ha w none S5 at o =
    elim (position src base seen left s ha w (spell_element o.e (spell_listed o.l)) o.left o.tokens) [
      | Inside t x after k h ↦ (let p : (x : Shape) × (walk base (spell_element o.e (spell_listed o.l)) ≡ Ok x) = ok_prefix base (t ∷ []) (spell_element o.e (spell_listed o.l)) x k in absurd (s5_not_ok src base at o p.0 p.1))
      | There e ↦ absurd (s5_not_ok src base at o s (ap (λ ts. walk base ts) (sym e) ∙ w))
      | Beyond y ext parts ↦ absurd (beyond_next src seen (spell_element o.e (spell_listed o.l)) ext y left o.left ha o.tokens parts none)
    ]

-- ---- where a token is next, and the walk stops at it

-- what stands at the stop
pub record Blamed (src : List ℕ) (base : Bool) (span : Span) (x : Fault) : Type 0 where
  pub broken : IsBroken src base x.rule x.at
  pub most : x.at ≤ span.start
  pub limit : x.rule ≡ S2 → x.at ≡ span.start

blamed_along : (src : List ℕ) (base : Bool) (span : Span) (x y : Fault) → x ≡ y → Blamed src base span y → Blamed src base span x
blamed_along src base span x y e h = let P : Fault → Type 0 = λ z. Blamed src base span z in subst P (sym e) h

-- where the walk stops
pub record Stop (src : List ℕ) (base : Bool) (seen : List Token) (span : Span) (x : Fault) : Type 0 where
  pub left : Left
  pub next : Left
  pub s : Shape
  pub tokens : AreTokens src seen left
  pub walk_is : walk base seen ≡ Ok s
  pub is : next_of left ≡ Ok (Some (span, next))
  pub stops : step s (token_of src span) ≡ halt x

stop_walk : (src : List ℕ) (base : Bool) (seen : List Token) (span : Span) (x : Fault) (p : Stop src base seen span x) → walk base (token_of src span ∷ seen) ≡ halt x
stop_walk src base seen span x p = walk_on base seen p.s (token_of src span) p.walk_is ∙ p.stops

-- the front of what is walked over, with its tokens
pub record Stands (src : List ℕ) (base : Bool) (seen : List Token) (span : Span) (x : Fault) (p : Stop src base seen span x) : Type 0 where
  pub f : Front base
  pub spells : spell_front f ≡ seen
  pub keeps : kept f ≡ p.s
  pub tokens : AreTokens src (spell_front f) p.left
  pub sound : Sound base f (token_of src span) (taken p.s (token_of src span).spot (token_of src span).terminal)

stands : (src : List ℕ) (base : Bool) (seen : List Token) (span : Span) (x : Fault) (p : Stop src base seen span x) → Stands src base seen span x p
stands src base seen span x p =
    let r : Reached base seen p.s = reach src base seen p.left p.s p.tokens p.walk_is in
    record {
      f = r.f;
      spells = r.spells;
      keeps = r.keeps;
      tokens = subst (λ (z : List Token). AreTokens src z p.left) (sym r.spells) p.tokens;
      sound = sound_at base r.f p.s (token_of src span) r.sharp r.keeps (is_token src span (token_of src span) refl);
    }

much_blame : (src : List ℕ) (base : Bool) (seen : List Token) (span : Span) (x : Fault) (p : Stop src base seen span x) (k : Stands src base seen span x p)
    → IsTooMuch base k.f (token_of src span) → Blamed src base span (record { rule = S2; at = span.start })
much_blame src base seen span x p k much =
    record { broken = record { front = k.f; left = p.left; span = span; next = p.next; tokens = k.tokens; is = p.is; place_is = refl; much = much }; most = omega arith; limit = λ _. refl }

-- an element ends there that doesn't fit: every S2 before its end stands before it
misfit_shallow : (src : List ℕ) (base : Bool) (seen : List Token) (span : Span) (x : Fault) (p : Stop src base seen span x) → x.rule ≡ S5 → (at other : ℕ) → IsS2 src base other → other < p.next.at → other < at
misfit_shallow src base seen span x p five at other o below =
    elim (position src base seen p.left p.s p.tokens p.walk_is (spell_front o.front) o.left o.tokens) [
      | Inside t y after k h ↦ absurd (s2_not_inside src base other o t y after k h)
      | There e ↦ (let l : p.left ≡ o.left = there_left src seen (spell_front o.front) p.left o.left p.tokens o.tokens e in
          let q : (token_of src span ≡ token_of src o.span) × (p.next ≡ o.next) =
          token_same src (spell_front o.front) (token_of src span) o.left p.next o.next o.span
          (subst (λ (z : List Token). AreTokens src (token_of src span ∷ z) p.next) e (next_token src seen p.left p.next span p.tokens p.is)) o.tokens o.is in
          let m : step p.s (token_of src o.span) ≡ stop S2 (token_of src o.span).spot = much_stops base o.front (token_of src o.span) p.s o.much (ap (λ ts. walk base ts) (sym e) ∙ p.walk_is) in
          let n : halt x ≡ stop S2 (token_of src o.span).spot = sym p.stops ∙ (ap (λ z. step p.s z) q.0 ∙ m) in
          absurd (five_not_two x (token_of src o.span).spot.at five n))
      | Beyond y ext parts ↦ (let q : Passed src seen y (token_of src span) p.next o.left = passed src seen (spell_front o.front) ext y p.left p.next o.left span p.tokens p.is o.tokens parts in
          let r : Places o.left o.span o.next = places o.left o.next o.span o.is in
          absurd (omega (arith, q.at, r.from, o.place_is)))
    ]
  where
    five_not_two : (x : Fault) (at : ℕ) → x.rule ≡ S5 → halt x ≡ halt (record { rule = S2; at = at }) → ⊥
    five_not_two x at e h = let k : x ≡ record { rule = S2; at = at } = cc in let r : x.rule ≡ S2 = ap (λ z. z.rule) k in cc

-- the place of an element is no later than its last token
element_most : (src : List ℕ) (base : Bool) (w : Width) (l : Listed base w) (e : Element w) (seen : List Token) (left next : Left) (span : Span)
    → AreTokens src seen left → next_of left ≡ Ok (Some (span, next)) → spell_element e (spell_listed l) ≡ token_of src span ∷ seen → element_place e ≤ span.start
element_most src base w (l) (Lone i p) seen left next span h e spells = let k : token (literal_terminal i) p ≡ token_of src span = cc in let n : p.at ≡ span.start = ap (λ z. z.spot.at) k in omega arith
element_most src base w l (Refer i p) seen left next span h e spells = let k : token terminal.Ref p ≡ token_of src span = cc in let n : p.at ≡ span.start = ap (λ z. z.spot.at) k in omega arith
element_most src base w l (Group b i is f) seen left next span h e spells =
    let rest : spell i (token terminal.LeftRound b ∷ spell_listed l) ≡ seen = cc in
    let d : Behind (spell i (token terminal.LeftRound b ∷ spell_listed l)) (token terminal.LeftRound b ∷ spell_listed l) = spell_behind i (token terminal.LeftRound b ∷ spell_listed l) in
    let p : Prefix src (token terminal.LeftRound b ∷ spell_listed l) left = prefix src d.ext (token terminal.LeftRound b ∷ spell_listed l) left (subst (λ (z : List Token). AreTokens src z left) (sym rest ∙ d.parts) h) in
    let f : Follows src (spell_listed l) (token terminal.LeftRound b) p.left = follows src (spell_listed l) (token terminal.LeftRound b) p.left p.tokens in
    let q : Places f.left f.span p.left = places f.left p.left f.span f.is in
    let n : b.at ≡ f.span.start = ap (λ z. z.spot.at) f.token_is in
    let r : Places left span next = places left next span e in
    omega (arith, p.at, q.to, n, r.from)

misfit_blame : (src : List ℕ) (base : Bool) (seen : List Token) (span : Span) (x : Fault) (p : Stop src base seen span x) (k : Stands src base seen span x p) (rule : x.rule ≡ S5)
    → Misfit base k.f (token_of src span) x.at → Blamed src base span (record { rule = S5; at = x.at })
misfit_blame src base seen span x p k rule m =
    let spells : spell_element m.e (spell_listed m.l) ≡ token_of src span ∷ seen = m.spells ∙ ap (λ ts. token_of src span ∷ ts) k.spells in
    record {
      broken = record {
        w = m.w;
        l = m.l;
        e = m.e;
        left = p.next;
        tokens = subst (λ (z : List Token). AreTokens src z p.next) (sym spells) (next_token src seen p.left p.next span p.tokens p.is);
        place_is = sym m.place_is;
        misfit = m.is;
        shallow = misfit_shallow src base seen span x p rule x.at;
      };
      most = subst (λ (n : ℕ). n ≤ span.start) m.place_is (element_most src base m.w m.l m.e seen p.left p.next span p.tokens p.is spells);
      limit = λ e. cc;
    }

-- no front takes a token at which S1 stands
none_takes : (src : List ℕ) (base : Bool) (seen : List Token) (span : Span) (x : Fault) (p : Stop src base seen span x) → x.rule ≡ S1 → (g : Front base) → spell_front g ≡ token_of src span ∷ seen → ⊥
none_takes src base seen span x p one g e =
    let h : IsOther true x.rule = leads_err true (walk base (token_of src span ∷ seen)) x (kept g) (front_after base g (token_of src span ∷ seen) e) (stop_walk src base seen span x p) in
    let P : Breach → Type 0 = λ r. IsOther true r in subst P one h

token_blame : (src : List ℕ) (base : Bool) (seen : List Token) (span : Span) (x : Fault) (p : Stop src base seen span x) (k : Stands src base seen span x p) (rule : Breach) → x.rule ≡ rule
    → SoundFault base k.f (token_of src span) rule x.at → Blamed src base span (record { rule = rule; at = x.at })
token_blame src base seen span x p k S1 one h =
    let none : NoneTakes src base (spell_front k.f) x.at (Ok (Some (span, p.next))) = (h, λ g e. none_takes src base seen span x p one g (e ∙ ap (λ ts. token_of src span ∷ ts) k.spells)) in
    record {
      broken = record { front = k.f; left = p.left; tokens = k.tokens; none = takes_along src base (spell_front k.f) x.at (Ok (Some (span, p.next))) (next_of p.left) (sym p.is) none };
      most = omega (arith, h);
      limit = λ e. cc;
    }
token_blame src base seen span x p k S2 two h = absurd h
token_blame src base seen span x p k S5 five h = misfit_blame src base seen span x p k five h
token_blame src base seen span x p k S6 six h = absurd h

misfit_front : (base : Bool) (f : Front base) (t : Token) (at : ℕ) → Misfit base f t at → (g : Front base) × (spell_front g ≡ t ∷ spell_front f)
misfit_front base f t at m = (At_site (In_list m.w (with_element m.w m.l m.e)), m.spells)

length_front : (base : Bool) (f : Front base) (t : Token) (y : Fault) (rule : Breach) → y.rule ≡ rule → (y.rule ≡ S1 → ⊥) → SoundFault base f t rule y.at → (g : Front base) × (spell_front g ≡ t ∷ spell_front f)
length_front base f t y S1 e n h = absurd (n e)
length_front base f t y S2 e n h = absurd h
length_front base f t y S5 e n h = misfit_front base f t y.at h
length_front base f t y S6 e n h = absurd h

sound_err : (base : Bool) (f : Front base) (t : Token) (r : Step) (y : Fault) → Sound base f t r → r ≡ halt y → SoundFault base f t y.rule y.at
sound_err base f t r y h e = let P : Step → Type 0 = λ z. Sound base f t z in subst P e h

fault_is : (x : Fault) → record { rule = x.rule; at = x.at } ≡ x
fault_is x = refl

blame_at : (src : List ℕ) (base : Bool) (seen : List Token) (span : Span) (x : Fault) (p : Stop src base seen span x) (k : Stands src base seen span x p) → Stopped p.s (token_of src span) x → Blamed src base span x
blame_at src base seen span x p k (By_include i e) =
    blamed_along src base span x _ e (record { broken = record { before = seen; left = p.left; span = span; next = p.next; tokens = p.tokens; is = p.is; place_is = refl; include = i }; most = omega arith; limit = λ z. refl })
blame_at src base seen span x p k (By_depth o d e) =
    let open_is : is_opening (in_expression k.f) (token_of src span).terminal ≡ true =
    ap (λ b. is_opening b (token_of src span).terminal) (sym (rounds_is base k.f)) ∙ ((let F : Shape → Bool = λ z. is_opening (in_rounds z.mode) (token_of src span).terminal in ap F k.keeps) ∙ o) in
    let depth : p.s.depth ≡ nested k.f = (let F : Shape → ℕ = λ z. z.depth in ap F (sym k.keeps)) ∙ depth_is base k.f in
    blamed_along src base span x _ e (much_blame src base seen span x p k (inl (open_is, subst (λ (n : ℕ). 64 ≤ n) depth d)))
blame_at src base seen span x p k (By_length l to h e) =
    let long : p.s.long ≡ expression k.f = (let F : Shape → ℕ = λ z. z.long in ap F (sym k.keeps)) ∙ long_is base k.f in
    let g : Grown base k.f (token_of src span) to = grows base k.f (token_of src span) (taken p.s (token_of src span).spot (token_of src span).terminal) to k.sound h in
    blamed_along src base span x _ e (much_blame src base seen span x p k (inr (subst (λ (n : ℕ). 4096 ≤ n) long l, (g.g, g.spells))))
blame_at src base seen span x p k (By_length_misfit l y h n e) =
    let long : p.s.long ≡ expression k.f = (let F : Shape → ℕ = λ z. z.long in ap F (sym k.keeps)) ∙ long_is base k.f in
    let g : (g : Front base) × (spell_front g ≡ token_of src span ∷ spell_front k.f) =
    length_front base k.f (token_of src span) y y.rule refl n (sound_err base k.f (token_of src span) (taken p.s (token_of src span).spot (token_of src span).terminal) y k.sound h) in
    blamed_along src base span x _ e (much_blame src base seen span x p k (inr (subst (λ (n : ℕ). 4096 ≤ n) long l, g)))
blame_at src base seen span x p k (By_token h) =
    token_blame src base seen span x p k x.rule refl (sound_err base k.f (token_of src span) (taken p.s (token_of src span).spot (token_of src span).terminal) x k.sound h)

pub blame : (src : List ℕ) (base : Bool) (seen : List Token) (span : Span) (x : Fault) (p : Stop src base seen span x) → Blamed src base span x
blame src base seen span x p = blame_at src base seen span x p (stands src base seen span x p) (stopped p.s (token_of src span) x p.stops)

-- ---- nothing stands before it

at_most : (a b : ℕ) → a ≤ b → (a < b) ⊎ (a ≡ b)
at_most a b h = elim (cases_order a b) [ inl e ↦ inr e | inr r ↦ elim r [ inl l ↦ inl l | inr g ↦ absurd (omega arith) ] ]

order_last : (a b : ℕ) (rule : Breach) → a ≤ b → Order a rule b S1
order_last a b rule h = elim (at_most a b h) [ inl l ↦ inl l | inr e ↦ inr (e, inr refl) ]

order_same : (a b : ℕ) (rule other : Breach) → a ≡ b → other ≡ rule → Order a rule b other
order_same a b rule other e f = inr (e, inl f)

fault_parts : (x : Fault) (rule : Breach) (at : ℕ) → halt x ≡ halt (record { rule = rule; at = at }) → (x.rule ≡ rule) × (x.at ≡ at)
fault_parts x rule at e = let k : x ≡ record { rule = rule; at = at } = cc in (ap (λ z. z.rule) k, ap (λ z. z.at) k)

least_one : (src : List ℕ) (base : Bool) (seen : List Token) (span : Span) (x : Fault) (p : Stop src base seen span x) (at : ℕ) (o : IsS1 src base at) → Order x.at x.rule at S1
least_one src base seen span x p at o =
    let b : Blamed src base span x = blame src base seen span x p in
    elim (position src base seen p.left p.s p.tokens p.walk_is (spell_front o.front) o.left o.tokens) [
      | Inside t s after k h ↦ absurd (s1_not_inside src base at o t s after k h)
      | There e ↦ (let l : p.left ≡ o.left = there_left src seen (spell_front o.front) p.left o.left p.tokens o.tokens e in
          let n = takes_along src base (spell_front o.front) at (next_of o.left) (Ok (Some (span, p.next))) (subst (λ (z : Left). next_of z ≡ Ok (Some (span, p.next))) l p.is) o.none in
          order_last x.at at x.rule (let m : x.at ≤ span.start = b.most in omega (arith, n.0, m)))
      | Beyond y ext parts ↦ (let q : Passed src seen y (token_of src span) p.next o.left = passed src seen (spell_front o.front) ext y p.left p.next o.left span p.tokens p.is o.tokens parts in
          let r : Places p.left span p.next = places p.left p.next span p.is in
          order_last x.at at x.rule (omega (arith, b.most, q.at, r.to, s1_place src base at o)))
    ]

least_two : (src : List ℕ) (base : Bool) (seen : List Token) (span : Span) (x : Fault) (p : Stop src base seen span x) (at : ℕ) (o : IsS2 src base at) → Order x.at x.rule at S2
least_two src base seen span x p at o =
    let b : Blamed src base span x = blame src base seen span x p in
    elim (position src base seen p.left p.s p.tokens p.walk_is (spell_front o.front) o.left o.tokens) [
      | Inside t s after k h ↦ absurd (s2_not_inside src base at o t s after k h)
      | There e ↦ (let l : p.left ≡ o.left = there_left src seen (spell_front o.front) p.left o.left p.tokens o.tokens e in
          let q : (token_of src span ≡ token_of src o.span) × (p.next ≡ o.next) =
          token_same src (spell_front o.front) (token_of src span) o.left p.next o.next o.span
          (subst (λ (z : List Token). AreTokens src (token_of src span ∷ z) p.next) e (next_token src seen p.left p.next span p.tokens p.is)) o.tokens o.is in
          let m : step p.s (token_of src o.span) ≡ stop S2 (token_of src o.span).spot = much_stops base o.front (token_of src o.span) p.s o.much (ap (λ ts. walk base ts) (sym e) ∙ p.walk_is) in
          let n : (x.rule ≡ S2) × (x.at ≡ o.span.start) = fault_parts x S2 o.span.start (sym p.stops ∙ (ap (λ z. step p.s z) q.0 ∙ m)) in
          order_same x.at at x.rule S2 (n.1 ∙ sym o.place_is) (sym n.0))
      | Beyond y ext parts ↦ (let q : Passed src seen y (token_of src span) p.next o.left = passed src seen (spell_front o.front) ext y p.left p.next o.left span p.tokens p.is o.tokens parts in
          let r : Places p.left span p.next = places p.left p.next span p.is in
          let t : Places o.left o.span o.next = places o.left o.next o.span o.is in
          inl (omega (arith, b.most, q.at, r.to, t.from, o.place_is)))
    ]

least_six : (src : List ℕ) (base : Bool) (seen : List Token) (span : Span) (x : Fault) (p : Stop src base seen span x) (at : ℕ) (o : IsS6 src at) → Order x.at x.rule at S6
least_six src base seen span x p at o =
    let b : Blamed src base span x = blame src base seen span x p in
    elim (position src base seen p.left p.s p.tokens p.walk_is o.before o.left o.tokens) [
      | Inside t s after k h ↦ absurd (s6_not_inside src base at o t s after k h)
      | There e ↦ (let q : (token_of src span ≡ token_of src o.span) × (p.next ≡ o.next) =
          token_same src o.before (token_of src span) o.left p.next o.next o.span
          (subst (λ (z : List Token). AreTokens src (token_of src span ∷ z) p.next) e (next_token src seen p.left p.next span p.tokens p.is)) o.tokens o.is in
          let n : (x.rule ≡ S6) × (x.at ≡ o.span.start) = fault_parts x S6 o.span.start (sym p.stops ∙ (ap (λ z. step p.s z) q.0 ∙ include_stops p.s (token_of src o.span) o.include)) in
          order_same x.at at x.rule S6 (n.1 ∙ sym o.place_is) (sym n.0))
      | Beyond y ext parts ↦ (let q : Passed src seen y (token_of src span) p.next o.left = passed src seen o.before ext y p.left p.next o.left span p.tokens p.is o.tokens parts in
          let r : Places p.left span p.next = places p.left p.next span p.is in
          let t : Places o.left o.span o.next = places o.left o.next o.span o.is in
          inl (omega (arith, b.most, q.at, r.to, t.from, o.place_is)))
    ]

-- a limit that is passed in an element stands before it
limit_before : (src : List ℕ) (base : Bool) (seen : List Token) (span : Span) (x : Fault) (p : Stop src base seen span x) (at : ℕ) (o : IsS5 src base at) → x.rule ≡ S2 → p.next.at ≤ o.left.at → x.at < at
limit_before src base seen span x p at o two far =
    let b : Blamed src base span x = blame src base seen span x p in
    let r : Places p.left span p.next = places p.left p.next span p.is in
    let broken : IsS2 src base x.at = (let P : Breach → Type 0 = λ z. IsBroken src base z x.at in subst P two b.broken) in
    o.shallow x.at broken (omega (arith, b.limit two, r.to, far))

-- the element ends with the token at the stop
least_five_end : (src : List ℕ) (base : Bool) (seen : List Token) (span : Span) (x : Fault) (p : Stop src base seen span x) (at : ℕ) (o : IsS5 src base at)
    → last_token o.e ≡ token_of src span → init o.e (spell_listed o.l) ≡ seen → p.next.at ≤ o.left.at → Order x.at x.rule at S5
least_five_end src base seen span x p at o last before far =
    elim (misfit_ends base o.w o.l o.e p.s o.misfit (ap (λ ts. walk base ts) before ∙ p.walk_is)) [
      | inl e ↦ (let n : (x.rule ≡ S5) × (x.at ≡ element_place o.e) = fault_parts x S5 (element_place o.e) (sym p.stops ∙ (ap (λ z. step p.s z) (sym last) ∙ e)) in
          order_same x.at at x.rule S5 (n.1 ∙ sym o.place_is) (sym n.0))
      | inr e ↦ (let n : (x.rule ≡ S2) × (x.at ≡ (last_token o.e).spot.at) = fault_parts x S2 (last_token o.e).spot.at (sym p.stops ∙ (ap (λ z. step p.s z) (sym last) ∙ e)) in
          inl (limit_before src base seen span x p at o n.0 far))
    ]

-- the token at the stop stands before the element's last one
least_five_inner : (src : List ℕ) (base : Bool) (seen : List Token) (span : Span) (x : Fault) (p : Stop src base seen span x) (at : ℕ) (w : Width) (l : Listed base w) (e : Element w) (o : IsS5 src base at) (mid after : Left) (span' : Span) (ext : List Token)
    → AreTokens src (init e (spell_listed l)) mid → next_of mid ≡ Ok (Some (span', after)) → last_token e ≡ token_of src span' → at ≡ element_place e
    → init e (spell_listed l) ≡ ext ++ token_of src span ∷ seen → p.next.at ≤ mid.at → p.next.at ≤ o.left.at → Order x.at x.rule at S5
least_five_inner src base seen span x p at w l (Lone i q) o mid after span' ext h is last place_is parts far end =
    let b : Blamed src base span x = blame src base seen span x p in
    let r : Places p.left span p.next = places p.left p.next span p.is in
    let t : Places mid span' after = places mid after span' is in
    let n : q.at ≡ span'.start = ap (λ z. z.spot.at) last in
    inl (omega (arith, b.most, r.to, t.from, n, place_is, far))
least_five_inner src base seen span x p at w l (Refer i q) o mid after span' ext h is last place_is parts far end =
    let b : Blamed src base span x = blame src base seen span x p in
    let r : Places p.left span p.next = places p.left p.next span p.is in
    let t : Places mid span' after = places mid after span' is in
    let n : q.at ≡ span'.start = ap (λ z. z.spot.at) last in
    inl (omega (arith, b.most, r.to, t.from, n, place_is, far))
least_five_inner src base seen span x p at w l (Group g i is_ f) o mid after span' ext h is last place_is parts far end =
    let d : Behind (spell i (token terminal.LeftRound g ∷ spell_listed l)) (token terminal.LeftRound g ∷ spell_listed l) = spell_behind i (token terminal.LeftRound g ∷ spell_listed l) in
    let c : Prefix src (token terminal.LeftRound g ∷ spell_listed l) mid = prefix src d.ext (token terminal.LeftRound g ∷ spell_listed l) mid (subst (λ (z : List Token). AreTokens src z mid) d.parts h) in
    let v : Follows src (spell_listed l) (token terminal.LeftRound g) c.left = follows src (spell_listed l) (token terminal.LeftRound g) c.left c.tokens in
    let stopped_at : walk base (spell i (token terminal.LeftRound g ∷ spell_listed l)) ≡ halt x = ap (λ ts. walk base ts) parts ∙ err_prefix base ext (token_of src span ∷ seen) x (stop_walk src base seen span x p) in
    elim (position src base seen p.left p.s p.tokens p.walk_is (spell_listed l) v.left v.tokens) [
      | Inside t s next k h' ↦ (let m : (y : Shape) × (walk base (spell_listed l) ≡ Ok y) = ok_prefix base (t ∷ []) (spell_listed l) s k in
          inl (limit_before src base seen span x p at o (inner_stops base w l g i m.0 x is_ m.1 stopped_at) end))
      | There e ↦ inl (limit_before src base seen span x p at o (inner_stops base w l g i p.s x is_ (ap (λ ts. walk base ts) (sym e) ∙ p.walk_is) stopped_at) end)
      | Beyond y ext' parts' ↦ (let b : Blamed src base span x = blame src base seen span x p in
          let r : Places p.left span p.next = places p.left p.next span p.is in
          let q : Passed src seen y (token_of src span) p.next v.left = passed src seen (spell_listed l) ext' y p.left p.next v.left span p.tokens p.is v.tokens parts' in
          let t : Places v.left v.span c.left = places v.left c.left v.span v.is in
          let n : g.at ≡ v.span.start = ap (λ z. z.spot.at) v.token_is in
          inl (omega (arith, b.most, r.to, q.at, t.from, n, place_is)))
    ]

least_five : (src : List ℕ) (base : Bool) (seen : List Token) (span : Span) (x : Fault) (p : Stop src base seen span x) (at : ℕ) (o : IsS5 src base at) → Order x.at x.rule at S5
least_five src base seen span x p at o =
    elim (position src base seen p.left p.s p.tokens p.walk_is (spell_element o.e (spell_listed o.l)) o.left o.tokens) [
      | Inside t s after k h ↦ (let q : (y : Shape) × (walk base (spell_element o.e (spell_listed o.l)) ≡ Ok y) = ok_prefix base (t ∷ []) (spell_element o.e (spell_listed o.l)) s k in absurd (s5_not_ok src base at o q.0 q.1))
      | There e ↦ absurd (s5_not_ok src base at o p.s (ap (λ ts. walk base ts) (sym e) ∙ p.walk_is))
      | Beyond y ext parts ↦
          (let q : Passed src seen y (token_of src span) p.next o.left = passed src seen (spell_element o.e (spell_listed o.l)) ext y p.left p.next o.left span p.tokens p.is o.tokens parts in
          by_rest ext (sym (parts_are o.w o.e (spell_listed o.l)) ∙ (parts ∙ ap (λ z. ext ++ z ∷ seen) q.same)) q.at)
    ]
  where
    by_rest : (ext : List Token) → last_token o.e ∷ init o.e (spell_listed o.l) ≡ ext ++ token_of src span ∷ seen → p.next.at ≤ o.left.at → Order x.at x.rule at S5
    by_rest [] e far = let a : last_token o.e ≡ token_of src span = cc in let b : init o.e (spell_listed o.l) ≡ seen = cc in least_five_end src base seen span x p at o a b far
    by_rest (z ∷ ext) e far =
        let b : init o.e (spell_listed o.l) ≡ ext ++ token_of src span ∷ seen = cc in
        let h : AreTokens src (last_token o.e ∷ init o.e (spell_listed o.l)) o.left = subst (λ (z : List Token). AreTokens src z o.left) (parts_are o.w o.e (spell_listed o.l)) o.tokens in
        let v : Follows src (init o.e (spell_listed o.l)) (last_token o.e) o.left = follows src (init o.e (spell_listed o.l)) (last_token o.e) o.left h in
        let q : Passed src seen (token_of src span) (token_of src span) p.next v.left = passed src seen (init o.e (spell_listed o.l)) ext (token_of src span) p.left p.next v.left span p.tokens p.is v.tokens b in
        least_five_inner src base seen span x p at o.w o.l o.e o v.left o.left v.span ext v.tokens v.is v.token_is o.place_is b q.at far

-- the walk stops at a token: its fault is the first
pub first_token : (src : List ℕ) (base : Bool) (seen : List Token) (span : Span) (x : Fault) → Stop src base seen span x → IsFirst src base x.rule x.at
first_token src base seen span x p = record { broken = (blame src base seen span x p).broken; least = least }
  where
    least : (other : Breach) (place : ℕ) → IsBroken src base other place → Order x.at x.rule place other
    least S1 at o = least_one src base seen span x p at o
    least S2 at o = least_two src base seen span x p at o
    least S5 at o = least_five src base seen span x p at o
    least S6 at o = least_six src base seen span x p at o

-- ---- where the tokens end

same_place : (src : List ℕ) (base : Bool) (b : List Token) (at at' : ℕ) (r : Result (Option (Span × Left)) LexFault) → NoneTakes src base b at r → NoneTakes src base b at' r → at ≡ at'
same_place src base b at at' (Err f) h k = h ∙ sym k
same_place src base b at at' (Ok None) h k = h.0 ∙ sym k.0
same_place src base b at at' (Ok (Some next)) h k = h.0 ∙ sym k.0

-- no token is next, and no front or source ends here: S1 is the first
pub first_end : (src : List ℕ) (base : Bool) (seen : List Token) (left : Left) (s : Shape) (at : ℕ) → AreTokens src seen left → walk base seen ≡ Ok s → NoNext left → NoneTakes src base seen at (next_of left) → IsFirst src base S1 at
first_end src base seen left s at ha w none takes =
    let r : Reached base seen s = reach src base seen left s ha w in
    let P : List Token → Type 0 = λ z. NoneTakes src base z at (next_of left) in
    record {
      broken = record { front = r.f; left = left; tokens = subst (λ (z : List Token). AreTokens src z left) (sym r.spells) ha; none = subst P (sym r.spells) takes };
      least = λ other place_ o. (let k : (other ≡ S1) × NoneTakes src base seen place_ (next_of left) = others_none src base seen left s ha w none other place_ o in
          inr (same_place src base seen at place_ (next_of left) takes k.1, inl k.0));
    }
