-- A walk over an element that doesn't fit stops at its last token.
use Rattle.std.proofs.Common.{◌≡◌, ℕ, suc, Bool, true, false, ◌&&◌, List, [], ◌∷◌, ◌++◌, Option, Some, None, Ok, refl, sym, ap, subst, ◌∙◌, nat_le, inl, inr, append_assoc, if◌then◌else◌}
use Rattle.std.specs.Prelude.{◌⊎◌}
use Rattle.dts_parse.specs.Exprs.{Literal, Small, Large, Letter, Tree, Num, Round, Un, Bin, Cond, IsProper, count, large, literal_terminal, literal_worth, or_large, spell, worth_of}
use Rattle.dts_parse.specs.Fronts.{Listed, In_list, braces, is_opening, spell_listed}
use Rattle.dts_parse.specs.Inner.Machine.{Fault, Shape, Step, closed_round, in_rounds, limited, put, step, stop, taken, walk}
use Rattle.dts_parse.specs.Token.{is_include}
use Rattle.dts_parse.specs.Token.{Spot, Token, bin_terminal, token, un_terminal}
use Rattle.dts_parse.specs.Values.{Element, Lone, Group, Refer, element_place, is_misfit, misfits, spell_element}
use Rattle.dts_parse.specs.declared.mode.Breach.{Breach}
use Rattle.dts_parse.specs.declared.mode.Breach.TheVariants.{S1, S2, S5, S6}
use Rattle.dts_parse.specs.declared.terminal.Terminal.TheVariants as terminal
use Rattle.dts_parse.specs.declared.terminal.Width.{Width}
use Rattle.dts_parse.proofs.ExprReads.{closes, level_range, operand_at, operator_at, reads}
use Rattle.dts_parse.proofs.FrontReads.{reads_listed}
use Rattle.dts_parse.proofs.Kept.{kept_site, spine}
use Rattle.dts_parse.proofs.Leading.{IsOther, Leads, Reads, hop}
use Rattle.dts_parse.proofs.Steps.{halt, if_then, leads_err, leads_ok, not_ok, walked, Walked}

-- ---- what stands before the last token of an element

abbrev pub last_token : {w : Width} → Element w → Token
last_token (Lone l p) = token (literal_terminal l) p
last_token (Group begin e is finish) = token terminal.RightRound finish
last_token (Refer is p) = token terminal.Ref p

abbrev pub init : {w : Width} → Element w → List Token → List Token
init (Lone l p) before = before
init (Group begin e is finish) before = spell e (token terminal.LeftRound begin ∷ before)
init (Refer is p) before = before

pub parts_are : (w : Width) (e : Element w) (before : List Token) → spell_element e before ≡ last_token e ∷ init e before
parts_are w (Lone l p) before = refl
parts_are w (Group begin e is finish) before = refl
parts_are w (Refer is p) before = refl

-- ---- a token that ends an element that doesn't fit

put_stops : (w : Width) (huge : Bool) (n : Option ℕ) (at : ℕ) (s : Shape) → misfits w huge n ≡ true → put w huge n at s ≡ halt (record { rule = S5; at = at })
put_stops w huge n at s e = if_then (misfits w huge n) _ _ e

abbrev Ends : Step → ℕ → Spot → Type 0
Ends r at p = (r ≡ halt (record { rule = S5; at = at })) ⊎ (r ≡ stop S2 p)

step_ends : (s : Shape) (t : Token) (at : ℕ) → is_include t.terminal ≡ false → taken s t.spot t.terminal ≡ halt (record { rule = S5; at = at }) → Ends (step s t) at t.spot
step_ends s t at i e = by_include (is_include t.terminal) i
  where
    by_long : (b : Bool) → Ends (if b then limited t.spot (taken s t.spot t.terminal) else taken s t.spot t.terminal) at t.spot
    by_long true = inr (ap (λ r. limited t.spot r) e)
    by_long false = inl e

    by_deep : (b : Bool) → Ends (if b then stop S2 t.spot else if nat_le 4096 s.long then limited t.spot (taken s t.spot t.terminal) else taken s t.spot t.terminal) at t.spot
    by_deep true = inr refl
    by_deep false = by_long (nat_le 4096 s.long)

    by_include : (b : Bool) → b ≡ false → Ends (if b then stop S6 t.spot else if is_opening (in_rounds s.mode) t.terminal && nat_le 64 s.depth then stop S2 t.spot
        else if nat_le 4096 s.long then limited t.spot (taken s t.spot t.terminal) else taken s t.spot t.terminal) at t.spot
    by_include true h = cc
    by_include false h = by_deep (is_opening (in_rounds s.mode) t.terminal && nat_le 64 s.depth)

ends_at : (s s' : Shape) (t : Token) (at : ℕ) → s ≡ s' → Ends (step s' t) at t.spot → Ends (step s t) at t.spot
ends_at s s' t at e h = let P : Shape → Type 0 = λ x. Ends (step x t) at t.spot in subst P (sym e) h

lone_ends : (base : Bool) (w : Width) (l : Listed base w) (x : Literal) (p : Spot) → misfits w (or_large x false) (literal_worth x) ≡ true
    → Ends (step (kept_site (In_list w l)) (token (literal_terminal x) p)) p.at p
lone_ends base w l (Small n) p e = step_ends (kept_site (In_list w l)) (token (terminal.Number n) p) p.at refl (put_stops w false (Some n) p.at (kept_site (In_list w l)) e)
lone_ends base w l Large p e = step_ends (kept_site (In_list w l)) (token terminal.Huge p) p.at refl (put_stops w true None p.at (kept_site (In_list w l)) e)
lone_ends base w l (Letter n) p e = step_ends (kept_site (In_list w l)) (token (terminal.Char n) p) p.at refl (put_stops w false (Some n) p.at (kept_site (In_list w l)) e)

-- after the first bracket
abbrev opened_at : (base : Bool) (w : Width) → Listed base w → Spot → Shape
opened_at base w l b = record (kept_site (In_list w l)) { begin = b.at }

abbrev inner_at : (base : Bool) (w : Width) → Listed base w → Spot → Tree → Shape
inner_at base w l b e = operator_at (opened_at base w l b) w (suc (suc (braces l.top))) (large e false) (count e 1) (spine e [])

pub reads_inner : (q base : Bool) (w : Width) (l : Listed base w) (b : Spot) (e : Tree) → IsProper e → Reads q base (spell_listed l) (kept_site (In_list w l))
    → Reads q base (spell e (token terminal.LeftRound b ∷ spell_listed l)) (inner_at base w l b e)
reads_inner q base w l b e is h =
    let opened : Reads q base (token terminal.LeftRound b ∷ spell_listed l) (operand_at (opened_at base w l b) w (suc (suc (braces l.top))) false 1 []) = hop (token terminal.LeftRound b) h refl refl in
    reads q base e (opened_at base w l b) w (suc (suc (braces l.top))) false 1 [] (token terminal.LeftRound b ∷ spell_listed l) is (level_range e) opened

group_ends : (base : Bool) (w : Width) (l : Listed base w) (b : Spot) (e : Tree) (f : Spot) → IsProper e → misfits w (large e false) (worth_of e) ≡ true
    → Ends (step (inner_at base w l b e) (token terminal.RightRound f)) b.at f
group_ends base w l b e f is h =
    step_ends (inner_at base w l b e) (token terminal.RightRound f) b.at refl
    (ap (λ c. closed_round w (inner_at base w l b e) f c) (closes e 12 [] is (level_range e))
    ∙ put_stops w (large e false) (worth_of e) b.at (record (inner_at base w l b e) { depth = suc (braces l.top); begin = 0; long = 0; huge = false; frames = [] }) h)

pub misfit_ends : (base : Bool) (w : Width) (l : Listed base w) (e : Element w) (s : Shape) → is_misfit w e ≡ true → walk base (init e (spell_listed l)) ≡ Ok s
    → Ends (step s (last_token e)) (element_place e) (last_token e).spot
misfit_ends base w l (Lone x p) s bad h =
    ends_at s (kept_site (In_list w l)) (token (literal_terminal x) p) p.at (leads_ok true (walk base (spell_listed l)) s (kept_site (In_list w l)) (reads_listed base w l).is h) (lone_ends base w l x p bad)
misfit_ends base w l (Group b e is f) s bad h =
    ends_at s (inner_at base w l b e) (token terminal.RightRound f) b.at
    (leads_ok true (walk base (spell e (token terminal.LeftRound b ∷ spell_listed l))) s (inner_at base w l b e) (reads_inner true base w l b e is (reads_listed base w l)).is h)
    (group_ends base w l b e f is bad)
misfit_ends base w l (Refer is p) s bad h = cc

ends_not_ok : (r : Step) (at : ℕ) (p : Spot) (s : Shape) → Ends r at p → r ≡ Ok s → ⊥
ends_not_ok r at p s (inl e) h = not_ok _ s (sym e ∙ h)
ends_not_ok r at p s (inr e) h = not_ok _ s (sym e ∙ h)

pub misfit_not_ok : (base : Bool) (w : Width) (l : Listed base w) (e : Element w) (s : Shape) → is_misfit w e ≡ true → walk base (spell_element e (spell_listed l)) ≡ Ok s → ⊥
misfit_not_ok base w l e s bad h =
    let k : Walked base (init e (spell_listed l)) (last_token e) s = walked base (init e (spell_listed l)) (last_token e) s (ap (λ ts. walk base ts) (sym (parts_are w e (spell_listed l))) ∙ h) in
    ends_not_ok (step k.mid (last_token e)) (element_place e) (last_token e).spot s (misfit_ends base w l e k.mid bad k.before) k.last

-- within brackets a walk stops at a limit alone
pub inner_stops : (base : Bool) (w : Width) (l : Listed base w) (b : Spot) (e : Tree) (s : Shape) (x : Fault) → IsProper e → walk base (spell_listed l) ≡ Ok s
    → walk base (spell e (token terminal.LeftRound b ∷ spell_listed l)) ≡ halt x → x.rule ≡ S2
inner_stops base w l b e s x is h k =
    let same : s ≡ kept_site (In_list w l) = leads_ok true (walk base (spell_listed l)) s (kept_site (In_list w l)) (reads_listed base w l).is h in
    let start : Leads false (walk base (spell_listed l)) (kept_site (In_list w l)) = (let P : Step → Type 0 = λ r. Leads false r (kept_site (In_list w l)) in subst P (sym h) same) in
    let other : IsOther false x.rule = leads_err false (walk base (spell e (token terminal.LeftRound b ∷ spell_listed l))) x (inner_at base w l b e) (reads_inner false base w l b e is (record { is = start })).is k in
    by_rule x.rule other
  where
    by_rule : (rule : Breach) → IsOther false rule → rule ≡ S2
    by_rule S1 o = absurd o
    by_rule S2 o = refl
    by_rule S5 o = absurd o
    by_rule S6 o = absurd o

-- ---- what an expression spells stands after what was before

pub record Behind (a before : List Token) : Type 0 where
  pub ext : List Token
  pub parts : a ≡ ext ++ before

pub behind_on : (a b c : List Token) → Behind a b → Behind b c → Behind a c
behind_on a b c x y = record { ext = x.ext ++ y.ext; parts = x.parts ∙ (ap (λ ts. x.ext ++ ts) y.parts ∙ sym (append_assoc x.ext y.ext c)) }

pub behind_one : (t : Token) (b : List Token) → Behind (t ∷ b) b
behind_one t b = record { ext = t ∷ []; parts = refl }

pub spell_behind : (e : Tree) (before : List Token) → Behind (spell e before) before
spell_behind (Num l p) before = behind_one _ before
spell_behind (Round b e f) before =
    behind_on _ _ before (behind_one (token terminal.RightRound f) (spell e (token terminal.LeftRound b ∷ before)))
    (behind_on _ _ before (spell_behind e (token terminal.LeftRound b ∷ before)) (behind_one (token terminal.LeftRound b) before))
spell_behind (Un o p e) before = behind_on _ _ before (spell_behind e (token (un_terminal o) p ∷ before)) (behind_one (token (un_terminal o) p) before)
spell_behind (Bin l o p r) before =
    behind_on _ _ before (spell_behind r (token (bin_terminal o) p ∷ spell l before)) (behind_on _ _ before (behind_one (token (bin_terminal o) p) (spell l before)) (spell_behind l before))
spell_behind (Cond c q a k b) before =
    behind_on _ _ before (spell_behind b (token terminal.Colon k ∷ spell a (token terminal.Question q ∷ spell c before)))
    (behind_on _ _ before (behind_one (token terminal.Colon k) (spell a (token terminal.Question q ∷ spell c before)))
    (behind_on _ _ before (spell_behind a (token terminal.Question q ∷ spell c before)) (behind_on _ _ before (behind_one (token terminal.Question q) (spell c before)) (spell_behind c before))))
