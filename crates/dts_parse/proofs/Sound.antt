-- A token that is taken at a front leads to a front that spells it too.
use Rattle.std.proofs.Common.{◌≡◌, ◌≤◌, ℕ, suc, Bool, true, false, ◌&&◌, ◌||◌, List, [], ◌∷◌, ◌++◌, Option, Some, None, Ok, Err, refl, sym, ap, subst, ◌∙◌, arith, if◌then◌else◌}
use Rattle.std.proofs.lemmas.Bool.{and_parts}
use Rattle.std.specs.List.{list_all}
use Rattle.dts_parse.specs.Exprs.{Small, Large, Letter, Tree, Num, Round, Un, Bin, Cond, IsProper, Waiting, Start, In_round, In_un, In_bin, In_cond, In_else, AreProper, count, count_waiting, large, large_waiting, level, more, room, rounds, spell, spell_waiting, worth_of}
use Rattle.dts_parse.specs.Fronts.{Beginning, Begun, First_number, Second_number, Deleted_ref, Omitted_ref, Deleted_child, Deleted_prop, Front, In_body, At_name, At_brace, At_directive, At_end, At_site, At_colon, At_bits, At_angle, Before_operand, After_operand, Listed, Opening, Root_, Ref_, Site, In_value, After_part, In_list, In_hex, braces, fits_lead, may_name, spell_front, spell_listed, takes_begun}
use Rattle.dts_parse.specs.Inner.Machine.{Shape, Step, at_ref, at_width, behind_operand, chosen, climbed, closed_round, is_bare, joined, put, refused, taken, tested, waits_colon}
use Rattle.dts_parse.specs.Statements.{AreFit, Lead, No_lead, Label_lead, Mark_lead, Small_, Large_, Pieces, Short_, Open_root, Open_ref, Open_child, Flag_, Assign_, Place, Short, Version_, Plugin_, Reserve_, Delete_ref, Omit_ref, Delete_child, Delete_prop, End_node, below, head, is_empty, labels_of, marks_of, place, tail, takes_inner, takes_short, takes_top, takes_version}
use Rattle.dts_parse.specs.StmtData.{Close, stmt}
use Rattle.dts_parse.specs.Texts.{width_of}
use Rattle.dts_parse.specs.Token.{Name, Spot, Token, bin_terminal, form_of, is_ascii, is_node_form, is_prop_form, op_level, token}
use Rattle.dts_parse.specs.Values.{Before, Nothing, Comma_, Labels, No_labels, Label_, Element, Lone, Group, Refer, None_yet, Then, Pairs, No_pair, And_pair, Angle_, Bits_, Written, Text_, Path_, List_, Hex_, bytes_with, cells_with, element_place, is_misfit, listing_of, may_close, misfits, pair_listing, spell_element}
use Rattle.dts_parse.specs.declared.expr.BinOp.{BinOp}
use Rattle.dts_parse.specs.declared.expr.BinOp.TheVariants.{Mul, Div, Rem, Add, Sub, Shl, Shr, Lt, Gt, Le, Ge, Eq, Ne, BitAnd, BitXor, BitOr, And, Or}
use Rattle.dts_parse.specs.declared.expr.UnOp.TheVariants.{Neg, Flip, Not}
use Rattle.dts_parse.specs.declared.mode.Breach.{Breach}
use Rattle.dts_parse.specs.declared.mode.Breach.TheVariants.{S1, S2, S5, S6}
use Rattle.dts_parse.specs.declared.mode.Frame.{Frame}
use Rattle.dts_parse.specs.declared.mode.Frame.TheVariants as frame
use Rattle.dts_parse.specs.declared.mode.Listing.{Listing}
use Rattle.dts_parse.specs.declared.mode.Listing.TheVariants as listing
use Rattle.dts_parse.specs.declared.mode.Mode.{Mode}
use Rattle.dts_parse.specs.declared.mode.Mode.TheVariants as mode
use Rattle.dts_parse.specs.declared.mode.Stage.TheVariants as stage
use Rattle.dts_parse.specs.declared.mode.Wanted.TheVariants as wanted
use Rattle.dts_parse.specs.declared.terminal.Form.{Form}
use Rattle.dts_parse.specs.declared.terminal.Form.TheVariants as form
use Rattle.dts_parse.specs.declared.terminal.Terminal.{Terminal}
use Rattle.dts_parse.specs.declared.terminal.Terminal.TheVariants as terminal
use Rattle.dts_parse.specs.declared.terminal.Width.{Width}
use Rattle.dts_parse.specs.declared.terminal.Width.TheVariants.{Bits8, Bits16, Bits32, Bits64}
use Rattle.dts_parse.proofs.Climbs.{Climb, climb, room_left, room_some, room_whole}
use Rattle.dts_parse.proofs.ExprReads.{op_range}
use Rattle.dts_parse.proofs.FrontReads.{empty_more, leading, or_first}
use Rattle.dts_parse.proofs.Kept.{frames_of, kept, kept_site}
use Rattle.dts_parse.proofs.ValueReads.{more_is, more_pairs}

-- a name has its form, and a reference is ASCII
abbrev pub IsToken : Terminal → List ℕ → Type 0
IsToken (terminal.Name f) text = form_of text ≡ Some f
IsToken terminal.Ref text = list_all is_ascii text ≡ true
IsToken _ text = Unit {0}

abbrev pub IsLone : Tree → Type 0
IsLone (Num l p) = Unit {0}
IsLone (Round b e f) = Unit {0}
IsLone _ = ⊥

-- the last operand is no more than a number or brackets
abbrev pub IsSharp : {base : Bool} → Front base → Type 0
IsSharp (After_operand w l begin x proper e is fits) = IsLone e
IsSharp _ = Unit {0}

pub record Grown (base : Bool) (f : Front base) (t : Token) (s : Shape) : Type 0 where
  pub g : Front base
  pub spells : spell_front g ≡ t ∷ spell_front f
  pub keeps : kept g ≡ s
  pub sharp : IsSharp g

-- a list with an element more
abbrev pub with_element : {base : Bool} (w : Width) → Listed base w → Element w → Listed base w
with_element w l e = record { top = l.top; b = l.b; ls = l.ls; h = l.h; es = Then l.es l.now e; now = No_labels }

-- the token ends an element that doesn't fit
pub record Misfit (base : Bool) (f : Front base) (t : Token) (at : ℕ) : Type 0 where
  pub w : Width
  pub l : Listed base w
  pub e : Element w
  pub spells : spell_element e (spell_listed l) ≡ t ∷ spell_front f
  pub is : is_misfit w e ≡ true
  pub place_is : element_place e ≡ at

abbrev pub SoundFault : (base : Bool) → Front base → Token → Breach → ℕ → Type 0
SoundFault base f t S1 at = at ≡ t.spot.at
SoundFault base f t S2 at = ⊥
SoundFault base f t S5 at = Misfit base f t at
SoundFault base f t S6 at = ⊥

abbrev pub Sound : (base : Bool) → Front base → Token → Step → Type 0
Sound base f t (Ok s) = Grown base f t s
Sound base f t (Err x) = SoundFault base f t x.rule x.at

either : (base : Bool) (f : Front base) (t : Token) (b : Bool) (x y : Step) → (b ≡ true → Sound base f t x) → (b ≡ false → Sound base f t y) → Sound base f t (if b then x else y)
either base f t true x y p q = p refl
either base f t false x y p q = q refl

sound_along : (base : Bool) (f : Front base) (t : Token) (r r' : Step) → r ≡ r' → Sound base f t r' → Sound base f t r
sound_along base f t r r' e h = let P : Step → Type 0 = λ x. Sound base f t x in subst P (sym e) h

-- ---- statements

pub no_and : (a b : Bool) → a ≡ false → (a && b) ≡ false
no_and true b e = cc
no_and false b e = refl

pub no_and_right : (a b : Bool) → b ≡ false → (a && b) ≡ false
no_and_right true b e = e
no_and_right false b e = refl

pub not_both : (b : Bool) → b ≡ false → b ≡ true → ⊥
not_both true e f = cc
not_both false e f = cc

-- a statement that takes no label and no mark
bare_case : (base : Bool) (ps : Pieces) (fit : AreFit base ps) (lead : Lead) (may : fits_lead (place base ps) lead ≡ true) (t : Token) (c : Bool) (F : Shape → Shape) (other : Step)
    → (c ≡ true → Grown base (In_body ps fit No_lead refl) t (F (leading base ps No_lead))) → Sound base (In_body ps fit lead may) t other
    → Sound base (In_body ps fit lead may) t (if is_bare (leading base ps lead) && c then Ok (F (leading base ps lead)) else other)
bare_case base ps fit No_lead may t true F other p q =
    let r : Grown base (In_body ps fit No_lead refl) t (F (leading base ps No_lead)) = p refl in record { g = r.g; spells = r.spells; keeps = r.keeps; sharp = r.sharp }
bare_case base ps fit No_lead may t false F other p q = q
bare_case base ps fit (Label_lead lead n d) may t c F other p q =
    either base (In_body ps fit (Label_lead lead n d) may) t (is_bare (leading base ps (Label_lead lead n d)) && c) (Ok (F (leading base ps (Label_lead lead n d)))) other
    (λ e. absurd (not_both _ (no_and _ c (no_and (is_empty (labels_of (Label_lead lead n d))) _ (empty_more (labels_of lead) _))) e)) (λ _. q)
bare_case base ps fit (Mark_lead lead d) may t c F other p q =
    either base (In_body ps fit (Mark_lead lead d) may) t (is_bare (leading base ps (Mark_lead lead d)) && c) (Ok (F (leading base ps (Mark_lead lead d)))) other
    (λ e. absurd (not_both _ (no_and _ c (no_and_right (is_empty (labels_of (Mark_lead lead d))) _ (empty_more (marks_of lead) _))) e)) (λ _. q)

grown : {base : Bool} {f : Front base} {t : Token} {s : Shape} (g : Front base) → spell_front g ≡ t ∷ spell_front f → kept g ≡ s → IsSharp g → Grown base f t s
grown g e k h = record { g = g; spells = e; keeps = k; sharp = h }

sound_body : (base : Bool) (ps : Pieces) (fit : AreFit base ps) (lead : Lead) (may : fits_lead (place base ps) lead ≡ true) (t : Terminal) (p : Spot) → IsToken t p.text
    → Sound base (In_body ps fit lead may) (token t p) (taken (kept (In_body ps fit lead may)) p t)
sound_body base ps fit lead may (terminal.Name f) p is =
    either base (In_body ps fit lead may) (token (terminal.Name f) p) (may_name (place base ps) (is_empty (marks_of lead)) f) _ _
    (λ e. grown (At_name ps fit lead may f (record { spot = p; is = is }) e) refl refl tt) (λ _. refl)
sound_body base ps fit lead may terminal.Slash p is =
    either base (In_body ps fit lead may) (token terminal.Slash p) (takes_top (place base ps) && is_empty (marks_of lead)) _ _
    (λ e. let h : (takes_top (place base ps) ≡ true) × (is_empty (marks_of lead) ≡ true) = and_parts _ _ e in grown (At_brace ps fit lead h.0 h.1 (Root_ p)) refl refl tt) (λ _. refl)
sound_body base ps fit lead may terminal.Ref p is =
    either base (In_body ps fit lead may) (token terminal.Ref p) (takes_top (place base ps) && is_empty (marks_of lead)) _ _
    (λ e. let h : (takes_top (place base ps) ≡ true) × (is_empty (marks_of lead) ≡ true) = and_parts _ _ e in grown (At_brace ps fit lead h.0 h.1 (Ref_ p)) refl refl tt) (λ _. refl)
sound_body base ps fit lead may terminal.Omit p is =
    either base (In_body ps fit lead may) (token terminal.Omit p) (takes_inner (place base ps)) _ _
    (λ e. grown (In_body ps fit (Mark_lead lead p) e) refl refl tt)
    (λ _. bare_case base ps fit lead may (token terminal.Omit p) (takes_top (place base ps)) (λ s. record s { mode = mode.Directive wanted.OmittedRef; begin = p.at }) (refused p)
    (λ e. grown (At_directive ps fit (Omitted_ref p) e) refl refl tt) refl)
sound_body base ps fit lead may terminal.RightBrace p is =
    bare_case base ps fit lead may (token terminal.RightBrace p) (takes_inner (place base ps)) (λ s. record s { mode = mode.Ending; stage = stage.Rest; depth = below s.depth; opened = tail s.opened; out = (s.out ++ stmt p.at Close ∷ []) ++ head s.opened }) (refused p)
    (λ e. grown (At_end ps fit (End_node p) e) refl refl tt) refl
sound_body base ps fit lead may terminal.Version p is =
    bare_case base ps fit lead may (token terminal.Version p) (takes_version (place base ps)) (λ s. record s { mode = mode.Ending; stage = stage.Versions }) (refused p)
    (λ e. grown (At_end ps fit (Version_ p) e) refl refl tt) refl
sound_body base ps fit lead may terminal.Plugin p is =
    bare_case base ps fit lead may (token terminal.Plugin p) (takes_top (place base ps)) (λ s. record s { mode = mode.Ending; stage = stage.Rest }) (refused p)
    (λ e. grown (At_end ps fit (Plugin_ p) e) refl refl tt) refl
sound_body base ps fit lead may terminal.Reserve p is =
    bare_case base ps fit lead may (token terminal.Reserve p) (takes_top (place base ps)) (λ s. record s { mode = mode.Directive wanted.FirstNumber; begin = p.at }) (refused p)
    (λ e. grown (At_directive ps fit (First_number p) e) refl refl tt) refl
sound_body base ps fit lead may terminal.DeleteNode p is =
    bare_case base ps fit lead may (token terminal.DeleteNode p) (takes_inner (place base ps)) (λ s. record s { mode = mode.Directive wanted.DeletedChild; begin = p.at }) _
    (λ e. grown (At_directive ps fit (Deleted_child p) e) refl refl tt)
    (bare_case base ps fit lead may (token terminal.DeleteNode p) (takes_top (place base ps)) (λ s. record s { mode = mode.Directive wanted.DeletedRef; begin = p.at }) (refused p)
    (λ e. grown (At_directive ps fit (Deleted_ref p) e) refl refl tt) refl)
sound_body base ps fit lead may terminal.DeleteProp p is =
    bare_case base ps fit lead may (token terminal.DeleteProp p) (takes_inner (place base ps)) (λ s. record s { mode = mode.Directive wanted.DeletedProp; begin = p.at }) (refused p)
    (λ e. grown (At_directive ps fit (Deleted_prop p) e) refl refl tt) refl
sound_body base ps fit lead may _ p is = refl

-- ---- names

label_true : (inner bare top : Bool) → ((inner && (bare || true)) || (top && true)) ≡ true → bare ≡ true → (inner || (top && bare)) ≡ true
label_true true bare top e k = refl
label_true false true true e k = refl
label_true false true false e k = e
label_true false false top e k = cc

fits_label : (p : Place) (lead : Lead) → fits_lead p lead ≡ true → may_name p (is_empty (marks_of lead)) form.Label ≡ true → (takes_inner p || (takes_top p && is_empty (marks_of lead))) ≡ true
fits_label p No_lead may named = label_true (takes_inner p) true (takes_top p) named refl
fits_label p (Label_lead lead n c) may named = may
fits_label p (Mark_lead lead d) may named = or_first (takes_inner p) _ may

three_parts : (a b c : Bool) → (a && b && c) ≡ true → (a ≡ true) × (b ≡ true) × (c ≡ true)
three_parts true true true e = (refl, refl, refl)
three_parts true true false e = cc
three_parts true false c e = cc
three_parts false b c e = cc

sound_label : (base : Bool) (ps : Pieces) (fit : AreFit base ps) (lead : Lead) (may : fits_lead (place base ps) lead ≡ true) (f : Form) (n : Name f)
    (named : may_name (place base ps) (is_empty (marks_of lead)) f ≡ true) (p : Spot)
    → Sound base (At_name ps fit lead may f n named) (token terminal.Colon p) (taken (kept (At_name ps fit lead may f n named)) p terminal.Colon)
sound_label base ps fit lead may form.Label n named p = grown (In_body ps fit (Label_lead lead n p) (fits_label (place base ps) lead may named)) refl refl tt
sound_label base ps fit lead may form.Both n named p = refl
sound_label base ps fit lead may form.Node n named p = refl
sound_label base ps fit lead may form.Prop n named p = refl

sound_name : (base : Bool) (ps : Pieces) (fit : AreFit base ps) (lead : Lead) (may : fits_lead (place base ps) lead ≡ true) (f : Form) (n : Name f)
    (named : may_name (place base ps) (is_empty (marks_of lead)) f ≡ true) (t : Terminal) (p : Spot)
    → Sound base (At_name ps fit lead may f n named) (token t p) (taken (kept (At_name ps fit lead may f n named)) p t)
sound_name base ps fit lead may f n named terminal.Colon p = sound_label base ps fit lead may f n named p
sound_name base ps fit lead may f n named terminal.Semicolon p =
    either base (At_name ps fit lead may f n named) (token terminal.Semicolon p) (takes_inner (place base ps) && is_empty (marks_of lead) && is_prop_form f) _ _
    (λ e. let h : (takes_inner (place base ps) ≡ true) × (is_empty (marks_of lead) ≡ true) × (is_prop_form f ≡ true) = three_parts _ _ _ e in
    grown (In_body (Flag_ ps lead f n p) (fit, h.0, h.1, h.2) No_lead refl) refl refl tt) (λ _. refl)
sound_name base ps fit lead may f n named terminal.Equal p =
    either base (At_name ps fit lead may f n named) (token terminal.Equal p) (takes_inner (place base ps) && is_empty (marks_of lead) && is_prop_form f) _ _
    (λ e. let h : (takes_inner (place base ps) ≡ true) × (is_empty (marks_of lead) ≡ true) × (is_prop_form f ≡ true) = three_parts _ _ _ e in
    grown (At_site (In_value (record { ps = ps; fit = fit; inner = h.0; lead = lead; bare = h.1; f = f; n = n; is = h.2; equal = p }) Nothing No_labels)) refl refl tt) (λ _. refl)
sound_name base ps fit lead may f n named terminal.LeftBrace p =
    either base (At_name ps fit lead may f n named) (token terminal.LeftBrace p) (takes_inner (place base ps) && is_node_form f) _ _
    (λ e. let h : (takes_inner (place base ps) ≡ true) × (is_node_form f ≡ true) = and_parts _ _ e in
    grown (In_body (Open_child ps lead f n p) (fit, h.0, h.1) No_lead refl) refl refl tt) (λ _. refl)
sound_name base ps fit lead may f n named _ p = refl

sound_brace : (base : Bool) (ps : Pieces) (fit : AreFit base ps) (lead : Lead) (may : takes_top (place base ps) ≡ true) (bare : is_empty (marks_of lead) ≡ true) (o : Opening) (t : Terminal) (p : Spot)
    → Sound base (At_brace ps fit lead may bare o) (token t p) (taken (kept (At_brace ps fit lead may bare o)) p t)
sound_brace base ps fit lead may bare (Root_ q) terminal.LeftBrace p = grown (In_body (Open_root ps lead q p) (fit, may, bare) No_lead refl) refl refl tt
sound_brace base ps fit lead may bare (Ref_ q) terminal.LeftBrace p = grown (In_body (Open_ref ps lead q p) (fit, may, bare) No_lead refl) refl refl tt
sound_brace base ps fit lead may bare o _ p = refl

sound_directive : (base : Bool) (ps : Pieces) (fit : AreFit base ps) (b : Begun) (may : takes_begun (place base ps) b ≡ true) (t : Terminal) (p : Spot) → IsToken t p.text
    → Sound base (At_directive ps fit b may) (token t p) (taken (kept (At_directive ps fit b may)) p t)
sound_directive base ps fit (First_number d) may (terminal.Number n) p is = grown (At_directive ps fit (Second_number d (Small_ n) p) may) refl refl tt
sound_directive base ps fit (First_number d) may terminal.Huge p is = grown (At_directive ps fit (Second_number d Large_ p) may) refl refl tt
sound_directive base ps fit (Second_number d m q) may (terminal.Number n) p is = grown (At_end ps fit (Reserve_ d m q (Small_ n) p) may) refl refl tt
sound_directive base ps fit (Second_number d m q) may terminal.Huge p is = grown (At_end ps fit (Reserve_ d m q Large_ p) may) refl refl tt
sound_directive base ps fit (Deleted_ref d) may terminal.Ref p is = grown (At_end ps fit (Delete_ref d p) may) refl refl tt
sound_directive base ps fit (Omitted_ref d) may terminal.Ref p is = grown (At_end ps fit (Omit_ref d p) may) refl refl tt
sound_directive base ps fit (Deleted_child d) may (terminal.Name f) p is =
    either base (At_directive ps fit (Deleted_child d) may) (token (terminal.Name f) p) (is_node_form f) _ _
    (λ e. grown (At_end ps fit (Delete_child d f (record { spot = p; is = is }) e) may) refl refl tt) (λ _. refl)
sound_directive base ps fit (Deleted_prop d) may (terminal.Name f) p is =
    either base (At_directive ps fit (Deleted_prop d) may) (token (terminal.Name f) p) (is_prop_form f) _ _
    (λ e. grown (At_end ps fit (Delete_prop d f (record { spot = p; is = is }) e) may) refl refl tt) (λ _. refl)
sound_directive base ps fit (First_number d) may _ p is = refl
sound_directive base ps fit (Second_number d m q) may _ p is = refl
sound_directive base ps fit (Deleted_ref d) may _ p is = refl
sound_directive base ps fit (Omitted_ref d) may _ p is = refl
sound_directive base ps fit (Deleted_child d) may _ p is = refl
sound_directive base ps fit (Deleted_prop d) may _ p is = refl

sound_end : (base : Bool) (ps : Pieces) (fit : AreFit base ps) (s : Short) (may : takes_short (place base ps) s ≡ true) (t : Terminal) (p : Spot)
    → Sound base (At_end ps fit s may) (token t p) (taken (kept (At_end ps fit s may)) p t)
sound_end base ps fit s may terminal.Semicolon p = grown (In_body (Short_ ps s p) (fit, may) No_lead refl) refl refl tt
sound_end base ps fit s may _ p = refl

-- ---- values

sound_waits : (base : Bool) (s : Site base) (f : Form) (p : Spot) → form_of p.text ≡ Some f
    → Sound base (At_site s) (token (terminal.Name f) p) (waits_colon f (kept_site s) p)
sound_waits base s form.Label p is = grown (At_colon s (record { spot = p; is = is })) refl refl tt
sound_waits base s form.Both p is = refl
sound_waits base s form.Node p is = refl
sound_waits base s form.Prop p is = refl

sound_value : (base : Bool) (top : Beginning base) (b : Before) (ls : Labels) (t : Terminal) (p : Spot) → IsToken t p.text
    → Sound base (At_site (In_value top b ls)) (token t p) (taken (kept (At_site (In_value top b ls))) p t)
sound_value base top b ls terminal.Str p is = grown (At_site (After_part top b ls (Text_ p) No_labels)) refl refl tt
sound_value base top b ls terminal.Ref p is = grown (At_site (After_part top b ls (Path_ p) No_labels)) refl refl tt
sound_value base top b ls terminal.Less p is = grown (At_site (In_list Bits32 (record { top = top; b = b; ls = ls; h = Angle_ refl p; es = None_yet; now = No_labels }))) refl refl tt
sound_value base top b ls terminal.LeftSquare p is = grown (At_site (In_hex top b ls p No_pair No_labels)) refl refl tt
sound_value base top b ls terminal.Bits p is = grown (At_bits top b ls p) refl refl tt
sound_value base top b ls (terminal.Name f) p is = sound_waits base (In_value top b ls) f p is
sound_value base top b ls _ p is = refl

sound_part : (base : Bool) (top : Beginning base) (b : Before) (ls : Labels) (part : Written) (after : Labels) (t : Terminal) (p : Spot) → IsToken t p.text
    → Sound base (At_site (After_part top b ls part after)) (token t p) (taken (kept (At_site (After_part top b ls part after))) p t)
sound_part base top b ls part after terminal.Comma p is = grown (At_site (In_value top (Comma_ b ls part after p) No_labels)) refl refl tt
sound_part base top b ls part after terminal.Semicolon p is =
    grown (In_body (Assign_ top.ps top.lead top.f top.n top.equal b ls part after p) (top.fit, top.inner, top.bare, top.is) No_lead refl) refl refl tt
sound_part base top b ls part after (terminal.Name f) p is = sound_waits base (After_part top b ls part after) f p is
sound_part base top b ls part after _ p is = refl

-- an element is whole: it is put, or it doesn't fit
sound_put : (base : Bool) (f : Front base) (t : Token) (w : Width) (l : Listed base w) (e : Element w) (huge : Bool) (n : Option ℕ) (at : ℕ) (s : Shape)
    → spell_element e (spell_listed l) ≡ t ∷ spell_front f → is_misfit w e ≡ misfits w huge n → element_place e ≡ at
    → kept (At_site (In_list w (with_element w l e))) ≡ record s { mode = mode.Cells w listing.Elements; cells = cells_with w n s.cells; bytes = bytes_with w n s.bytes }
    → Sound base f t (put w huge n at s)
sound_put base f t w l e huge n at s spells fits place_is keeps =
    either base f t (misfits w huge n) _ _
    (λ bad. record { w = w; l = l; e = e; spells = spells; is = fits ∙ bad; place_is = place_is })
    (λ _. grown (At_site (In_list w (with_element w l e))) spells keeps tt)

sound_ref : (base : Bool) (w : Width) (l : Listed base w) (p : Spot) → Sound base (At_site (In_list w l)) (token terminal.Ref p) (at_ref w (kept_site (In_list w l)) p)
sound_ref base Bits8 l p = refl
sound_ref base Bits16 l p = refl
sound_ref base Bits32 l p = grown (At_site (In_list Bits32 (with_element Bits32 l (Refer refl p)))) refl refl tt
sound_ref base Bits64 l p = refl

sound_list : (base : Bool) (w : Width) (l : Listed base w) (t : Terminal) (p : Spot) → IsToken t p.text
    → Sound base (At_site (In_list w l)) (token t p) (taken (kept (At_site (In_list w l))) p t)
sound_list base w l (terminal.Number n) p is = sound_put base (At_site (In_list w l)) (token (terminal.Number n) p) w l (Lone (Small n) p) false (Some n) p.at (kept_site (In_list w l)) refl refl refl refl
sound_list base w l terminal.Huge p is = sound_put base (At_site (In_list w l)) (token terminal.Huge p) w l (Lone Large p) true None p.at (kept_site (In_list w l)) refl refl refl refl
sound_list base w l (terminal.Char n) p is = sound_put base (At_site (In_list w l)) (token (terminal.Char n) p) w l (Lone (Letter n) p) false (Some n) p.at (kept_site (In_list w l)) refl refl refl refl
sound_list base w l terminal.LeftRound p is = grown (Before_operand w l p Start tt) refl refl tt
sound_list base w l terminal.Ref p is = sound_ref base w l p
sound_list base w l terminal.Greater p is =
    either base (At_site (In_list w l)) (token terminal.Greater p) (may_close (listing_of l.es l.now)) _ _
    (λ e. grown (At_site (After_part l.top l.b l.ls (List_ w l.h l.es l.now e p) No_labels)) refl refl tt) (λ _. refl)
sound_list base w l (terminal.Name f) p is = sound_waits base (In_list w l) f p is
sound_list base w l _ p is = refl

sound_hex : (base : Bool) (top : Beginning base) (b : Before) (ls : Labels) (begin : Spot) (ps : Pairs) (now : Labels) (t : Terminal) (p : Spot) → IsToken t p.text
    → Sound base (At_site (In_hex top b ls begin ps now)) (token t p) (taken (kept (At_site (In_hex top b ls begin ps now))) p t)
sound_hex base top b ls begin ps now (terminal.Pair byte) p is = grown (At_site (In_hex top b ls begin (And_pair ps now byte p) No_labels)) refl refl tt
sound_hex base top b ls begin ps now terminal.RightSquare p is =
    either base (At_site (In_hex top b ls begin ps now)) (token terminal.RightSquare p) (may_close (pair_listing ps now)) _ _
    (λ e. grown (At_site (After_part top b ls (Hex_ begin ps now e p) No_labels)) refl refl tt) (λ _. refl)
sound_hex base top b ls begin ps now (terminal.Name f) p is = sound_waits base (In_hex top b ls begin ps now) f p is
sound_hex base top b ls begin ps now _ p is = refl

sound_site : (base : Bool) (s : Site base) (t : Terminal) (p : Spot) → IsToken t p.text → Sound base (At_site s) (token t p) (taken (kept (At_site s)) p t)
sound_site base (In_value top b ls) t p is = sound_value base top b ls t p is
sound_site base (After_part top b ls part after) t p is = sound_part base top b ls part after t p is
sound_site base (In_list w l) t p is = sound_list base w l t p is
sound_site base (In_hex top b ls begin ps now) t p is = sound_hex base top b ls begin ps now t p is

abbrev mode_set : Shape → Mode → Shape
mode_set s m = record s { mode = m; colon = false }

sound_colon : (base : Bool) (s : Site base) (n : Name form.Label) (t : Terminal) (p : Spot) → Sound base (At_colon s n) (token t p) (taken (kept (At_colon s n)) p t)
sound_colon base (In_value top b ls) n terminal.Colon p = grown (At_site (In_value top b (Label_ ls n p))) refl refl tt
sound_colon base (After_part top b ls part after) n terminal.Colon p = grown (At_site (After_part top b ls part (Label_ after n p))) refl refl tt
sound_colon base (In_list w l) n terminal.Colon p =
    grown (At_site (In_list w (record { top = l.top; b = l.b; ls = l.ls; h = l.h; es = l.es; now = Label_ l.now n p }))) refl
    (let F : Listing → Shape = λ x. mode_set (kept_site (In_list w l)) (mode.Cells w x) in sym (ap F (more_is w l.es l.now n p))) tt
sound_colon base (In_hex top b ls begin ps now) n terminal.Colon p =
    grown (At_site (In_hex top b ls begin ps (Label_ now n p))) refl
    (let F : Listing → Shape = λ x. mode_set (kept_site (In_hex top b ls begin ps now)) (mode.Pairs x) in sym (ap F (more_pairs ps now n p))) tt
sound_colon base s n _ p = refl

sound_width : (base : Bool) (top : Beginning base) (b : Before) (ls : Labels) (d : Spot) (n : ℕ) (p : Spot) (r : Option Width) → width_of n ≡ r
    → Sound base (At_bits top b ls d) (token (terminal.Number n) p) (at_width (kept (At_bits top b ls d)) p r)
sound_width base top b ls d n p None e = refl
sound_width base top b ls d n p (Some w) e = grown (At_angle top b ls d n w e p) refl refl tt

sound_bits : (base : Bool) (top : Beginning base) (b : Before) (ls : Labels) (d : Spot) (t : Terminal) (p : Spot) → Sound base (At_bits top b ls d) (token t p) (taken (kept (At_bits top b ls d)) p t)
sound_bits base top b ls d (terminal.Number n) p = sound_width base top b ls d n p (width_of n) refl
sound_bits base top b ls d _ p = refl

sound_angle : (base : Bool) (top : Beginning base) (b : Before) (ls : Labels) (d : Spot) (n : ℕ) (w : Width) (is : width_of n ≡ Some w) (q : Spot) (t : Terminal) (p : Spot)
    → Sound base (At_angle top b ls d n w is q) (token t p) (taken (kept (At_angle top b ls d n w is q)) p t)
sound_angle base top b ls d n w is q terminal.Less p = grown (At_site (In_list w (record { top = top; b = b; ls = ls; h = Bits_ d n is q p; es = None_yet; now = No_labels }))) refl refl tt
sound_angle base top b ls d n w is q _ p = refl

-- ---- expressions

sound_operand : (base : Bool) (w : Width) (l : Listed base w) (begin : Spot) (x : Waiting) (proper : AreProper x) (t : Terminal) (p : Spot)
    → Sound base (Before_operand w l begin x proper) (token t p) (taken (kept (Before_operand w l begin x proper)) p t)
sound_operand base w l begin x proper (terminal.Number n) p = grown (After_operand w l begin x proper (Num (Small n) p) tt (omega arith)) refl refl tt
sound_operand base w l begin x proper terminal.Huge p = grown (After_operand w l begin x proper (Num Large p) tt (omega arith)) refl refl tt
sound_operand base w l begin x proper (terminal.Char n) p = grown (After_operand w l begin x proper (Num (Letter n) p) tt (omega arith)) refl refl tt
sound_operand base w l begin x proper terminal.LeftRound p = grown (Before_operand w l begin (In_round x p) proper) refl refl tt
sound_operand base w l begin x proper terminal.Minus p = grown (Before_operand w l begin (In_un x Neg p) (room_some x, proper)) refl refl tt
sound_operand base w l begin x proper terminal.Tilde p = grown (Before_operand w l begin (In_un x Flip p) (room_some x, proper)) refl refl tt
sound_operand base w l begin x proper terminal.Bang p = grown (Before_operand w l begin (In_un x Not p) (room_some x, proper)) refl refl tt
sound_operand base w l begin x proper _ p = refl

-- what is kept after an operand that is no more than a number or brackets
abbrev pub lone_kept : (base : Bool) (w : Width) → Listed base w → (begin : Spot) → Waiting → Tree → Shape
lone_kept base w l begin x e = record (kept_site (In_list w l)) {
  mode = mode.Operator w (worth_of e);
  depth = rounds x (suc (suc (braces l.top)));
  begin = begin.at;
  long = count e (count_waiting x 1);
  huge = large e (large_waiting x);
  frames = frames_of x;
}

-- the shape in front of an operand, by what may differ
abbrev pub waiting_at : (base : Bool) (w : Width) → Listed base w → (begin : Spot) → ℕ → ℕ → Bool → List Frame → Shape
waiting_at base w l begin d n h fs = record (kept_site (In_list w l)) { mode = mode.Operand w; depth = d; begin = begin.at; long = n; huge = h; frames = fs }

waiting_same : (base : Bool) (w : Width) (l : Listed base w) (begin : Spot) (d d' n n' : ℕ) (h h' : Bool) (fs : List Frame) → d ≡ d' → n ≡ n' → h ≡ h'
    → waiting_at base w l begin d n h fs ≡ waiting_at base w l begin d' n' h' fs
waiting_same base w l begin d d' n n' h h' fs a b c =
    ap (λ v. waiting_at base w l begin v n h fs) a ∙ (ap (λ v. waiting_at base w l begin d' v h fs) b ∙ ap (λ v. waiting_at base w l begin d' n' v fs) c)

sound_joined : (base : Bool) (w : Width) (l : Listed base w) (begin : Spot) (x : Waiting) (proper : AreProper x) (e : Tree) (is : IsProper e) (fits : level e ≤ room x) (lone : level e ≡ 0) (o : BinOp) (p : Spot)
    → Sound base (After_operand w l begin x proper e is fits) (token (bin_terminal o) p) (joined w (lone_kept base w l begin x e) o (climbed (op_level o) (frames_of x) (worth_of e)))
sound_joined base w l begin x proper e is fits lone o p =
    let range : (2 ≤ op_level o) × (op_level o ≤ 11) = op_range o in
    let r : Climb (op_level o) x e = climb (op_level o) x e (omega arith) proper is (omega arith) fits in
    sound_along base (After_operand w l begin x proper e is fits) (token (bin_terminal o) p) _ _
    (ap (λ c. joined w (lone_kept base w l begin x e) o c) r.climbs)
    (grown (Before_operand w l begin (In_bin r.y r.u o p) (room_left (op_level o) r.y range.1 r.holds, r.low, r.is, r.proper))
    (ap (λ ts. token (bin_terminal o) p ∷ ts) (r.spells _))
    (waiting_same base w l begin _ _ _ _ _ _ (frame.Bin o (worth_of r.u) ∷ frames_of r.y) (r.rounds_same _) (ap (λ (n : ℕ). more n) (r.counts 1)) r.larges) tt)

sound_tested : (base : Bool) (w : Width) (l : Listed base w) (begin : Spot) (x : Waiting) (proper : AreProper x) (e : Tree) (is : IsProper e) (fits : level e ≤ room x) (lone : level e ≡ 0) (p : Spot)
    → Sound base (After_operand w l begin x proper e is fits) (token terminal.Question p) (tested w (lone_kept base w l begin x e) (climbed 11 (frames_of x) (worth_of e)))
sound_tested base w l begin x proper e is fits lone p =
    let r : Climb 11 x e = climb 11 x e (omega arith) proper is (omega arith) fits in
    sound_along base (After_operand w l begin x proper e is fits) (token terminal.Question p) _ _
    (ap (λ c. tested w (lone_kept base w l begin x e) c) r.climbs)
    (grown (Before_operand w l begin (In_cond r.y r.u p) (room_whole r.y r.holds, r.low, r.is, r.proper))
    (ap (λ ts. token terminal.Question p ∷ ts) (r.spells _))
    (waiting_same base w l begin _ _ _ _ _ _ (frame.Cond (worth_of r.u) ∷ frames_of r.y) (r.rounds_same _) (ap (λ (n : ℕ). more n) (r.counts 1)) r.larges) tt)

-- after `:` and `)`, by the case that is left
chosen_by : (base : Bool) (w : Width) (l : Listed base w) (begin : Spot) (f : Front base) (s : Shape) (p : Spot) (y : Waiting) (u : Tree)
    → spell u (spell_waiting y (token terminal.LeftRound begin ∷ spell_listed l)) ≡ spell_front f
    → s ≡ record (waiting_at base w l begin (rounds y (suc (suc (braces l.top)))) (count u (count_waiting y 1)) (large u (large_waiting y)) s.frames) { mode = s.mode }
    → AreProper y → IsProper u
    → Sound base f (token terminal.Colon p) (chosen w s p (record { left = frames_of y; worth = worth_of u }))
chosen_by base w l begin f s p Start u spells same proper is = refl
chosen_by base w l begin f s p (In_round y b) u spells same proper is = refl
chosen_by base w l begin f s p (In_un y o q) u spells same proper is = refl
chosen_by base w l begin f s p (In_bin y c o q) u spells same proper is = refl
chosen_by base w l begin f s p (In_cond y c q) u spells same proper is =
    grown (Before_operand w l begin (In_else y c q u p) (proper.0, proper.1, proper.2, is, proper.3))
    (ap (λ ts. token terminal.Colon p ∷ ts) spells)
    (let F : Shape → Shape = λ z. record z { mode = mode.Operand w; long = more z.long; frames = frame.Else (worth_of c) (worth_of u) ∷ frames_of y } in sym (ap F same)) tt
chosen_by base w l begin f s p (In_else y c q a k) u spells same proper is = refl

closed_by : (base : Bool) (w : Width) (l : Listed base w) (begin : Spot) (f : Front base) (s : Shape) (p : Spot) (y : Waiting) (u : Tree)
    → spell u (spell_waiting y (token terminal.LeftRound begin ∷ spell_listed l)) ≡ spell_front f
    → s ≡ record (waiting_at base w l begin (rounds y (suc (suc (braces l.top)))) (count u (count_waiting y 1)) (large u (large_waiting y)) s.frames) { mode = s.mode }
    → AreProper y → IsProper u
    → Sound base f (token terminal.RightRound p) (closed_round w s p (record { left = frames_of y; worth = worth_of u }))
closed_by base w l begin f s p Start u spells same proper is =
    sound_put base f (token terminal.RightRound p) w l (Group begin u is p) s.huge (worth_of u) s.begin (record s { depth = below s.depth; begin = 0; long = 0; huge = false; frames = [] })
    (ap (λ ts. token terminal.RightRound p ∷ ts) spells)
    (let F : Shape → Bool = λ z. misfits w z.huge (worth_of u) in sym (ap F same))
    (let F : Shape → ℕ = λ z. z.begin in sym (ap F same))
    (let F : Shape → Shape = λ z. record z { mode = mode.Cells w listing.Elements; depth = below z.depth; begin = 0; long = 0; huge = false; frames = []; cells = cells_with w (worth_of u) z.cells; bytes = bytes_with w (worth_of u) z.bytes } in sym (ap F same))
closed_by base w l begin f s p (In_round y b) u spells same proper is =
    grown (After_operand w l begin y proper (Round b u p) is (omega arith))
    (ap (λ ts. token terminal.RightRound p ∷ ts) spells)
    (let F : Shape → Shape = λ z. record z { mode = mode.Operator w (worth_of u); depth = below z.depth; long = more z.long; frames = frames_of y } in sym (ap F same)) tt
closed_by base w l begin f s p (In_un y o q) u spells same proper is = refl
closed_by base w l begin f s p (In_bin y c o q) u spells same proper is = refl
closed_by base w l begin f s p (In_cond y c q) u spells same proper is = refl
closed_by base w l begin f s p (In_else y c q a k) u spells same proper is = refl

lone_same : (base : Bool) (w : Width) (l : Listed base w) (begin : Spot) (x : Waiting) (e : Tree) (y : Waiting) (u : Tree)
    → ((n : ℕ) → rounds y n ≡ rounds x n) → ((n : ℕ) → count u (count_waiting y n) ≡ count e (count_waiting x n)) → large u (large_waiting y) ≡ large e (large_waiting x)
    → lone_kept base w l begin x e ≡ record (waiting_at base w l begin (rounds y (suc (suc (braces l.top)))) (count u (count_waiting y 1)) (large u (large_waiting y)) (frames_of x)) { mode = mode.Operator w (worth_of e) }
lone_same base w l begin x e y u a b c =
    let F : Shape → Shape = λ z. record z { mode = mode.Operator w (worth_of e) } in
    ap F (waiting_same base w l begin _ _ _ _ _ _ (frames_of x) (sym (a _)) (sym (b 1)) (sym c))

sound_chosen : (base : Bool) (w : Width) (l : Listed base w) (begin : Spot) (x : Waiting) (proper : AreProper x) (e : Tree) (is : IsProper e) (fits : level e ≤ room x) (lone : level e ≡ 0) (p : Spot)
    → Sound base (After_operand w l begin x proper e is fits) (token terminal.Colon p) (chosen w (lone_kept base w l begin x e) p (climbed 12 (frames_of x) (worth_of e)))
sound_chosen base w l begin x proper e is fits lone p =
    let r : Climb 12 x e = climb 12 x e (omega arith) proper is (omega arith) fits in
    sound_along base (After_operand w l begin x proper e is fits) (token terminal.Colon p) _ _
    (ap (λ c. chosen w (lone_kept base w l begin x e) p c) r.climbs)
    (chosen_by base w l begin (After_operand w l begin x proper e is fits) (lone_kept base w l begin x e) p r.y r.u (r.spells _)
    (lone_same base w l begin x e r.y r.u r.rounds_same r.counts r.larges) r.proper r.is)

sound_closed : (base : Bool) (w : Width) (l : Listed base w) (begin : Spot) (x : Waiting) (proper : AreProper x) (e : Tree) (is : IsProper e) (fits : level e ≤ room x) (lone : level e ≡ 0) (p : Spot)
    → Sound base (After_operand w l begin x proper e is fits) (token terminal.RightRound p) (closed_round w (lone_kept base w l begin x e) p (climbed 12 (frames_of x) (worth_of e)))
sound_closed base w l begin x proper e is fits lone p =
    let r : Climb 12 x e = climb 12 x e (omega arith) proper is (omega arith) fits in
    sound_along base (After_operand w l begin x proper e is fits) (token terminal.RightRound p) _ _
    (ap (λ c. closed_round w (lone_kept base w l begin x e) p c) r.climbs)
    (closed_by base w l begin (After_operand w l begin x proper e is fits) (lone_kept base w l begin x e) p r.y r.u (r.spells _)
    (lone_same base w l begin x e r.y r.u r.rounds_same r.counts r.larges) r.proper r.is)

-- each token after a lone operand
sound_lone : (base : Bool) (w : Width) (l : Listed base w) (begin : Spot) (x : Waiting) (proper : AreProper x) (e : Tree) (is : IsProper e) (fits : level e ≤ room x) (lone : level e ≡ 0) (t : Terminal) (p : Spot)
    → Sound base (After_operand w l begin x proper e is fits) (token t p) (behind_operand w (worth_of e) (lone_kept base w l begin x e) p t)
sound_lone base w l begin x proper e is fits lone terminal.RightRound p = sound_closed base w l begin x proper e is fits lone p
sound_lone base w l begin x proper e is fits lone terminal.Colon p = sound_chosen base w l begin x proper e is fits lone p
sound_lone base w l begin x proper e is fits lone terminal.Question p = sound_tested base w l begin x proper e is fits lone p
sound_lone base w l begin x proper e is fits lone terminal.Minus p = sound_joined base w l begin x proper e is fits lone Sub p
sound_lone base w l begin x proper e is fits lone terminal.Slash p = sound_joined base w l begin x proper e is fits lone Div p
sound_lone base w l begin x proper e is fits lone terminal.Less p = sound_joined base w l begin x proper e is fits lone Lt p
sound_lone base w l begin x proper e is fits lone terminal.Greater p = sound_joined base w l begin x proper e is fits lone Gt p
sound_lone base w l begin x proper e is fits lone (terminal.Op Mul) p = sound_joined base w l begin x proper e is fits lone Mul p
sound_lone base w l begin x proper e is fits lone (terminal.Op Div) p = refl
sound_lone base w l begin x proper e is fits lone (terminal.Op Rem) p = sound_joined base w l begin x proper e is fits lone Rem p
sound_lone base w l begin x proper e is fits lone (terminal.Op Add) p = sound_joined base w l begin x proper e is fits lone Add p
sound_lone base w l begin x proper e is fits lone (terminal.Op Sub) p = refl
sound_lone base w l begin x proper e is fits lone (terminal.Op Shl) p = sound_joined base w l begin x proper e is fits lone Shl p
sound_lone base w l begin x proper e is fits lone (terminal.Op Shr) p = sound_joined base w l begin x proper e is fits lone Shr p
sound_lone base w l begin x proper e is fits lone (terminal.Op Lt) p = refl
sound_lone base w l begin x proper e is fits lone (terminal.Op Gt) p = refl
sound_lone base w l begin x proper e is fits lone (terminal.Op Le) p = sound_joined base w l begin x proper e is fits lone Le p
sound_lone base w l begin x proper e is fits lone (terminal.Op Ge) p = sound_joined base w l begin x proper e is fits lone Ge p
sound_lone base w l begin x proper e is fits lone (terminal.Op Eq) p = sound_joined base w l begin x proper e is fits lone Eq p
sound_lone base w l begin x proper e is fits lone (terminal.Op Ne) p = sound_joined base w l begin x proper e is fits lone Ne p
sound_lone base w l begin x proper e is fits lone (terminal.Op BitAnd) p = sound_joined base w l begin x proper e is fits lone BitAnd p
sound_lone base w l begin x proper e is fits lone (terminal.Op BitXor) p = sound_joined base w l begin x proper e is fits lone BitXor p
sound_lone base w l begin x proper e is fits lone (terminal.Op BitOr) p = sound_joined base w l begin x proper e is fits lone BitOr p
sound_lone base w l begin x proper e is fits lone (terminal.Op And) p = sound_joined base w l begin x proper e is fits lone And p
sound_lone base w l begin x proper e is fits lone (terminal.Op Or) p = sound_joined base w l begin x proper e is fits lone Or p
sound_lone base w l begin x proper e is fits lone _ p = refl

sound_operator : (base : Bool) (w : Width) (l : Listed base w) (begin : Spot) (x : Waiting) (proper : AreProper x) (e : Tree) (is : IsProper e) (fits : level e ≤ room x) → IsLone e → (t : Terminal) (p : Spot)
    → Sound base (After_operand w l begin x proper e is fits) (token t p) (taken (kept (After_operand w l begin x proper e is fits)) p t)
sound_operator base w l begin x proper (Num i q) is fits lone t p = sound_lone base w l begin x proper (Num i q) is fits refl t p
sound_operator base w l begin x proper (Round b e f) is fits lone t p = sound_lone base w l begin x proper (Round b e f) is fits refl t p
sound_operator base w l begin x proper (Un o q e) is fits lone t p = absurd lone
sound_operator base w l begin x proper (Bin a o q b) is fits lone t p = absurd lone
sound_operator base w l begin x proper (Cond a q b k c) is fits lone t p = absurd lone

-- ---- all fronts

pub sound : (base : Bool) (f : Front base) → IsSharp f → (t : Terminal) (p : Spot) → IsToken t p.text → Sound base f (token t p) (taken (kept f) p t)
sound base (In_body ps fit lead may) sharp t p is = sound_body base ps fit lead may t p is
sound base (At_name ps fit lead may f n named) sharp t p is = sound_name base ps fit lead may f n named t p
sound base (At_brace ps fit lead may bare o) sharp t p is = sound_brace base ps fit lead may bare o t p
sound base (At_directive ps fit b may) sharp t p is = sound_directive base ps fit b may t p is
sound base (At_end ps fit s may) sharp t p is = sound_end base ps fit s may t p
sound base (At_site s) sharp t p is = sound_site base s t p is
sound base (At_colon s n) sharp t p is = sound_colon base s n t p
sound base (At_bits top b ls d) sharp t p is = sound_bits base top b ls d t p
sound base (At_angle top b ls d n w e q) sharp t p is = sound_angle base top b ls d n w e q t p
sound base (Before_operand w l begin x proper) sharp t p is = sound_operand base w l begin x proper t p
sound base (After_operand w l begin x proper e ok fits) sharp t p is = sound_operator base w l begin x proper e ok fits sharp t p
