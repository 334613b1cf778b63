-- What a step tells: of a token that is taken, and of one that is not.
use Rattle.std.proofs.Common.{◌≡◌, ◌≤◌, ℕ, Bool, true, false, ◌&&◌, List, [], ◌∷◌, ◌++◌, Ok, Err, refl, sym, ap, subst, ◌∙◌, nat_le, if◌then◌else◌}
use Rattle.std.proofs.Common.{inl, inr}
use Rattle.std.proofs.lemmas.Bool.{and_parts, leb-true, le-leb}
use Rattle.dts_lex.specs.Left.{Left}
use Rattle.dts_lex.specs.declared.lexer.Span.{Span}
use Rattle.dts_parse.specs.Fronts.{Front, In_body, At_name, At_brace, At_directive, At_end, At_site, At_colon, At_bits, At_angle, Before_operand, After_operand, In_value, After_part, In_list, In_hex, expression, in_expression, is_opening, nested, spell_front}
use Rattle.dts_parse.specs.Inner.Machine.{Fault, Shape, Step, in_rounds, limited, limited_by, start, step, step_on, stop, taken, walk}
use Rattle.dts_parse.specs.Token.{is_include}
use Rattle.dts_parse.specs.Source.{AreTokens, IsTooMuch, slice_of, token_of}
use Rattle.dts_parse.specs.Statements.{No_lead, Nothing_yet}
use Rattle.dts_parse.specs.Token.{Spot, Token}
use Rattle.dts_parse.specs.declared.mode.Breach.{Breach}
use Rattle.dts_parse.specs.declared.mode.Breach.TheVariants.{S1, S2, S5, S6}
use Rattle.dts_parse.specs.declared.terminal.Terminal.{Terminal}
use Rattle.dts_parse.specs.declared.terminal.Terminal.TheVariants as terminal
use Rattle.dts_parse.proofs.FrontReads.{reads_front}
use Rattle.dts_parse.proofs.Kept.{kept}
use Rattle.dts_parse.proofs.Leading.{IsOther, Leads}
use Rattle.dts_parse.proofs.Sound.{Grown, IsSharp, IsToken, Sound, sound}
use Rattle.dts_parse.proofs.Typed.{typed}

-- ---- what is kept at a front tells what is open

pub rounds_is : (base : Bool) (f : Front base) → in_rounds (kept f).mode ≡ in_expression f
rounds_is base (In_body ps fit lead may) = refl
rounds_is base (At_name ps fit lead may f n named) = refl
rounds_is base (At_brace ps fit lead may bare o) = refl
rounds_is base (At_directive ps fit b may) = refl
rounds_is base (At_end ps fit s may) = refl
rounds_is base (At_site (In_value top b ls)) = refl
rounds_is base (At_site (After_part top b ls part after)) = refl
rounds_is base (At_site (In_list w l)) = refl
rounds_is base (At_site (In_hex top b ls begin ps now)) = refl
rounds_is base (At_colon (In_value top b ls) n) = refl
rounds_is base (At_colon (After_part top b ls part after) n) = refl
rounds_is base (At_colon (In_list w l) n) = refl
rounds_is base (At_colon (In_hex top b ls begin ps now) n) = refl
rounds_is base (At_bits top b ls d) = refl
rounds_is base (At_angle top b ls d n w e q) = refl
rounds_is base (Before_operand w l begin x proper) = refl
rounds_is base (After_operand w l begin x proper e is fits) = refl

pub depth_is : (base : Bool) (f : Front base) → (kept f).depth ≡ nested f
depth_is base (In_body ps fit lead may) = refl
depth_is base (At_name ps fit lead may f n named) = refl
depth_is base (At_brace ps fit lead may bare o) = refl
depth_is base (At_directive ps fit b may) = refl
depth_is base (At_end ps fit s may) = refl
depth_is base (At_site (In_value top b ls)) = refl
depth_is base (At_site (After_part top b ls part after)) = refl
depth_is base (At_site (In_list w l)) = refl
depth_is base (At_site (In_hex top b ls begin ps now)) = refl
depth_is base (At_colon (In_value top b ls) n) = refl
depth_is base (At_colon (After_part top b ls part after) n) = refl
depth_is base (At_colon (In_list w l) n) = refl
depth_is base (At_colon (In_hex top b ls begin ps now) n) = refl
depth_is base (At_bits top b ls d) = refl
depth_is base (At_angle top b ls d n w e q) = refl
depth_is base (Before_operand w l begin x proper) = refl
depth_is base (After_operand w l begin x proper e is fits) = refl

pub long_is : (base : Bool) (f : Front base) → (kept f).long ≡ expression f
long_is base (In_body ps fit lead may) = refl
long_is base (At_name ps fit lead may f n named) = refl
long_is base (At_brace ps fit lead may bare o) = refl
long_is base (At_directive ps fit b may) = refl
long_is base (At_end ps fit s may) = refl
long_is base (At_site (In_value top b ls)) = refl
long_is base (At_site (After_part top b ls part after)) = refl
long_is base (At_site (In_list w l)) = refl
long_is base (At_site (In_hex top b ls begin ps now)) = refl
long_is base (At_colon (In_value top b ls) n) = refl
long_is base (At_colon (After_part top b ls part after) n) = refl
long_is base (At_colon (In_list w l) n) = refl
long_is base (At_colon (In_hex top b ls begin ps now) n) = refl
long_is base (At_bits top b ls d) = refl
long_is base (At_angle top b ls d n w e q) = refl
long_is base (Before_operand w l begin x proper) = refl
long_is base (After_operand w l begin x proper e is fits) = refl

-- ---- a step that goes well

abbrev pub halt : Fault → Step
halt x = Err x

pub not_ok : (x : Fault) (s : Shape) → halt x ≡ Ok s → ⊥
not_ok x s e = cc

limited_not_ok : (p : Spot) (r : Step) (s : Shape) → limited p r ≡ Ok s → ⊥
limited_not_ok p (Ok x) s e = not_ok _ s e
limited_not_ok p (Err f) s e = by_rule f.rule e
  where
    by_rule : (rule : Breach) → limited_by rule p f ≡ Ok s → ⊥
    by_rule S1 e = not_ok _ s e
    by_rule S2 e = not_ok _ s e
    by_rule S5 e = not_ok _ s e
    by_rule S6 e = not_ok _ s e

pub record StepOk (s : Shape) (t : Token) (to : Shape) : Type 0 where
  pub include : is_include t.terminal ≡ false
  pub deep : (is_opening (in_rounds s.mode) t.terminal && nat_le 64 s.depth) ≡ false
  pub long : nat_le 4096 s.long ≡ false
  pub taken_is : taken s t.spot t.terminal ≡ Ok to

pub step_ok : (s : Shape) (t : Token) (to : Shape) → step s t ≡ Ok to → StepOk s t to
step_ok s t to e = by_include (is_include t.terminal) refl e
  where
    r : Step
    r = taken s t.spot t.terminal

    by_long : (b : Bool) → is_include t.terminal ≡ false → (is_opening (in_rounds s.mode) t.terminal && nat_le 64 s.depth) ≡ false → nat_le 4096 s.long ≡ b
        → (if b then limited t.spot (taken s t.spot t.terminal) else taken s t.spot t.terminal) ≡ Ok to → StepOk s t to
    by_long true i d l e = absurd (limited_not_ok t.spot (taken s t.spot t.terminal) to e)
    by_long false i d l e = record { include = i; deep = d; long = l; taken_is = e }

    by_deep : (b : Bool) → is_include t.terminal ≡ false → (is_opening (in_rounds s.mode) t.terminal && nat_le 64 s.depth) ≡ b
        → (if b then stop S2 t.spot else if nat_le 4096 s.long then limited t.spot (taken s t.spot t.terminal) else taken s t.spot t.terminal) ≡ Ok to → StepOk s t to
    by_deep true i d e = absurd (not_ok _ to e)
    by_deep false i d e = by_long (nat_le 4096 s.long) i d refl e

    by_include : (b : Bool) → is_include t.terminal ≡ b
        → (if b then stop S6 t.spot else if is_opening (in_rounds s.mode) t.terminal && nat_le 64 s.depth then stop S2 t.spot
        else if nat_le 4096 s.long then limited t.spot (taken s t.spot t.terminal) else taken s t.spot t.terminal) ≡ Ok to → StepOk s t to
    by_include true i e = absurd (not_ok _ to e)
    by_include false i e = by_deep (is_opening (in_rounds s.mode) t.terminal && nat_le 64 s.depth) i refl e

-- ---- walking

pub walk_on : (base : Bool) (b : List Token) (s : Shape) (t : Token) → walk base b ≡ Ok s → walk base (t ∷ b) ≡ step s t
walk_on base b s t e = ap (λ r. step_on t r) e

pub walk_err : (base : Bool) (b : List Token) (x : Fault) (t : Token) → walk base b ≡ Err x → walk base (t ∷ b) ≡ Err x
walk_err base b x t e = ap (λ r. step_on t r) e

-- the walk before the last token, and its step
pub record Walked (base : Bool) (b : List Token) (t : Token) (s : Shape) : Type 0 where
  pub mid : Shape
  pub before : walk base b ≡ Ok mid
  pub last : step mid t ≡ Ok s

pub walked : (base : Bool) (b : List Token) (t : Token) (s : Shape) → walk base (t ∷ b) ≡ Ok s → Walked base b t s
walked base b t s e = by_result (walk base b) refl e
  where
    by_result : (r : Step) → walk base b ≡ r → step_on t r ≡ Ok s → Walked base b t s
    by_result (Ok x) h e = record { mid = x; before = h; last = e }
    by_result (Err f) h e = absurd (not_ok f s e)

pub ok_prefix : (base : Bool) (ext b : List Token) (s : Shape) → walk base (ext ++ b) ≡ Ok s → (x : Shape) × (walk base b ≡ Ok x)
ok_prefix base [] b s e = (s, e)
ok_prefix base (t ∷ ext) b s e = let w : Walked base (ext ++ b) t s = walked base (ext ++ b) t s e in ok_prefix base ext b w.mid w.before

pub err_prefix : (base : Bool) (ext b : List Token) (x : Fault) → walk base b ≡ Err x → walk base (ext ++ b) ≡ Err x
err_prefix base [] b x e = e
err_prefix base (t ∷ ext) b x e = walk_err base (ext ++ b) x t (err_prefix base ext b x e)

pub leads_ok : (q : Bool) (r : Step) (s to : Shape) → Leads q r to → r ≡ Ok s → s ≡ to
leads_ok q r s to h e = let P : Step → Type 0 = λ x. Leads q x to in subst P e h

pub leads_err : (q : Bool) (r : Step) (x : Fault) (to : Shape) → Leads q r to → r ≡ Err x → IsOther q x.rule
leads_err q r x to h e = let P : Step → Type 0 = λ y. Leads q y to in subst P e h

-- ---- fronts of walks

pub record Reached (base : Bool) (seen : List Token) (s : Shape) : Type 0 where
  pub f : Front base
  pub spells : spell_front f ≡ seen
  pub keeps : kept f ≡ s
  pub sharp : IsSharp f

pub is_token : (src : List ℕ) (span : Span) (t : Token) → t ≡ token_of src span → IsToken t.terminal t.spot.text
is_token src span t e = let P : Token → Type 0 = λ x. IsToken x.terminal x.spot.text in subst P (sym e) (typed span.kind (slice_of src span)).is

pub sound_at : (base : Bool) (f : Front base) (s : Shape) (t : Token) → IsSharp f → kept f ≡ s → IsToken t.terminal t.spot.text → Sound base f t (taken s t.spot t.terminal)
sound_at base f s t sharp keeps is = let P : Shape → Type 0 = λ x. Sound base f t (taken x t.spot t.terminal) in subst P keeps (sound base f sharp t.terminal t.spot is)

pub grows : (base : Bool) (f : Front base) (t : Token) (r : Step) (s : Shape) → Sound base f t r → r ≡ Ok s → Grown base f t s
grows base f t r s h e = let P : Step → Type 0 = λ x. Sound base f t x in subst P e h

pub reach : (src : List ℕ) (base : Bool) (seen : List Token) (left : Left) (s : Shape) → AreTokens src seen left → walk base seen ≡ Ok s → Reached base seen s
reach src base [] left s h e = record { f = In_body Nothing_yet tt No_lead refl; spells = refl; keeps = sym (leads_ok true (walk base []) s (start base) refl e); sharp = tt }
reach src base (t ∷ b) left s (mid, span, p, e, q) w =
    let k : Walked base b t s = walked base b t s w in
    let r : Reached base b k.mid = reach src base b mid k.mid p k.before in
    let o : StepOk k.mid t s = step_ok k.mid t s k.last in
    let g : Grown base r.f t s = grows base r.f t (taken k.mid t.spot t.terminal) s (sound_at base r.f k.mid t r.sharp r.keeps (is_token src span t q)) o.taken_is in
    record { f = g.g; spells = g.spells ∙ ap (λ ts. t ∷ ts) r.spells; keeps = g.keeps; sharp = g.sharp }

-- what a front spells, if all goes well, is walked to what is kept there
pub front_state : (base : Bool) (f : Front base) (s : Shape) → walk base (spell_front f) ≡ Ok s → s ≡ kept f
front_state base f s e = leads_ok true (walk base (spell_front f)) s (kept f) (reads_front base f).is e

-- a front that spells one token more
pub front_after : (base : Bool) (g : Front base) (ts : List Token) → spell_front g ≡ ts → Leads true (walk base ts) (kept g)
front_after base g ts e = let P : List Token → Type 0 = λ x. Leads true (walk base x) (kept g) in subst P e (reads_front base g).is

-- ---- limits

opening_no_include : (rounds : Bool) (t : Terminal) → is_opening rounds t ≡ true → is_include t ≡ false
opening_no_include true terminal.Include e = cc
opening_no_include false terminal.Include e = cc
opening_no_include rounds _ e = refl

pub if_then : {A : Type 0} (b : Bool) (x y : A) → b ≡ true → (if b then x else y) ≡ x
if_then true x y e = refl
if_then false x y e = cc

pub if_else : {A : Type 0} (b : Bool) (x y : A) → b ≡ false → (if b then x else y) ≡ y
if_else true x y e = cc
if_else false x y e = refl

step_deep : (s : Shape) (t : Token) → is_opening (in_rounds s.mode) t.terminal ≡ true → 64 ≤ s.depth → step s t ≡ stop S2 t.spot
step_deep s t o d =
    if_else (is_include t.terminal) _ _ (opening_no_include (in_rounds s.mode) t.terminal o)
    ∙ if_then (is_opening (in_rounds s.mode) t.terminal && nat_le 64 s.depth) _ _ (both (is_opening (in_rounds s.mode) t.terminal) (nat_le 64 s.depth) o (le-leb 64 s.depth d))
  where
    both : (a b : Bool) → a ≡ true → b ≡ true → (a && b) ≡ true
    both true b e f = f
    both false b e f = cc

limited_leads : (p : Spot) (r : Step) (to : Shape) → Leads true (limited p r) to → limited p r ≡ stop S2 p
limited_leads p (Ok s) to h = refl
limited_leads p (Err f) to h = by_rule f.rule refl h
  where
    by_rule : (rule : Breach) → f.rule ≡ rule → Leads true (limited_by rule p f) to → limited_by rule p f ≡ stop S2 p
    by_rule S1 e h = let P : Breach → Type 0 = λ x. IsOther true x in absurd (subst P e h)
    by_rule S2 e h = refl
    by_rule S5 e h = refl
    by_rule S6 e h = refl

step_long : (s : Shape) (t : Token) (to : Shape) → 4096 ≤ s.long → Leads true (step s t) to → step s t ≡ stop S2 t.spot
step_long s t to l h = by_include (is_include t.terminal) h
  where
    by_long : (b : Bool) → b ≡ true → Leads true (if b then limited t.spot (taken s t.spot t.terminal) else taken s t.spot t.terminal) to
        → (if b then limited t.spot (taken s t.spot t.terminal) else taken s t.spot t.terminal) ≡ stop S2 t.spot
    by_long true e h = limited_leads t.spot (taken s t.spot t.terminal) to h
    by_long false e h = cc

    by_deep : (b : Bool) → Leads true (if b then stop S2 t.spot else if nat_le 4096 s.long then limited t.spot (taken s t.spot t.terminal) else taken s t.spot t.terminal) to
        → (if b then stop S2 t.spot else if nat_le 4096 s.long then limited t.spot (taken s t.spot t.terminal) else taken s t.spot t.terminal) ≡ stop S2 t.spot
    by_deep true h = refl
    by_deep false h = by_long (nat_le 4096 s.long) (le-leb 4096 s.long l) h

    by_include : (b : Bool) → Leads true (if b then stop S6 t.spot else if is_opening (in_rounds s.mode) t.terminal && nat_le 64 s.depth then stop S2 t.spot
        else if nat_le 4096 s.long then limited t.spot (taken s t.spot t.terminal) else taken s t.spot t.terminal) to
        → (if b then stop S6 t.spot else if is_opening (in_rounds s.mode) t.terminal && nat_le 64 s.depth then stop S2 t.spot
        else if nat_le 4096 s.long then limited t.spot (taken s t.spot t.terminal) else taken s t.spot t.terminal) ≡ stop S2 t.spot
    by_include true h = absurd h
    by_include false h = by_deep (is_opening (in_rounds s.mode) t.terminal && nat_le 64 s.depth) h

-- where it is too much, the walk stops
pub much_stops : (base : Bool) (f : Front base) (t : Token) (s : Shape) → IsTooMuch base f t → walk base (spell_front f) ≡ Ok s → step s t ≡ stop S2 t.spot
much_stops base f t s (inl h) w =
    let e : s ≡ kept f = front_state base f s w in
    let o : is_opening (in_rounds s.mode) t.terminal ≡ true =
    (let F : Shape → Bool = λ x. is_opening (in_rounds x.mode) t.terminal in ap F e) ∙ (ap (λ b. is_opening b t.terminal) (rounds_is base f) ∙ h.0) in
    let d : s.depth ≡ nested f = (let F : Shape → ℕ = λ x. x.depth in ap F e) ∙ depth_is base f in
    step_deep s t o (subst (λ (n : ℕ). 64 ≤ n) (sym d) h.1)
much_stops base f t s (inr h) w =
    let e : s ≡ kept f = front_state base f s w in
    let l : s.long ≡ expression f = (let F : Shape → ℕ = λ x. x.long in ap F e) ∙ long_is base f in
    let g : Leads true (walk base (t ∷ spell_front f)) (kept h.1.0) = front_after base h.1.0 (t ∷ spell_front f) h.1.1 in
    let k : Leads true (step s t) (kept h.1.0) = (let P : Step → Type 0 = λ r. Leads true r (kept h.1.0) in subst P (walk_on base (spell_front f) s t w) g) in
    step_long s t (kept h.1.0) (subst (λ (n : ℕ). 4096 ≤ n) (sym l) h.0) k

-- ---- a step that stops

pub data Stopped (s : Shape) (t : Token) (x : Fault) : Type 0 where
  By_include : is_include t.terminal ≡ true → x ≡ record { rule = S6; at = t.spot.at } → Stopped s t x
  By_depth : is_opening (in_rounds s.mode) t.terminal ≡ true → 64 ≤ s.depth → x ≡ record { rule = S2; at = t.spot.at } → Stopped s t x
  By_length : 4096 ≤ s.long → (to : Shape) → taken s t.spot t.terminal ≡ Ok to → x ≡ record { rule = S2; at = t.spot.at } → Stopped s t x
  By_length_misfit : 4096 ≤ s.long → (y : Fault) → taken s t.spot t.terminal ≡ Err y → (y.rule ≡ S1 → ⊥) → x ≡ record { rule = S2; at = t.spot.at } → Stopped s t x
  By_token : taken s t.spot t.terminal ≡ Err x → Stopped s t x

err_same : (x y : Fault) → halt x ≡ halt y → y ≡ x
err_same x y e = cc

stopped_long : (s : Shape) (t : Token) (x : Fault) → 4096 ≤ s.long → (r : Step) → taken s t.spot t.terminal ≡ r → limited t.spot r ≡ Err x → Stopped s t x
stopped_long s t x l (Ok to) e h = By_length l to e (err_same _ x h)
stopped_long s t x l (Err y) e h = by_rule y.rule refl h
  where
    by_rule : (rule : Breach) → y.rule ≡ rule → limited_by rule t.spot y ≡ Err x → Stopped s t x
    by_rule S1 k h = By_token (e ∙ h)
    by_rule S2 k h = By_length_misfit l y e (λ z. cc) (err_same _ x h)
    by_rule S5 k h = By_length_misfit l y e (λ z. cc) (err_same _ x h)
    by_rule S6 k h = By_length_misfit l y e (λ z. cc) (err_same _ x h)

pub stopped : (s : Shape) (t : Token) (x : Fault) → step s t ≡ Err x → Stopped s t x
stopped s t x e = by_include (is_include t.terminal) refl e
  where
    by_long : (b : Bool) → nat_le 4096 s.long ≡ b → (if b then limited t.spot (taken s t.spot t.terminal) else taken s t.spot t.terminal) ≡ Err x → Stopped s t x
    by_long true l e = stopped_long s t x (leb-true 4096 s.long l) (taken s t.spot t.terminal) refl e
    by_long false l e = By_token e

    by_deep : (b : Bool) → (is_opening (in_rounds s.mode) t.terminal && nat_le 64 s.depth) ≡ b
        → (if b then stop S2 t.spot else if nat_le 4096 s.long then limited t.spot (taken s t.spot t.terminal) else taken s t.spot t.terminal) ≡ Err x → Stopped s t x
    by_deep true d e =
        let both : (is_opening (in_rounds s.mode) t.terminal ≡ true) × (nat_le 64 s.depth ≡ true) = and_parts _ _ d in By_depth both.0 (leb-true 64 s.depth both.1) (err_same _ x e)
    by_deep false d e = by_long (nat_le 4096 s.long) refl e

    by_include : (b : Bool) → is_include t.terminal ≡ b
        → (if b then stop S6 t.spot else if is_opening (in_rounds s.mode) t.terminal && nat_le 64 s.depth then stop S2 t.spot
        else if nat_le 4096 s.long then limited t.spot (taken s t.spot t.terminal) else taken s t.spot t.terminal) ≡ Err x → Stopped s t x
    by_include true i e = By_include i (err_same _ x e)
    by_include false i e = by_deep (is_opening (in_rounds s.mode) t.terminal && nat_le 64 s.depth) refl e
