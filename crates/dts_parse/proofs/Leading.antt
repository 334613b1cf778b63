-- Steps that lead to a shape, or to a fault that a longer text can't lift.
use Rattle.std.proofs.Common.{◌≡◌, Bool, true, false, ◌&&◌, List, ◌∷◌, Ok, Err, refl, sym, subst, nat_le, if◌then◌else◌}
use Rattle.dts_parse.specs.Fronts.{is_opening}
use Rattle.dts_parse.specs.Inner.Machine.{Shape, Step, in_rounds, limited, limited_by, step, step_on, stop, taken, walk}
use Rattle.dts_parse.specs.Token.{is_include}
use Rattle.dts_parse.specs.Token.{Spot, Token}
use Rattle.dts_parse.specs.declared.mode.Breach.{Breach}
use Rattle.dts_parse.specs.declared.mode.Breach.TheVariants.{S1, S2, S5, S6}

-- a limit that is passed, or, where it is asked for, a value that doesn't fit
abbrev pub IsOther : Bool → Breach → Type 0
IsOther q S1 = ⊥
IsOther q S2 = Unit {0}
IsOther true S5 = Unit {0}
IsOther false S5 = ⊥
IsOther q S6 = ⊥

abbrev pub Leads : Bool → Step → Shape → Type 0
Leads q (Ok s) to = s ≡ to
Leads q (Err f) to = IsOther q f.rule

pub leads_is : (q : Bool) (r r' : Step) (to : Shape) → r ≡ r' → Leads q r' to → Leads q r to
leads_is q r r' to e h = let P : Step → Type 0 = λ x. Leads q x to in subst P (sym e) h

pub leads_to : (q : Bool) (r : Step) (to to' : Shape) → to ≡ to' → Leads q r to → Leads q r to'
leads_to q r to to' e h = let P : Shape → Type 0 = λ x. Leads q r x in subst P e h

pub leads_if : (q : Bool) (b : Bool) (x y : Step) (to : Shape) → b ≡ true → Leads q x to → Leads q (if b then x else y) to
leads_if q true x y to e h = h
leads_if q false x y to e h = cc

leads_limited : (q : Bool) (p : Spot) (r : Step) (to : Shape) → Leads q r to → Leads q (limited p r) to
leads_limited q p (Ok s) to h = tt
leads_limited q p (Err f) to h = by_rule f.rule h
  where
    by_rule : (rule : Breach) → IsOther q rule → Leads q (limited_by rule p f) to
    by_rule S1 h = absurd h
    by_rule S2 h = tt
    by_rule S5 h = tt
    by_rule S6 h = tt

leads_deep : (q : Bool) (b : Bool) (p : Spot) (x : Step) (to : Shape) → Leads q x to → Leads q (if b then stop S2 p else x) to
leads_deep q true p x to h = tt
leads_deep q false p x to h = h

leads_long : (q : Bool) (b : Bool) (p : Spot) (x : Step) (to : Shape) → Leads q x to → Leads q (if b then limited p x else x) to
leads_long q true p x to h = leads_limited q p x to h
leads_long q false p x to h = h

leads_include : (q : Bool) (b : Bool) (p : Spot) (x : Step) (to : Shape) → b ≡ false → Leads q x to → Leads q (if b then stop S6 p else x) to
leads_include q true p x to e h = cc
leads_include q false p x to e h = h

pub leads_step : (q : Bool) (s : Shape) (t : Token) (to : Shape) → is_include t.terminal ≡ false → Leads q (taken s t.spot t.terminal) to → Leads q (step s t) to
leads_step q s t to e h =
    leads_include q (is_include t.terminal) t.spot _ to e
    (leads_deep q (is_opening (in_rounds s.mode) t.terminal && nat_le 64 s.depth) t.spot _ to
    (leads_long q (nat_le 4096 s.long) t.spot (taken s t.spot t.terminal) to h))

go_on : (q : Bool) (r : Step) (s : Shape) (t : Token) (to : Shape) → Leads q r s → is_include t.terminal ≡ false → Leads q (taken s t.spot t.terminal) to
    → Leads q (step_on t r) to
go_on q (Ok x) s t to h e k = let P : Shape → Type 0 = λ y. Leads q (step y t) to in subst P (sym h) (leads_step q s t to e k)
go_on q (Err f) s t to h e k = h

-- the tokens are read up to this shape, or to such a fault
pub record Reads (q base : Bool) (tokens : List Token) (to : Shape) : Type 0 where
  pub is : Leads q (walk base tokens) to

-- one token leads from a shape to another
pub record Moves (q : Bool) (s : Shape) (t : Token) (to : Shape) : Type 0 where
  pub is : Leads q (taken s t.spot t.terminal) to

-- one token more
pub go : {q base : Bool} {before : List Token} {s : Shape} {to : Shape} (t : Token) → Reads q base before s → is_include t.terminal ≡ false → Moves q s t to → Reads q base (t ∷ before) to
go {q = q} {base = base} {before = before} {s = s} {to = to} t h e k = record { is = go_on q (walk base before) s t to h.is e k.is }

pub moves : {q : Bool} {s to : Shape} (t : Token) → taken s t.spot t.terminal ≡ Ok to → Moves q s t to
moves {q = q} {s = s} {to = to} t e = record { is = leads_is q (taken s t.spot t.terminal) (Ok to) to e refl }

pub hop : {q base : Bool} {before : List Token} {s : Shape} {to : Shape} (t : Token) → Reads q base before s → is_include t.terminal ≡ false → taken s t.spot t.terminal ≡ Ok to → Reads q base (t ∷ before) to
hop t h e k = go t h e (moves t k)

pub reads_at : {q base : Bool} {tokens : List Token} {s s' : Shape} → s ≡ s' → Reads q base tokens s → Reads q base tokens s'
reads_at {q = q} {base = base} {tokens = tokens} e h = let P : Shape → Type 0 = λ x. Reads q base tokens x in subst P e h
