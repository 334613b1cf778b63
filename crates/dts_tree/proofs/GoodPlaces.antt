-- Statements that nest well name nodes by names of nodes, and give properties values whose parts are of their kinds: so do all deeds.
use Rattle.std.proofs.Common.{◌≡◌, ◌∙◌, ◌+◌, ◌-◌, ◌++◌, ◌⊎◌, ◌∷◌, [], ℕ, zero, suc, Bool, true, false, cond, ◌&&◌, ◌||◌, List, Option, Some, None, Result, Ok, Err, length, take, refl, sym, ap, subst, inl, inr}
use Rattle.std.specs.Prelude.{slice_get, unwrap_or}
use Rattle.std.specs.Option.{option_and_then}
use Rattle.std.specs.List.{list_any, list_all, filter_map, fold, cons_option}
use Rattle.std.proofs.lemmas.Bool.{false≢true}
use Rattle.std.proofs.lemmas.Option.{same_Some, none-some, cond_some}
use Rattle.edt_base.specs.SourceNames.{is_node_name}
use Rattle.dts_parse.specs.StmtData.{ActData, PartData, StmtData, Open, Close, Label, Assign, DelProp, DelNode, Omit}
use Rattle.dts_parse.specs.Nested.{is_good_part, fits_place, nest, nested, IsNested}
use Rattle.dts_parse.specs.declared.script.Target.{Target}
use Rattle.dts_parse.specs.declared.script.Target.TheVariants as target
use Rattle.dts_tree.specs.declared.spot.Step.TheVariants.{Child, Prop}
use Rattle.dts_tree.specs.Places.{Place, place_eq, place_of}
use Rattle.dts_tree.specs.Deeds.{Deed, deed, deletes, covers, uncovered}
use Rattle.dts_tree.specs.Live.{with_new, last_of, begins, begun, spots, is_there, value, value_in, labelled, labelled_in, node_of}
use Rattle.dts_tree.specs.Reading.{Before, Unnamed, live, here, done, done_if_there, done_at, opening, naming, after, read_on, read_all, start}
use Rattle.dts_tree.proofs.Lists.{Member, all_at, all_from, all_append, and_parts, and_both, any_find, member_cases}
use Rattle.dts_tree.proofs.PlaceLaws.{same_place}
use Rattle.dts_tree.proofs.Apart.{member_at}

-- ---- good places, deeds and statements

-- each node on the way has a node's name
abbrev pub is_good_place : Place → Bool
is_good_place [] = true
is_good_place (Child n ∷ p) = is_node_name n && is_good_place p
is_good_place (Prop n ∷ p) = is_good_place p

abbrev good_target : Target → Bool
good_target target.Root = true
good_target (target.Child n) = is_node_name n
good_target (target.ByLabel l) = true
good_target (target.ByPath t) = true

abbrev good_value : ActData → Bool
good_value (Open t) = true
good_value Close = true
good_value (Label l) = true
good_value (Assign n v) = list_all is_good_part v
good_value (DelProp n) = true
good_value (DelNode t) = true
good_value (Omit t) = true

abbrev good_name : ActData → Bool
good_name (Open t) = good_target t
good_name Close = true
good_name (Label l) = true
good_name (Assign n v) = true
good_name (DelProp n) = true
good_name (DelNode t) = good_target t
good_name (Omit t) = good_target t

abbrev good_act : ActData → Bool
good_act act = good_name act && good_value act

abbrev pub is_good_deed : Deed → Bool
is_good_deed d = is_good_place d.at && good_value d.act

abbrev good_stmt : StmtData → Bool
good_stmt s = good_act s.act

-- ---- nested statements are good

fits_good : (d : ℕ) (t : Target) → fits_place d t ≡ true → good_target t ≡ true
fits_good d target.Root h = refl
fits_good zero (target.Child n) h = absurd (false≢true h)
fits_good (suc d) (target.Child n) h = h
fits_good d (target.ByLabel l) h = refl
fits_good d (target.ByPath t) h = refl

nest_good : (d e : ℕ) (act : ActData) → nest d act ≡ Some e → good_act act ≡ true
nest_good d e (Open t) h = and_both (good_target t) true (fits_good d t (cond_some (fits_place d t) (suc d) e h).0) refl
nest_good d e (DelNode t) h = and_both (good_target t) true (fits_good d t (cond_some (fits_place d t) d e h).0) refl
nest_good d e (Omit t) h = and_both (good_target t) true (fits_good d t (cond_some (fits_place d t) d e h).0) refl
nest_good d e Close h = refl
nest_good d e (Label l) h = refl
nest_good zero e (Assign n v) h = absurd (none-some e h)
nest_good (suc d) e (Assign n v) h =
    (and_parts (Rattle.edt_base.specs.SourceNames.is_prop_name n) (list_all is_good_part v)
    (cond_some (Rattle.edt_base.specs.SourceNames.is_prop_name n && list_all is_good_part v) (suc d) e h).0).1
nest_good d e (DelProp n) h = refl

nested_by : (o : Option ℕ) (e : ℕ) (s : StmtData) (rest : List StmtData) → ((k : ℕ) → o ≡ Some k → good_act s.act ≡ true)
    → ((k : ℕ) → nested k rest ≡ Some e → list_all good_stmt rest ≡ true) → option_and_then (λ k. nested k rest) o ≡ Some e → list_all good_stmt (s ∷ rest) ≡ true
nested_by None e s rest g next h = absurd (none-some e h)
nested_by (Some k) e s rest g next h = and_both (good_act s.act) (list_all good_stmt rest) (g k refl) (next k h)

nested_good : (stmts : List StmtData) (d e : ℕ) → nested d stmts ≡ Some e → list_all good_stmt stmts ≡ true
nested_good [] d e h = refl
nested_good (s ∷ rest) d e h = nested_by (nest d s.act) e s rest (λ k g. nest_good d k s.act g) (λ k g. nested_good rest k e g) h

-- ---- what is there

uncovered_by : (b : Bool) (d : Deed) (us : List Deed) (x : Deed) → Member x (cond b us (d ∷ us)) → (d ≡ x) ⊎ Member x us
uncovered_by true d us x m = inr m
uncovered_by false d us x m = m

pub uncovered_in : (ds : List Deed) (x : Deed) → Member x (uncovered ds) → Member x ds
uncovered_in [] x m = absurd m
uncovered_in (d ∷ ds) x m = elim (uncovered_by (deletes d.act || list_any (λ c. covers c d) ds) d (uncovered ds) x m) [
  | inl e ↦ inl e
  | inr n ↦ inr (uncovered_in ds x n)
]

cons_by : {Y : Type 0} (o : Option Y) (ys : List Y) (y : Y) → Member y (cons_option o ys) → (o ≡ Some y) ⊎ Member y ys
cons_by None ys y m = inr m
cons_by (Some x) ys y (inl e) = inl (ap Some e)
cons_by (Some x) ys y (inr m) = inr m

pub picked_in : {X Y : Type 0} (f : X → Option Y) (xs : List X) (y : Y) → Member y (filter_map f xs) → (x : X) × Member x xs × (f x ≡ Some y)
picked_in f [] y m = absurd m
picked_in f (x ∷ xs) y m = elim (cons_by (f x) (filter_map f xs) y m) [
  | inl e ↦ (x, inl refl, e)
  | inr n ↦ let r = picked_in f xs y n in (r.0, inr r.1, r.2)
]

new_in : (b : Bool) (x p : Place) (acc : List Place) → Member p (cond b acc (acc ++ x ∷ [])) → Member p acc ⊎ (x ≡ p)
new_in true x p acc m = inl m
new_in false x p acc m = elim (member_cases p acc (x ∷ []) m) [ inl n ↦ inl n | inr n ↦ elim n [ inl e ↦ inr e | inr k ↦ absurd k ] ]

news_in : (xs acc : List Place) (p : Place) → Member p (fold (with_new place_eq) acc xs) → Member p acc ⊎ Member p xs
news_in [] acc p m = inl m
news_in (x ∷ xs) acc p m = elim (news_in xs (with_new place_eq acc x) p m) [
  | inl n ↦ elim (new_in (list_any (place_eq x) acc) x p acc n) [ inl k ↦ inl k | inr e ↦ inr (inl e) ]
  | inr n ↦ inr (inr n)
]

begun_at : (b : Bool) (d : Deed) (y : Place) → cond b (Some d.at) None ≡ Some y → d.at ≡ y
begun_at true d y e = same_Some d.at y e
begun_at false d y e = absurd (none-some y e)

-- what is there is the root, or the place of a deed
pub spot_in : (us : List Deed) (p : Place) → Member p (spots us) → (p ≡ []) ⊎ ((d : Deed) × Member d us × (d.at ≡ p))
spot_in us p m = elim (news_in (filter_map begun us) ([] ∷ []) p m) [
  | inl n ↦ elim n [ inl e ↦ inl (sym e) | inr k ↦ absurd k ]
  | inr n ↦ let r = picked_in begun us p n in inr (r.0, r.1, begun_at (begins r.0.act) r.0 p r.2)
]

abbrev pub AreGood : List Deed → Type 0
AreGood us = list_all is_good_deed us ≡ true

pub deed_good : (us : List Deed) (d : Deed) → AreGood us → Member d us → (is_good_place d.at ≡ true) × (good_value d.act ≡ true)
deed_good us d h m = and_parts (is_good_place d.at) (good_value d.act) (all_at is_good_deed us d h m)

pub spot_good : (us : List Deed) (p : Place) → AreGood us → Member p (spots us) → is_good_place p ≡ true
spot_good us p h m = elim (spot_in us p m) [
  | inl e ↦ ap is_good_place e
  | inr r ↦ ap is_good_place (sym r.2) ∙ (deed_good us r.0 h r.1).0
]

last_by : {X : Type 0} (xs : List X) (o : Option X) (x : X) → fold (λ _ y. Some y) o xs ≡ Some x → (o ≡ Some x) ⊎ Member x xs
last_by [] o x h = inl h
last_by (y ∷ ys) o x h = elim (last_by ys (Some y) x h) [ inl e ↦ inr (inl (same_Some y x e)) | inr m ↦ inr (inr m) ]

pub last_in : {X : Type 0} (xs : List X) (x : X) → last_of xs ≡ Some x → Member x xs
last_in xs x h = elim (last_by xs None x h) [ inl e ↦ absurd (none-some x e) | inr m ↦ m ]

labelled_if : (b : Bool) (p q : Place) → cond b (Some p) None ≡ Some q → p ≡ q
labelled_if true p q h = same_Some p q h
labelled_if false p q h = absurd (none-some q h)

labelled_at : (n : List ℕ) (p : Place) (act : ActData) (q : Place) → labelled_in n p act ≡ Some q → p ≡ q
labelled_at n p (Open t) q h = absurd (none-some q h)
labelled_at n p Close q h = absurd (none-some q h)
labelled_at n p (Label k) q h = labelled_if (Rattle.std.specs.Str.bytes_eq n k) p q h
labelled_at n p (Assign k v) q h = absurd (none-some q h)
labelled_at n p (DelProp k) q h = absurd (none-some q h)
labelled_at n p (DelNode t) q h = absurd (none-some q h)
labelled_at n p (Omit t) q h = absurd (none-some q h)

named_good : (us : List Deed) (t : Target) (p : Place) → AreGood us → node_of us t ≡ Some p → is_good_place p ≡ true
named_good us target.Root p h e = ap is_good_place (sym (same_Some [] p e))
named_good us (target.Child n) p h e = absurd (none-some p e)
named_good us (target.ByLabel l) p h e =
    let r = picked_in (λ (d : Deed). labelled_in l d.at d.act) us p (last_in (labelled us l) p e) in
    ap is_good_place (sym (labelled_at l r.0.at r.0.act p r.2)) ∙ (deed_good us r.0 h r.1).0
named_good us (target.ByPath text) p h e =
    let r = cond_some (is_there us (place_of text)) (place_of text) p e in
    let s = any_find (place_eq (place_of text)) (spots us) r.0 in
    let same : s.0 ≡ p = sym (same_place (place_of text) s.0 s.2) ∙ r.1 in
    ap is_good_place (sym same) ∙ spot_good us s.0 h s.1

-- ---- reading

pub record IsGood (b : Before) : Type 0 where
  pub deeds : AreGood b.deeds
  pub within : list_all is_good_place b.within ≡ true

pub live_good : (b : Before) → IsGood b → AreGood (live b)
live_good b g = all_from is_good_deed (live b) (λ d m. all_at is_good_deed b.deeds d g.deeds (uncovered_in b.deeds d m))

here_by : (o : Option Place) (within : List Place) → ((p : Place) → o ≡ Some p → Member p within) → list_all is_good_place within ≡ true → is_good_place (unwrap_or o []) ≡ true
here_by None within m h = refl
here_by (Some p) within m h = all_at is_good_place within p h (m p refl)

here_good : (b : Before) → IsGood b → is_good_place (here b) ≡ true
here_good b g = here_by (slice_get b.within (length b.within - 1)) b.within (λ p e. member_at b.within (length b.within - 1) p e) g.within

more_good : (ds : List Deed) (p : Place) (act : ActData) → AreGood ds → is_good_place p ≡ true → good_value act ≡ true → AreGood (ds ++ deed p act ∷ [])
more_good ds p act h k v = all_append is_good_deed ds (deed p act ∷ []) h (and_both (is_good_deed (deed p act)) true (and_both (is_good_place p) (good_value act) k v) refl)

done_good : (b : Before) (p : Place) (act : ActData) → IsGood b → is_good_place p ≡ true → good_value act ≡ true → IsGood (done b p act)
done_good b p act g k v = record { deeds = more_good b.deeds p act g.deeds k v; within = g.within }

there_by : (c : Bool) (b : Before) (p : Place) (act : ActData) → IsGood b → is_good_place p ≡ true → good_value act ≡ true → IsGood (cond c (done b p act) b)
there_by true b p act g k v = done_good b p act g k v
there_by false b p act g k v = g

there_good : (b : Before) (p : Place) (act : ActData) → IsGood b → is_good_place p ≡ true → good_value act ≡ true → IsGood (done_if_there b p act)
there_good b p act g k v = there_by (is_there (live b) p) b p act g k v

abbrev IfGood : {E : Type 0} → Result Before E → Type 0
IfGood (Ok b) = IsGood b
IfGood (Err e) = Unit {0}

at_good : (b : Before) (at : ℕ) (act : ActData) (o : Option Place) (f : Place → List Place) → IsGood b → ((p : Place) → o ≡ Some p → is_good_place p ≡ true) → good_value act ≡ true
    → ((p : Place) → is_good_place p ≡ true → list_all is_good_place (f p) ≡ true) → IfGood (done_at b at act o f)
at_good b at act None f g k v w = tt
at_good b at act (Some p) f g k v w = record { deeds = more_good b.deeds p act g.deeds (k p refl) v; within = w p (k p refl) }

one_good : (p : Place) → is_good_place p ≡ true → list_all is_good_place (p ∷ []) ≡ true
one_good p h = and_both (is_good_place p) true h refl

opening_good : (b : Before) (at : ℕ) (act : ActData) (t : Target) → IsGood b → good_target t ≡ true → good_value act ≡ true → IfGood (opening b at act t)
opening_good b at act (target.Child n) g k v =
    let h : is_good_place (Child n ∷ here b) ≡ true = and_both (is_node_name n) (is_good_place (here b)) k (here_good b g) in
    record { deeds = more_good b.deeds (Child n ∷ here b) act g.deeds h v; within = all_append is_good_place b.within ((Child n ∷ here b) ∷ []) g.within (one_good (Child n ∷ here b) h) }
opening_good b at act target.Root g k v = at_good b at act (node_of (live b) target.Root) (λ p. p ∷ []) g (λ p e. named_good (live b) target.Root p (live_good b g) e) v one_good
opening_good b at act (target.ByLabel l) g k v =
    at_good b at act (node_of (live b) (target.ByLabel l)) (λ p. p ∷ []) g (λ p e. named_good (live b) (target.ByLabel l) p (live_good b g) e) v one_good
opening_good b at act (target.ByPath t) g k v =
    at_good b at act (node_of (live b) (target.ByPath t)) (λ p. p ∷ []) g (λ p e. named_good (live b) (target.ByPath t) p (live_good b g) e) v one_good

naming_good : (b : Before) (at : ℕ) (act : ActData) (t : Target) → IsGood b → good_target t ≡ true → good_value act ≡ true → IfGood (naming b at act t)
naming_good b at act (target.Child n) g k v = there_good b (Child n ∷ here b) act g (and_both (is_node_name n) (is_good_place (here b)) k (here_good b g)) v
naming_good b at act target.Root g k v = at_good b at act (node_of (live b) target.Root) (λ _. []) g (λ p e. named_good (live b) target.Root p (live_good b g) e) v (λ p h. refl)
naming_good b at act (target.ByLabel l) g k v =
    at_good b at act (node_of (live b) (target.ByLabel l)) (λ _. []) g (λ p e. named_good (live b) (target.ByLabel l) p (live_good b g) e) v (λ p h. refl)
naming_good b at act (target.ByPath t) g k v =
    at_good b at act (node_of (live b) (target.ByPath t)) (λ _. []) g (λ p e. named_good (live b) (target.ByPath t) p (live_good b g) e) v (λ p h. refl)

all_take : (f : Place → Bool) (n : ℕ) (xs : List Place) → list_all f xs ≡ true → list_all f (take n xs) ≡ true
all_take f zero xs h = refl
all_take f (suc n) [] h = refl
all_take f (suc n) (x ∷ xs) h = let r = and_parts (f x) (list_all f xs) h in and_both (f x) (list_all f (take n xs)) r.0 (all_take f n xs r.1)

after_good : (b : Before) (at : ℕ) (act : ActData) → IsGood b → good_act act ≡ true → IfGood (after b at act)
after_good b at (Open t) g k = opening_good b at (Open t) t g (and_parts (good_target t) true k).0 refl
after_good b at Close g k = record { deeds = g.deeds; within = all_take is_good_place (length b.within - 1) b.within g.within }
after_good b at (Label l) g k = done_good b (here b) (Label l) g (here_good b g) refl
after_good b at (Assign n v) g k = done_good b (Prop n ∷ here b) (Assign n v) g (here_good b g) k
after_good b at (DelProp n) g k = there_good b (Prop n ∷ here b) (DelProp n) g (here_good b g) refl
after_good b at (DelNode t) g k = naming_good b at (DelNode t) t g (and_parts (good_target t) true k).0 refl
after_good b at (Omit t) g k = naming_good b at (Omit t) t g (and_parts (good_target t) true k).0 refl

on_by : (x : Result Before ℕ) (rest : List StmtData) → IfGood x → ((b : Before) → IsGood b → IfGood (read_on b rest))
    → IfGood (elim x [ Ok next ↦ read_on next rest | Err at ↦ Err at ])
on_by (Ok b) rest g go = go b g
on_by (Err at) rest g go = tt

on_good : (stmts : List StmtData) (b : Before) → IsGood b → list_all good_stmt stmts ≡ true → IfGood (read_on b stmts)
on_good [] b g k = g
on_good (s ∷ rest) b g k =
    let r = and_parts (good_stmt s) (list_all good_stmt rest) k in
    on_by (after b s.at s.act) rest (after_good b s.at s.act g r.0) (λ c h. on_good rest c h r.1)

all_by : (x : Result Before ℕ) (first : ℕ) (rest : List (List StmtData)) → IfGood x → ((b : Before) → IsGood b → IfGood (read_all (first + 1) b rest))
    → IfGood (elim x [ Ok next ↦ read_all (first + 1) next rest | Err at ↦ Err (record { source = first; at = at }) ])
all_by (Ok b) first rest g go = go b g
all_by (Err at) first rest g go = tt

all_good : (scripts : List (List StmtData)) (first : ℕ) (b : Before) → IsGood b → ((s : List StmtData) → Member s scripts → IsNested s) → IfGood (read_all first b scripts)
all_good [] first b g k = g
all_good (s ∷ rest) first b g k =
    all_by (read_on (record b { within = [] }) s) first rest
    (on_good s (record b { within = [] }) (record { deeds = g.deeds; within = refl }) (nested_good s 0 0 (k s (inl refl)).nests))
    (λ c h. all_good rest (first + 1) c h (λ x m. k x (inr m)))

good_if : (x : Result Before Unnamed) (b : Before) → IfGood x → x ≡ Ok b → IsGood b
good_if (Ok c) b g e = let same : c ≡ b = cc in subst IsGood same g
good_if (Err u) b g e = absurd (cc)

-- what statements that nest well leave is good
pub read_good : (scripts : List (List StmtData)) (b : Before) → ((s : List StmtData) → Member s scripts → IsNested s) → read_all 0 start scripts ≡ Ok b → IsGood b
read_good scripts b k e = good_if (read_all 0 start scripts) b (all_good scripts 0 start (record { deeds = refl; within = refl }) k) e

-- ---- values

value_at : (p at : Place) (act : ActData) (v : List PartData) → value_in p at act ≡ Some v → good_value act ≡ true → list_all is_good_part v ≡ true
value_at p at (Open t) v h g = absurd (none-some v h)
value_at p at Close v h g = absurd (none-some v h)
value_at p at (Label l) v h g = absurd (none-some v h)
value_at p at (Assign n w) v h g = subst (λ x. list_all is_good_part x ≡ true) (cond_some (place_eq p at) w v h).1 g
value_at p at (DelProp n) v h g = absurd (none-some v h)
value_at p at (DelNode t) v h g = absurd (none-some v h)
value_at p at (Omit t) v h g = absurd (none-some v h)

last_value : (us : List Deed) (p : Place) (o : Option (List PartData)) → AreGood us → last_of (filter_map (λ (d : Deed). value_in p d.at d.act) us) ≡ o → list_all is_good_part (unwrap_or o []) ≡ true
last_value us p None h e = refl
last_value us p (Some v) h e =
    let r = picked_in (λ (d : Deed). value_in p d.at d.act) us v (last_in (filter_map (λ (d : Deed). value_in p d.at d.act) us) v e) in
    value_at p r.0.at r.0.act v r.2 (deed_good us r.0 h r.1).1

pub value_good : (us : List Deed) (p : Place) → AreGood us → list_all is_good_part (value us p) ≡ true
value_good us p h = last_value us p (last_of (filter_map (λ (d : Deed). value_in p d.at d.act) us)) h refl
