-- Every list of tokens has exactly one outcome.
use Rattle.std.proofs.Common.{◌≡◌, ◌⊎◌, ℕ, zero, suc, ◌+◌, ◌-◌, ◌<◌, ◌≤◌, Bool, true, false, List, [], ◌∷◌, ◌++◌, Option, Some, None, length, codes, refl, sym, ap, subst, ◌∙◌, arith, inl, inr, if◌then◌else◌, length-append, nat_eq, option_map}
use Rattle.std.proofs.lemmas.Bool.{cases_Bool, cases_lt}
use Rattle.edt_base.specs.declared.fault.Rule.TheVariants.{C4, C7}
use Rattle.std.specs.List.{list_any}
use Rattle.c_macro.specs.MacroData.{Macro}
use Rattle.c_macro.specs.Directive.{is_punct}
use Rattle.c_macro.specs.Marked.{Marked}
use Rattle.c_macro.specs.Calls.{Mark, Opens, Closes, Parts, Inner, mark_of, Closed, before_first, with_tok, with_end, closed_here, parted_here, closed_at, closed, commas_of, is_empty, fit_none, fit_some, fitted}
use Rattle.c_macro.specs.Bodies.{Part, Task, Arg, is_full, tasks, parts_of, object_text, call_text}
use Rattle.c_macro.specs.Expansion.{Macros, Look, End, Put, Object, Call, Bad, look_fitted, look_closed, look_call, look_params, look_macro, macro_at, look, Outcome, Done, Refused, ArgsOutcome, Ready, Spoiled, before, with_arg, Expands, ends, puts, bad, object, call, spoiled, ArgsExpand, none, as_written, expanded, refused, Replaced, unjoined, above, within, HasOneOutcome}

-- ---- what is left behind a look is shorter, and so is each argument

abbrev pub AllWithin : ℕ → List (List Marked) → Type 0
AllWithin n [] = Unit {0}
AllWithin n (xs ∷ xss) = (length xs ≤ n) × AllWithin n xss

-- a call's arguments and what follows it are no longer than n
abbrev pub ClosedWithin : ℕ → Option Closed → Type 0
ClosedWithin n None = Unit {0}
ClosedWithin n (Some c) = AllWithin n c.args × (length c.rest ≤ n)

all_more : (n m : ℕ) (xss : List (List Marked)) → n ≤ m → AllWithin n xss → AllWithin m xss
all_more n m [] le h = tt
all_more n m (xs ∷ xss) le h = (omega (arith, h.0), all_more n m xss le h.1)

first_within : (n : ℕ) (t : Marked) (xss : List (List Marked)) → AllWithin n xss → AllWithin (suc n) (before_first t xss)
first_within n t [] h = (omega arith, tt)
first_within n t (xs ∷ xss) h = (omega (arith, h.0), all_more n (suc n) xss (omega arith) h.1)

tok_within : (n : ℕ) (t : Marked) (o : Option Closed) → ClosedWithin n o → ClosedWithin (suc n) (option_map (λ c. with_tok t c) o)
tok_within n t None h = tt
tok_within n t (Some c) h = (first_within n t c.args h.0, omega (arith, h.1))

end_within : (n : ℕ) (o : Option Closed) → ClosedWithin n o → ClosedWithin (suc n) (option_map (λ c. with_end c) o)
end_within n None h = tt
end_within n (Some c) h = ((omega arith, all_more n (suc n) c.args (omega arith) h.0), omega (arith, h.1))

here_within : (deep : ℕ) (t : Marked) (ts : List Marked) (go : ℕ → Option Closed) → ((e : ℕ) → ClosedWithin (length ts) (go e)) → ClosedWithin (suc (length ts)) (closed_here deep t ts go)
here_within zero t ts go h = ((omega arith, tt), omega arith)
here_within (suc deep) t ts go h = tok_within (length ts) t (go deep) (h deep)

parted_within : (n : ℕ) (commas : Option ℕ) (deep : ℕ) (t : Marked) (go : Option ℕ → Option Closed) → ((c : Option ℕ) → ClosedWithin n (go c)) → ClosedWithin (suc n) (parted_here commas deep t go)
parted_within n commas (suc deep) t go h = tok_within n t (go commas) (h commas)
parted_within n None zero t go h = end_within n (go None) (h None)
parted_within n (Some zero) zero t go h = tok_within n t (go (Some zero)) (h (Some zero))
parted_within n (Some (suc m)) zero t go h = end_within n (go (Some m)) (h (Some m))

at_within : (k : Mark) (commas : Option ℕ) (deep : ℕ) (t : Marked) (ts : List Marked) (go : Option ℕ → ℕ → Option Closed)
    → ((c : Option ℕ) (e : ℕ) → ClosedWithin (length ts) (go c e)) → ClosedWithin (suc (length ts)) (closed_at k commas deep t ts go)
at_within Opens commas deep t ts go h = tok_within (length ts) t (go commas (suc deep)) (h commas (suc deep))
at_within Closes commas deep t ts go h = here_within deep t ts (go commas) (h commas)
at_within Parts commas deep t ts go h = parted_within (length ts) commas deep t (λ c. go c deep) (λ c. h c deep)
at_within Inner commas deep t ts go h = tok_within (length ts) t (go commas deep) (h commas deep)

pub closed_within : (commas : Option ℕ) (deep : ℕ) (ts : List Marked) → ClosedWithin (length ts) (closed commas deep ts)
closed_within commas deep [] = tt
closed_within commas deep (t ∷ ts) = at_within (mark_of t.tok) commas deep t ts (λ c e. closed c e ts) (λ c e. closed_within c e ts)

abbrev pub ArgsWithin : ℕ → Option (List (List Marked)) → Type 0
ArgsWithin n None = Unit {0}
ArgsWithin n (Some xss) = AllWithin n xss

if_args : (n : ℕ) (b : Bool) (xss : List (List Marked)) (o : Option (List (List Marked))) → AllWithin n xss → ArgsWithin n o → ArgsWithin n (if b then Some xss else o)
if_args n true xss o h k = h
if_args n false xss o h k = k

none_within : (n : ℕ) (xss : List (List Marked)) → AllWithin n xss → ArgsWithin n (fit_none xss)
none_within n [] h = tt
none_within n (xs ∷ []) h = if_args n (is_empty xs) [] None tt tt
none_within n (xs ∷ ys ∷ xss) h = tt

some_within : (n m : ℕ) (xss : List (List Marked)) → AllWithin n xss → ArgsWithin n (fit_some m xss)
some_within n zero xss h = none_within n xss h
some_within n (suc m) xss h = if_args n (nat_eq (length xss) (suc m)) xss None h tt

all_end : (n : ℕ) (xss : List (List Marked)) → AllWithin n xss → AllWithin n (xss ++ [] ∷ [])
all_end n [] h = (omega arith, tt)
all_end n (xs ∷ xss) h = (h.0, all_end n xss h.1)

fitted_within : (n : ℕ) (names : List (List ℕ)) (variadic : Bool) (xss : List (List Marked)) → AllWithin n xss → ArgsWithin n (fitted names variadic xss)
fitted_within n names true xss h = if_args n (nat_eq (length xss) (suc (length names))) xss _ h (if_args n (nat_eq (length xss) (length names)) (xss ++ [] ∷ []) None (all_end n xss h) tt)
fitted_within n names false xss h = some_within n (length names) xss h

-- each task expands no more than n tokens
abbrev pub TasksWithin : ℕ → List Task → Type 0
TasksWithin n [] = Unit {0}
TasksWithin n (x ∷ xs) = (length x.raw ≤ n) × TasksWithin n xs

if_within : (n : ℕ) (b : Bool) (xs : List Marked) → length xs ≤ n → length (if b then xs else []) ≤ n
if_within n true xs h = h
if_within n false xs h = omega arith

tasks_within : (n : ℕ) (ps : List Part) (i : ℕ) (xss : List (List Marked)) → AllWithin n xss → TasksWithin n (tasks ps i xss)
tasks_within n ps i [] h = tt
tasks_within n ps i (xs ∷ xss) h = (if_within n (list_any (is_full i) ps) xs h.0, tasks_within n ps (i + 1) xss h.1)

-- a look at n tokens and one more
abbrev pub ShortLook : ℕ → Look → Type 0
ShortLook n End = Unit {0}
ShortLook n (Put t rest) = length rest ≤ n
ShortLook n (Object t m rest) = length rest ≤ n
ShortLook n (Call t m names raws last rest) = AllWithin n raws × (length rest ≤ n)
ShortLook n (Bad r) = Unit {0}

short_fitted : (n : ℕ) (t : Marked) (m : Macro) (names : List (List ℕ)) (c : Closed) (o : Option (List (List Marked))) → ArgsWithin n o → length c.rest ≤ n → ShortLook n (look_fitted t m names c o)
short_fitted n t m names c None h le = tt
short_fitted n t m names c (Some raws) h le = (h, le)

short_closed : (n : ℕ) (t : Marked) (m : Macro) (names : List (List ℕ)) (o : Option Closed) → ClosedWithin n o → ShortLook n (look_closed t m names o)
short_closed n t m names None h = tt
short_closed n t m names (Some c) h = short_fitted n t m names c (fitted names m.variadic c.args) (fitted_within n names m.variadic c.args h.0) h.1

closed_more : (n m : ℕ) (o : Option Closed) → n ≤ m → ClosedWithin n o → ClosedWithin m o
closed_more n m None le h = tt
closed_more n m (Some c) le h = (all_more n m c.args le h.0, omega (arith, h.1))

short_if : (n : ℕ) (b : Bool) (l k : Look) → ShortLook n l → ShortLook n k → ShortLook n (if b then l else k)
short_if n true l k h g = h
short_if n false l k h g = g

short_call : (t : Marked) (m : Macro) (names : List (List ℕ)) (rest : List Marked) → ShortLook (length rest) (look_call t m names rest)
short_call t m names [] = omega arith
short_call t m names (u ∷ us) =
    short_if (suc (length us)) (is_punct (codes "(") u.tok) _ _
    (short_closed (suc (length us)) t m names (closed (commas_of names m.variadic) 0 us) (closed_more (length us) (suc (length us)) _ (omega arith) (closed_within (commas_of names m.variadic) 0 us)))
    (omega arith)

short_params : (t : Marked) (m : Macro) (o : Option (List (List ℕ))) (rest : List Marked) → ShortLook (length rest) (look_params t m o rest)
short_params t m None rest = omega arith
short_params t m (Some names) rest = short_call t m names rest

short_macro : (t : Marked) (o : Option Macro) (rest : List Marked) → ShortLook (length rest) (look_macro t o rest)
short_macro t None rest = omega arith
short_macro t (Some m) rest = short_params t m m.params rest

-- a look at so many tokens leaves fewer
abbrev pub Shorter : ℕ → Look → Type 0
Shorter zero l = l ≡ End
Shorter (suc n) l = ShortLook n l

pub look_shorter : (d : Macros) (ts : List Marked) → Shorter (length ts) (look d ts)
look_shorter d [] = refl
look_shorter d (t ∷ ts) = short_macro t (macro_at d t) ts

-- ---- at most one outcome

module _ (limit : ℕ) (d : Macros) where
  -- what an outcome comes from
  abbrev pub FromArgs : Marked → Macro → List (List ℕ) → Marked → List Marked → ArgsOutcome → Outcome → Type 0
  FromArgs t m names last rest (Ready args v) o = Replaced limit d (call_text t m names last args) rest v o
  FromArgs t m names last rest (Spoiled r) o = o ≡ Refused r

  abbrev pub FromLook : Look → ℕ → Outcome → Type 0
  FromLook End u o = o ≡ Done [] u
  FromLook (Put t rest) u o = (q : Outcome) × Expands limit d rest u q × (o ≡ before (t ∷ []) q)
  FromLook (Object t m rest) u o = Replaced limit d (object_text t m) rest u o
  FromLook (Call t m names raws last rest) u o = (a : ArgsOutcome) × ArgsExpand limit d (tasks (parts_of m (Some names)) 0 raws) u a × FromArgs t m names last rest a o
  FromLook (Bad r) u o = o ≡ Refused r

  from : (ts : List Marked) (u : ℕ) (o : Outcome) → Expands limit d ts u o → FromLook (look d ts) u o
  from _ _ _ (ends ts u l) = rw l refl
  from _ _ _ (puts ts u t rest o l h) = rw l (o, h, refl)
  from _ _ _ (bad ts u r l) = rw l refl
  from _ _ _ (object ts u t m rest o l h) = rw l h
  from _ _ _ (call ts u t m names raws last rest args v o l h g) = rw l (Ready args v, h, g)
  from _ _ _ (spoiled ts u t m names raws last rest r l h) = rw l (Spoiled r, h, refl)

  abbrev pub FromFull : Task → List Task → Outcome → ArgsOutcome → Type 0
  FromFull x xs (Done full v) a = (b : ArgsOutcome) × ArgsExpand limit d xs v b × (a ≡ with_arg (record { written = x.written; full = full }) b)
  FromFull x xs (Refused r) a = a ≡ Spoiled r

  abbrev pub FromTask : Bool → Task → List Task → ℕ → ArgsOutcome → Type 0
  FromTask false x xs u a = (b : ArgsOutcome) × ArgsExpand limit d xs u b × (a ≡ with_arg (record { written = x.written; full = [] }) b)
  FromTask true x xs u a = (o : Outcome) × Expands limit d x.raw u o × FromFull x xs o a

  abbrev pub FromTasks : List Task → ℕ → ArgsOutcome → Type 0
  FromTasks [] u a = a ≡ Ready [] u
  FromTasks (x ∷ xs) u a = FromTask x.wanted x xs u a

  from_tasks : (xs : List Task) (u : ℕ) (a : ArgsOutcome) → ArgsExpand limit d xs u a → FromTasks xs u a
  from_tasks _ _ _ (none u) = refl
  from_tasks _ _ _ (as_written x xs u o w h) = rw w (o, h, refl)
  from_tasks _ _ _ (expanded x xs u full v o w h g) = rw w (Done full v, h, (o, g, refl))
  from_tasks _ _ _ (refused x xs u r w h) = rw w (Refused r, h, refl)

  abbrev pub FromText : Option (List Marked) → List Marked → ℕ → Outcome → Type 0
  FromText None rest u o = o ≡ Refused C4
  FromText (Some new) rest u o = ((limit < u + 1 + length new) × (o ≡ Refused C7)) ⊎ ((u + 1 + length new ≤ limit) × Expands limit d (new ++ rest) (u + 1 + length new) o)

  from_text : (new : Option (List Marked)) (rest : List Marked) (u : ℕ) (o : Outcome) → Replaced limit d new rest u o → FromText new rest u o
  from_text _ _ _ _ (unjoined rest u) = refl
  from_text _ _ _ _ (above new rest u far) = inl (far, refl)
  from_text _ _ _ _ (within new rest u o near h) = inr (near, h)

  mutual
    same : (ts : List Marked) (u : ℕ) (o p : Outcome) → Expands limit d ts u o → Expands limit d ts u p → o ≡ p
    same _ _ _ p (ends ts u l) g = let k : FromLook End u p = rw l at (from ts u p g) in sym k
    same _ _ _ p (puts ts u t rest o l h) g =
        let k : FromLook (Put t rest) u p = rw l at (from ts u p g) in
        ap (before (t ∷ [])) (same rest u o k.0 h k.1) ∙ sym k.2
    same _ _ _ p (bad ts u r l) g = let k : FromLook (Bad r) u p = rw l at (from ts u p g) in sym k
    same _ _ _ p (object ts u t m rest o l h) g =
        let k : FromLook (Object t m rest) u p = rw l at (from ts u p g) in
        same_text (object_text t m) rest u o p h k
    same _ _ _ p (call ts u t m names raws last rest args v o l h f) g =
        let k : FromLook (Call t m names raws last rest) u p = rw l at (from ts u p g) in
        let e : Ready args v ≡ k.0 = same_args (tasks (parts_of m (Some names)) 0 raws) u (Ready args v) k.0 h k.1 in
        let q : FromArgs t m names last rest (Ready args v) p = subst (λ a. FromArgs t m names last rest a p) (sym e) k.2 in
        same_text (call_text t m names last args) rest v o p f q
    same _ _ _ p (spoiled ts u t m names raws last rest r l h) g =
        let k : FromLook (Call t m names raws last rest) u p = rw l at (from ts u p g) in
        let e : Spoiled r ≡ k.0 = same_args (tasks (parts_of m (Some names)) 0 raws) u (Spoiled r) k.0 h k.1 in
        let q : FromArgs t m names last rest (Spoiled r) p = subst (λ a. FromArgs t m names last rest a p) (sym e) k.2 in
        sym q

    same_args : (xs : List Task) (u : ℕ) (a b : ArgsOutcome) → ArgsExpand limit d xs u a → ArgsExpand limit d xs u b → a ≡ b
    same_args _ _ _ b (none u) g = sym (from_tasks [] u b g)
    same_args _ _ _ b (as_written x xs u o w h) g =
        let k : FromTask false x xs u b = rw w at (from_tasks (x ∷ xs) u b g) in
        ap (with_arg (record { written = x.written; full = [] })) (same_args xs u o k.0 h k.1) ∙ sym k.2
    same_args _ _ _ b (expanded x xs u full v o w h f) g =
        let k : FromTask true x xs u b = rw w at (from_tasks (x ∷ xs) u b g) in
        let e : Done full v ≡ k.0 = same x.raw u (Done full v) k.0 h k.1 in
        let q : FromFull x xs (Done full v) b = subst (λ z. FromFull x xs z b) (sym e) k.2 in
        ap (with_arg (record { written = x.written; full = full })) (same_args xs v o q.0 f q.1) ∙ sym q.2
    same_args _ _ _ b (refused x xs u r w h) g =
        let k : FromTask true x xs u b = rw w at (from_tasks (x ∷ xs) u b g) in
        let e : Refused r ≡ k.0 = same x.raw u (Refused r) k.0 h k.1 in
        let q : FromFull x xs (Refused r) b = subst (λ z. FromFull x xs z b) (sym e) k.2 in
        sym q

    same_text : (new : Option (List Marked)) (rest : List Marked) (u : ℕ) (o p : Outcome) → Replaced limit d new rest u o → Replaced limit d new rest u p → o ≡ p
    same_text _ _ _ _ p (unjoined rest u) g = sym (from_text None rest u p g)
    same_text _ _ _ _ p (above new rest u far) g = elim (from_text (Some new) rest u p g) [ inl k ↦ sym k.1 | inr k ↦ absurd (omega (arith, k.0)) ]
    same_text _ _ _ _ p (within new rest u o near h) g = elim (from_text (Some new) rest u p g) [
      | inl k ↦ absurd (omega (arith, k.0))
      | inr k ↦ same (new ++ rest) (u + 1 + length new) o p h k.1
    ]

  -- ---- at least one outcome; units don't fall

  abbrev pub Rises : ℕ → Outcome → Type 0
  Rises u (Done out v) = u ≤ v
  Rises u (Refused r) = Unit {0}

  abbrev pub ArgsRise : ℕ → ArgsOutcome → Type 0
  ArgsRise u (Ready args v) = u ≤ v
  ArgsRise u (Spoiled r) = Unit {0}

  pub record Found (ts : List Marked) (u : ℕ) : Type 0 where
    pub o : Outcome
    pub is : Expands limit d ts u o
    pub rises : Rises u o

  pub record FoundArgs (xs : List Task) (u : ℕ) : Type 0 where
    pub a : ArgsOutcome
    pub is : ArgsExpand limit d xs u a
    pub rises : ArgsRise u a

  pub record FoundText (new : Option (List Marked)) (rest : List Marked) (u : ℕ) : Type 0 where
    pub o : Outcome
    pub is : Replaced limit d new rest u o
    pub rises : Rises u o

  rises_before : (u : ℕ) (ts : List Marked) (o : Outcome) → Rises u o → Rises u (before ts o)
  rises_before u ts (Done out v) h = h
  rises_before u ts (Refused r) h = tt

  rise_with : (u v : ℕ) (x : Arg) (a : ArgsOutcome) → u ≤ v → ArgsRise v a → ArgsRise u (with_arg x a)
  rise_with u v x (Ready args w) le h = omega (arith, h)
  rise_with u v x (Spoiled r) le h = tt

  rises_from : (u v : ℕ) (o : Outcome) → u ≤ v → Rises v o → Rises u o
  rises_from u v (Done out w) le h = omega (arith, h)
  rises_from u v (Refused r) le h = tt

  -- whatever is shorter has an outcome
  abbrev pub Below : ℕ → Type 0
  Below k = (ts : List Marked) (u : ℕ) → length ts + (limit - u) < k → Found ts u

  found_text : (k : ℕ) → Below k → (new : Option (List Marked)) (rest : List Marked) (u : ℕ) → length rest + (limit - u) ≤ k → FoundText new rest u
  found_text k go None rest u le = record { o = Refused C4; is = unjoined rest u; rises = tt }
  found_text k go (Some new) rest u le = elim (cases_lt limit (u + 1 + length new)) [
    | inl far ↦ record { o = Refused C7; is = above new rest u far; rises = tt }
    | inr near ↦
        let len : length (new ++ rest) ≡ length new + length rest = length-append new rest in
        let f : Found (new ++ rest) (u + 1 + length new) = go (new ++ rest) (u + 1 + length new) (omega arith) in
        record { o = f.o; is = within new rest u f.o near f.is; rises = rises_from u (u + 1 + length new) f.o (omega arith) f.rises }
  ]

  found_full : (x : Task) (xs : List Task) (u : ℕ) → x.wanted ≡ true → (o : Outcome) → Expands limit d x.raw u o → Rises u o → ((v : ℕ) → u ≤ v → FoundArgs xs v) → FoundArgs (x ∷ xs) u
  found_full x xs u w (Done full v) h up rest =
      let f : FoundArgs xs v = rest v up in
      record {
        a = with_arg (record { written = x.written; full = full }) f.a;
        is = expanded x xs u full v f.a w h f.is;
        rises = rise_with u v (record { written = x.written; full = full }) f.a up f.rises;
      }
  found_full x xs u w (Refused r) h up rest = record { a = Spoiled r; is = refused x xs u r w h; rises = tt }

  found_args : (k n : ℕ) → Below k → (xs : List Task) (u : ℕ) → TasksWithin n xs → n + (limit - u) < k → FoundArgs xs u
  found_args k n go [] u h le = record { a = Ready [] u; is = none u; rises = omega arith }
  found_args k n go (x ∷ xs) u h le = elim (cases_Bool x.wanted) [
    | inl w ↦
        let f : Found x.raw u = go x.raw u (omega (arith, h.0)) in
        found_full x xs u w f.o f.is f.rises (λ v up. found_args k n go xs v h.1 (omega (arith, up)))
    | inr w ↦
        let f : FoundArgs xs u = found_args k n go xs u h.1 le in
        record {
          a = with_arg (record { written = x.written; full = [] }) f.a;
          is = as_written x xs u f.a w f.is;
          rises = rise_with u u (record { written = x.written; full = [] }) f.a (omega arith) f.rises;
        }
  ]

  found_call : (k n : ℕ) → Below k → (ts : List Marked) (u : ℕ) (t : Marked) (m : Macro) (names : List (List ℕ)) (raws : List (List Marked)) (last : Marked) (rest : List Marked)
      → look d ts ≡ Call t m names raws last rest → length rest ≤ n → n + (limit - u) < k
      → (a : ArgsOutcome) → ArgsExpand limit d (tasks (parts_of m (Some names)) 0 raws) u a → ArgsRise u a → Found ts u
  found_call k n go ts u t m names raws last rest l short le (Ready args v) h up =
      let f : FoundText (call_text t m names last args) rest v = found_text k go (call_text t m names last args) rest v (omega (arith, up)) in
      record { o = f.o; is = call ts u t m names raws last rest args v f.o l h f.is; rises = rises_from u v f.o up f.rises }
  found_call k n go ts u t m names raws last rest l short le (Spoiled r) h up =
      record { o = Refused r; is = spoiled ts u t m names raws last rest r l h; rises = tt }

  found_look : (k n : ℕ) → Below k → (ts : List Marked) (u : ℕ) (l : Look) → look d ts ≡ l → ShortLook n l → n + (limit - u) < k → Found ts u
  found_look k n go ts u End e short le = record { o = Done [] u; is = ends ts u e; rises = omega arith }
  found_look k n go ts u (Put t rest) e short le =
      let f : Found rest u = go rest u (omega arith) in
      record { o = before (t ∷ []) f.o; is = puts ts u t rest f.o e f.is; rises = rises_before u (t ∷ []) f.o f.rises }
  found_look k n go ts u (Object t m rest) e short le =
      let f : FoundText (object_text t m) rest u = found_text k go (object_text t m) rest u (omega arith) in
      record { o = f.o; is = object ts u t m rest f.o e f.is; rises = f.rises }
  found_look k n go ts u (Call t m names raws last rest) e short le =
      let f : FoundArgs (tasks (parts_of m (Some names)) 0 raws) u = found_args k n go (tasks (parts_of m (Some names)) 0 raws) u (tasks_within n (parts_of m (Some names)) 0 raws short.0) le in
      found_call k n go ts u t m names raws last rest e short.1 le f.a f.is f.rises
  found_look k n go ts u (Bad r) e short le = record { o = Refused r; is = bad ts u r e; rises = tt }

  found : (k : ℕ) → Below k
  found zero ts u le = absurd (omega arith)
  found (suc k) [] u le = record { o = Done [] u; is = ends [] u refl; rises = omega arith }
  found (suc k) (t ∷ ts) u le = found_look k (length ts) (found k) (t ∷ ts) u (look d (t ∷ ts)) refl (look_shorter d (t ∷ ts)) (omega arith)

pub one_outcome : HasOneOutcome
one_outcome limit d ts u =
    let f : Found limit d ts u = found limit d (suc (length ts + (limit - u))) ts u (omega arith) in
    (f.o, f.is, λ p h. same limit d ts u f.o p f.is h)
