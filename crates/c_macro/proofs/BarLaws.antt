-- Bars of names that have no definition.
use Rattle.std.proofs.Common.{◌≡◌, ℕ, zero, suc, ◌+◌, ◌<◌, ◌≤◌, Bool, true, false, not, ◌&&◌, ◌||◌, List, [], ◌∷◌, ◌++◌, Option, Some, None, is_some, option_map, map, length, nat_eq, slice_index_or, refl, sym, ap, subst, ◌∙◌, codes, arith, inl, inr, if◌then◌else◌}
use Rattle.std.proofs.lemmas.Bool.{cases_Bool}
use Rattle.std.proofs.lemmas.Slice.Eq.{bytes_eq-Decides}
use Rattle.std.specs.List.{list_any, flat_map}
use Rattle.std.specs.Str.{bytes_eq}
use Rattle.edt_base.specs.declared.fault.Rule.TheVariants.{C4, C7}
use Rattle.c_tokens.specs.declared.tok.TokKind.{TokKind}
use Rattle.c_tokens.specs.Grammar.{kind_of}
use Rattle.c_macro.specs.MacroData.{Macro}
use Rattle.c_macro.specs.Directive.{is_word, is_punct}
use Rattle.c_macro.specs.Marked.{Bars, no_bars, with_bar, either_bars, common_bars, Marked}
use Rattle.c_macro.specs.Calls.{Mark, Opens, Closes, Parts, Inner, mark_of, Closed, before_first, with_tok, with_end, closed_at, closed, commas_of, is_empty, fit_none, fit_some, fit_variable, fitted}
use Rattle.c_macro.specs.Bodies.{Part, Own, Join, Text, Written, Full, Task, Arg, no_arg, is_written, is_full, task_of, tasks, parts_of, string_of, text_spelling, text_spaced, text_spellings, Item, One, Blank, Glue, respaced, spaced_as, ones, side_items, part_items, items, joined_tok, join, item_toks, joined_on, joined_from, joined, add_bars, placed, object_text, call_text}
use Rattle.c_macro.specs.Expansion.{Macros, Look, End, Put, Object, Call, Bad, look_fitted, look_closed, look_call, look_params, look_macro, macro_at, look, Outcome, Done, Refused, ArgsOutcome, Ready, Spoiled, before, with_arg, Expands, ends, puts, bad, object, call, spoiled, ArgsExpand, none, as_written, expanded, refused, Replaced, unjoined, above, within}
use Rattle.c_macro.specs.Laws.{known_bars, known_mark, known_marks, known_outcome, OtherBarsAreIdle}
use Rattle.c_macro.proofs.OneOutcome.{one_outcome}

map_append : {A B : Type 0} (g : A → B) (xs ys : List A) → map g (xs ++ ys) ≡ map g xs ++ map g ys
map_append g [] ys = refl
map_append g (x ∷ xs) ys = ap (λ zs. g x ∷ zs) (map_append g xs ys)

map_length : {A B : Type 0} (g : A → B) (xs : List A) → length (map g xs) ≡ length xs
map_length g [] = refl
map_length g (x ∷ xs) = ap suc (map_length g xs)

spread_or : (s a b : Bool) → (s && (a || b)) ≡ ((s && a) || (s && b))
spread_or true a b = refl
spread_or false a b = refl

spread_and : (s a b : Bool) → ((s && a) && (s && b)) ≡ (s && (a && b))
spread_and true a b = refl
spread_and false a b = refl

and_none : (s : Bool) → (s && false) ≡ false
and_none true = refl
and_none false = refl

module _ (d : Macros) where
  abbrev k : Bars → Bars
  k b = known_bars d b

  abbrev f : Marked → Marked
  f t = known_mark d t

  abbrev fs : List Marked → List Marked
  fs ts = map (known_mark d) ts

  abbrev fss : List (List Marked) → List (List Marked)
  fss xss = map (map (known_mark d)) xss

  -- ---- bars

  k_none : k no_bars ≡ no_bars
  k_none = λ i n. and_none (is_some (d n)) i

  k_either : (a b : Bars) → k (either_bars a b) ≡ either_bars (k a) (k b)
  k_either a b = λ i n. spread_or (is_some (d n)) (a n) (b n) i

  k_common : (a b : Bars) → common_bars (k a) (k b) ≡ k (common_bars a b)
  k_common a b = λ i n. spread_and (is_some (d n)) (a n) (b n) i

  with_at : (b : Bars) (name n : List ℕ) → is_some (d name) ≡ true → (is_some (d n) && (bytes_eq n name || b n)) ≡ (bytes_eq n name || (is_some (d n) && b n))
  with_at b name n h = elim (cases_Bool (bytes_eq n name)) [
    | inl e ↦ let s : is_some (d n) ≡ true = ap (λ x. is_some (d x)) ((bytes_eq-Decides n name).0 e) ∙ h in rw (e, s) refl
    | inr e ↦ rw e refl
  ]

  k_with : (b : Bars) (name : List ℕ) → is_some (d name) ≡ true → k (with_bar b name) ≡ with_bar (k b) name
  k_with b name h = λ i n. with_at b name n h i

  -- ---- the first token

  same_macro : (w b : Bool) (o : Option Macro) → (if w && not (is_some o && b) then o else None) ≡ (if w && not b then o else None)
  same_macro false b o = refl
  same_macro true b (Some m) = refl
  same_macro true true None = refl
  same_macro true false None = refl

  macro_known : (t : Marked) → macro_at d (f t) ≡ macro_at d t
  macro_known t = same_macro (is_word t.tok) (t.bars t.tok.spell) (d t.tok.spell)

  abbrev of_closed : Closed → Closed
  of_closed c = record { args = fss c.args; last = f c.last; rest = fs c.rest }

  first_known : (t : Marked) (xss : List (List Marked)) → before_first (f t) (fss xss) ≡ fss (before_first t xss)
  first_known t [] = refl
  first_known t (xs ∷ xss) = refl

  tok_known : (t : Marked) (o p : Option Closed) → p ≡ option_map of_closed o → option_map (λ c. with_tok (f t) c) p ≡ option_map of_closed (option_map (λ c. with_tok t c) o)
  tok_known t None p e = ap (option_map (λ c. with_tok (f t) c)) e
  tok_known t (Some c) p e =
      ap (option_map (λ c. with_tok (f t) c)) e ∙ ap (λ (xss : List (List Marked)). Some (record { args = xss; last = f c.last; rest = fs c.rest })) (first_known t c.args)

  end_known : (o p : Option Closed) → p ≡ option_map of_closed o → option_map (λ c. with_end c) p ≡ option_map of_closed (option_map (λ c. with_end c) o)
  end_known None p e = ap (option_map (λ c. with_end c)) e
  end_known (Some c) p e = ap (option_map (λ c. with_end c)) e

  at_known : (m : Mark) (n : Option ℕ) (deep : ℕ) (t : Marked) (ts : List Marked) (g h : Option ℕ → ℕ → Option Closed) → ((j : Option ℕ) (e : ℕ) → h j e ≡ option_map of_closed (g j e))
      → closed_at m n deep (f t) (fs ts) h ≡ option_map of_closed (closed_at m n deep t ts g)
  at_known Opens n deep t ts g h e = tok_known t (g n (suc deep)) (h n (suc deep)) (e n (suc deep))
  at_known Closes n zero t ts g h e = refl
  at_known Closes n (suc deep) t ts g h e = tok_known t (g n deep) (h n deep) (e n deep)
  at_known Parts n (suc deep) t ts g h e = tok_known t (g n (suc deep)) (h n (suc deep)) (e n (suc deep))
  at_known Parts None zero t ts g h e = end_known (g None zero) (h None zero) (e None zero)
  at_known Parts (Some zero) zero t ts g h e = tok_known t (g (Some zero) zero) (h (Some zero) zero) (e (Some zero) zero)
  at_known Parts (Some (suc n)) zero t ts g h e = end_known (g (Some n) zero) (h (Some n) zero) (e (Some n) zero)
  at_known Inner n deep t ts g h e = tok_known t (g n deep) (h n deep) (e n deep)

  closed_known : (n : Option ℕ) (deep : ℕ) (ts : List Marked) → closed n deep (fs ts) ≡ option_map of_closed (closed n deep ts)
  closed_known n deep [] = refl
  closed_known n deep (t ∷ ts) = at_known (mark_of t.tok) n deep t ts (λ j e. closed j e ts) (λ j e. closed j e (fs ts)) (λ j e. closed_known j e ts)

  abbrev of_args : Option (List (List Marked)) → Option (List (List Marked))
  of_args o = option_map (map (map (known_mark d))) o

  if_args : (b : Bool) (xss : List (List Marked)) (o p : Option (List (List Marked))) → p ≡ of_args o → (if b then Some (fss xss) else p) ≡ of_args (if b then Some xss else o)
  if_args true xss o p e = refl
  if_args false xss o p e = e

  none_known : (xss : List (List Marked)) → fit_none (fss xss) ≡ of_args (fit_none xss)
  none_known [] = refl
  none_known ([] ∷ []) = refl
  none_known ((x ∷ xs) ∷ []) = refl
  none_known (xs ∷ ys ∷ xss) = refl

  some_known : (n : ℕ) (xss : List (List Marked)) → fit_some n (fss xss) ≡ of_args (fit_some n xss)
  some_known zero xss = none_known xss
  some_known (suc n) xss =
      ap (λ m. if nat_eq m (suc n) then Some (fss xss) else None) (map_length (map (known_mark d)) xss) ∙ if_args (nat_eq (length xss) (suc n)) xss None None refl

  variable_known : (n : ℕ) (xss : List (List Marked)) → fit_variable n (fss xss) ≡ of_args (fit_variable n xss)
  variable_known n xss =
      ap (λ m. if nat_eq m (suc n) then Some (fss xss) else if nat_eq m n then Some (fss xss ++ [] ∷ []) else None) (map_length (map (known_mark d)) xss)
      ∙ if_args (nat_eq (length xss) (suc n)) xss _ _
      (ap (λ yss. if nat_eq (length xss) n then Some yss else None) (sym (map_append (map (known_mark d)) xss ([] ∷ []))) ∙ if_args (nat_eq (length xss) n) (xss ++ [] ∷ []) None None refl)

  fitted_known : (names : List (List ℕ)) (variadic : Bool) (xss : List (List Marked)) → fitted names variadic (fss xss) ≡ of_args (fitted names variadic xss)
  fitted_known names true xss = variable_known (length names) xss
  fitted_known names false xss = some_known (length names) xss

  abbrev of_look : Look → Look
  of_look End = End
  of_look (Put t rest) = Put (f t) (fs rest)
  of_look (Object t m rest) = Object (f t) m (fs rest)
  of_look (Call t m names raws last rest) = Call (f t) m names (fss raws) (f last) (fs rest)
  of_look (Bad r) = Bad r

  look_fitted_known : (t : Marked) (m : Macro) (names : List (List ℕ)) (c : Closed) (o p : Option (List (List Marked))) → p ≡ of_args o → look_fitted (f t) m names (of_closed c) p ≡ of_look (look_fitted t m names c o)
  look_fitted_known t m names c None p e = ap (look_fitted (f t) m names (of_closed c)) e
  look_fitted_known t m names c (Some raws) p e = ap (look_fitted (f t) m names (of_closed c)) e

  look_closed_known : (t : Marked) (m : Macro) (names : List (List ℕ)) (o p : Option Closed) → p ≡ option_map of_closed o → look_closed (f t) m names p ≡ of_look (look_closed t m names o)
  look_closed_known t m names None p e = ap (look_closed (f t) m names) e
  look_closed_known t m names (Some c) p e =
      ap (look_closed (f t) m names) e ∙ look_fitted_known t m names c (fitted names m.variadic c.args) _ (fitted_known names m.variadic c.args)

  if_look : (b : Bool) (x y z w : Look) → y ≡ of_look x → w ≡ of_look z → (if b then y else w) ≡ of_look (if b then x else z)
  if_look true x y z w e g = e
  if_look false x y z w e g = g

  look_call_known : (t : Marked) (m : Macro) (names : List (List ℕ)) (rest : List Marked) → look_call (f t) m names (fs rest) ≡ of_look (look_call t m names rest)
  look_call_known t m names [] = refl
  look_call_known t m names (u ∷ us) =
      if_look (is_punct (codes "(") u.tok) _ _ _ _ (look_closed_known t m names (closed (commas_of names m.variadic) 0 us) _ (closed_known (commas_of names m.variadic) 0 us)) refl

  look_params_known : (t : Marked) (m : Macro) (o : Option (List (List ℕ))) (rest : List Marked) → look_params (f t) m o (fs rest) ≡ of_look (look_params t m o rest)
  look_params_known t m None rest = refl
  look_params_known t m (Some names) rest = look_call_known t m names rest

  look_macro_known : (t : Marked) (o : Option Macro) (rest : List Marked) → look_macro (f t) o (fs rest) ≡ of_look (look_macro t o rest)
  look_macro_known t None rest = refl
  look_macro_known t (Some m) rest = look_params_known t m m.params rest

  look_known : (ts : List Marked) → look d (fs ts) ≡ of_look (look d ts)
  look_known [] = refl
  look_known (t ∷ ts) = ap (λ o. look_macro (f t) o (fs ts)) (macro_known t) ∙ look_macro_known t (macro_at d t) ts

  -- the name that is replaced has a definition
  abbrev IsDefined : Look → Type 0
  IsDefined End = Unit {0}
  IsDefined (Put t rest) = Unit {0}
  IsDefined (Object t m rest) = is_some (d t.tok.spell) ≡ true
  IsDefined (Call t m names raws last rest) = is_some (d t.tok.spell) ≡ true
  IsDefined (Bad r) = Unit {0}

  defined_if : (b : Bool) (x y : Look) → IsDefined x → IsDefined y → IsDefined (if b then x else y)
  defined_if true x y h g = h
  defined_if false x y h g = g

  defined_fitted : (t : Marked) (m : Macro) (names : List (List ℕ)) (c : Closed) (o : Option (List (List Marked))) → is_some (d t.tok.spell) ≡ true → IsDefined (look_fitted t m names c o)
  defined_fitted t m names c None h = tt
  defined_fitted t m names c (Some raws) h = h

  defined_closed : (t : Marked) (m : Macro) (names : List (List ℕ)) (o : Option Closed) → is_some (d t.tok.spell) ≡ true → IsDefined (look_closed t m names o)
  defined_closed t m names None h = tt
  defined_closed t m names (Some c) h = defined_fitted t m names c (fitted names m.variadic c.args) h

  defined_call : (t : Marked) (m : Macro) (names : List (List ℕ)) (rest : List Marked) → is_some (d t.tok.spell) ≡ true → IsDefined (look_call t m names rest)
  defined_call t m names [] h = tt
  defined_call t m names (u ∷ us) h = defined_if (is_punct (codes "(") u.tok) _ _ (defined_closed t m names (closed (commas_of names m.variadic) 0 us) h) tt

  defined_params : (t : Marked) (m : Macro) (o : Option (List (List ℕ))) (rest : List Marked) → is_some (d t.tok.spell) ≡ true → IsDefined (look_params t m o rest)
  defined_params t m None rest h = h
  defined_params t m (Some names) rest h = defined_call t m names rest h

  defined_macro : (t : Marked) (o : Option Macro) (rest : List Marked) → (is_some o ≡ true → is_some (d t.tok.spell) ≡ true) → IsDefined (look_macro t o rest)
  defined_macro t None rest h = tt
  defined_macro t (Some m) rest h = defined_params t m m.params rest (h refl)

  some_macro : (b : Bool) (o : Option Macro) → is_some (if b then o else None) ≡ true → is_some o ≡ true
  some_macro true o h = h
  some_macro false o h = cc

  defined_look : (ts : List Marked) → IsDefined (look d ts)
  defined_look [] = tt
  defined_look (t ∷ ts) = defined_macro t (macro_at d t) ts (some_macro (is_word t.tok && not (t.bars t.tok.spell)) (d t.tok.spell))

  -- ---- arguments

  abbrev of_task : Task → Task
  of_task x = record { written = fs x.written; raw = fs x.raw; wanted = x.wanted }

  abbrev of_arg : Arg → Arg
  of_arg a = record { written = fs a.written; full = fs a.full }

  if_known : (b : Bool) (xs : List Marked) → (if b then fs xs else []) ≡ fs (if b then xs else [])
  if_known true xs = refl
  if_known false xs = refl

  task_known : (ps : List Part) (i : ℕ) (raw : List Marked) → task_of ps i (fs raw) ≡ of_task (task_of ps i raw)
  task_known ps i raw =
      let a = if_known (list_any (is_written i) ps) raw in
      let b = if_known (list_any (is_full i) ps) raw in
      λ j. record { written = a j; raw = b j; wanted = list_any (is_full i) ps }

  tasks_known : (ps : List Part) (i : ℕ) (raws : List (List Marked)) → tasks ps i (fss raws) ≡ map of_task (tasks ps i raws)
  tasks_known ps i [] = refl
  tasks_known ps i (raw ∷ raws) = ap (λ x. x ∷ tasks ps (i + 1) (fss raws)) (task_known ps i raw) ∙ ap (λ xs. of_task (task_of ps i raw) ∷ xs) (tasks_known ps (i + 1) raws)

  arg_known : (args : List Arg) (i : ℕ) → slice_index_or (map of_arg args) i no_arg ≡ of_arg (slice_index_or args i no_arg)
  arg_known [] zero = refl
  arg_known [] (suc i) = refl
  arg_known (a ∷ args) zero = refl
  arg_known (a ∷ args) (suc i) = arg_known args i

  -- ---- texts

  abbrev of_item : Item → Item
  of_item (One t) = One (f t)
  of_item (Blank s) = Blank s
  of_item Glue = Glue

  spaced_known : (ts : List Marked) → flat_map text_spaced (fs ts) ≡ flat_map text_spaced ts
  spaced_known [] = refl
  spaced_known (t ∷ ts) = ap (λ bs. text_spaced t ++ bs) (spaced_known ts)

  spellings_known : (ts : List Marked) → text_spellings (fs ts) ≡ text_spellings ts
  spellings_known [] = refl
  spellings_known (t ∷ ts) = ap (λ bs. text_spelling t.tok ++ bs) (spaced_known ts)

  string_known : (s : Bool) (ts : List Marked) → string_of s (fs ts) ≡ f (string_of s ts)
  string_known s ts =
      let a = spellings_known ts in
      λ i. record { tok = record { spell = 34 ∷ (a i ++ 34 ∷ []); kind = (string_of s ts).tok.kind; spaced = s }; bars = sym k_none i }

  ones_known : (ts : List Marked) → ones (fs ts) ≡ map of_item (ones ts)
  ones_known [] = refl
  ones_known (t ∷ ts) = ap (λ is. One (f t) ∷ is) (ones_known ts)

  full_known : (s : Bool) (ts : List Marked) → ones (spaced_as s (fs ts)) ≡ map of_item (ones (spaced_as s ts))
  full_known s [] = refl
  full_known s (t ∷ ts) = ones_known (respaced s t ∷ ts)

  side_known : (s : Bool) (ts : List Marked) → side_items s (fs ts) ≡ map of_item (side_items s ts)
  side_known s [] = refl
  side_known s (t ∷ ts) = ones_known (respaced s t ∷ ts)

  part_known : (args : List Arg) (p : Part) → part_items (map of_arg args) p ≡ map of_item (part_items args p)
  part_known args (Own t) = ap (λ (b : Bars). One (record { tok = t; bars = b }) ∷ []) (sym k_none)
  part_known args Join = refl
  part_known args (Text s i) = ap (λ (a : Arg). One (string_of s a.written) ∷ []) (arg_known args i) ∙ ap (λ t. One t ∷ []) (string_known s (slice_index_or args i no_arg).written)
  part_known args (Written s i) = ap (λ (a : Arg). side_items s a.written) (arg_known args i) ∙ side_known s (slice_index_or args i no_arg).written
  part_known args (Full s i) = ap (λ (a : Arg). ones (spaced_as s a.full)) (arg_known args i) ∙ full_known s (slice_index_or args i no_arg).full

  items_known : (ps : List Part) (args : List Arg) → items ps (map of_arg args) ≡ map of_item (items ps args)
  items_known [] args = refl
  items_known (p ∷ ps) args =
      ap (λ is. is ++ items ps (map of_arg args)) (part_known args p)
      ∙ (ap (λ is. map of_item (part_items args p) ++ is) (items_known ps args) ∙ sym (map_append of_item (part_items args p) (items ps args)))

  glued_known : (a b : Marked) (o : Option TokKind) → option_map (λ k. One (joined_tok (f a) (f b) k)) o ≡ option_map of_item (option_map (λ k. One (joined_tok a b k)) o)
  glued_known a b None = refl
  glued_known a b (Some x) =
      let e = k_common a.bars b.bars in
      λ i. Some (One (record { tok = record { spell = a.tok.spell ++ b.tok.spell; kind = x; spaced = a.tok.spaced }; bars = e i }))

  join_known : (l r : Item) → join (of_item l) (of_item r) ≡ option_map of_item (join l r)
  join_known (One a) (One b) = glued_known a b (kind_of (a.tok.spell ++ b.tok.spell))
  join_known (One a) (Blank s) = refl
  join_known (One a) Glue = refl
  join_known (Blank s) (One b) = refl
  join_known (Blank s) (Blank z) = refl
  join_known (Blank s) Glue = refl
  join_known Glue (One b) = refl
  join_known Glue (Blank z) = refl
  join_known Glue Glue = refl

  toks_known : (i : Item) → item_toks (of_item i) ≡ fs (item_toks i)
  toks_known (One t) = refl
  toks_known (Blank s) = refl
  toks_known Glue = refl

  abbrev of_toks : Option (List Marked) → Option (List Marked)
  of_toks o = option_map (map (known_mark d)) o

  last_known : (i : Item) → Some (item_toks (of_item i)) ≡ of_toks (Some (item_toks i))
  last_known i = ap Some (toks_known i)

  on_known : (o p : Option Item) (g h : Item → Option (List Marked)) → p ≡ option_map of_item o → ((i : Item) → h (of_item i) ≡ of_toks (g i)) → joined_on p h ≡ of_toks (joined_on o g)
  on_known None p g h e go = ap (λ x. joined_on x h) e
  on_known (Some i) p g h e go = ap (λ x. joined_on x h) e ∙ go i

  behind_known : (i : Item) (o p : Option (List Marked)) → p ≡ of_toks o → option_map (λ ts. item_toks (of_item i) ++ ts) p ≡ of_toks (option_map (λ ts. item_toks i ++ ts) o)
  behind_known i None p e = ap (option_map (λ ts. item_toks (of_item i) ++ ts)) e
  behind_known i (Some ts) p e =
      ap (option_map (λ ts. item_toks (of_item i) ++ ts)) e ∙ ap Some (ap (λ xs. xs ++ fs ts) (toks_known i) ∙ sym (map_append (known_mark d) (item_toks i) ts))

  from_known : (l : Item) (is : List Item) → joined_from (of_item l) (map of_item is) ≡ of_toks (joined_from l is)
  from_known l [] = last_known l
  from_known l (Glue ∷ []) = last_known l
  from_known l (Glue ∷ r ∷ is) = on_known (join l r) (join (of_item l) (of_item r)) (λ x. joined_from x is) (λ x. joined_from x (map of_item is)) (join_known l r) (λ x. from_known x is)
  from_known l (One t ∷ is) = behind_known l (joined_from (One t) is) (joined_from (One (f t)) (map of_item is)) (from_known (One t) is)
  from_known l (Blank s ∷ is) = behind_known l (joined_from (Blank s) is) (joined_from (Blank s) (map of_item is)) (from_known (Blank s) is)

  joined_known : (is : List Item) → joined (map of_item is) ≡ of_toks (joined is)
  joined_known [] = refl
  joined_known (i ∷ is) = from_known i is

  added_known : (h : Bars) (ts : List Marked) → add_bars (k h) (fs ts) ≡ fs (add_bars h ts)
  added_known h [] = refl
  added_known h (t ∷ ts) =
      let e = k_either t.bars h in
      let r = added_known h ts in
      λ i. record { tok = t.tok; bars = sym e i } ∷ r i

  respaced_known : (s : Bool) (ts : List Marked) → spaced_as s (fs ts) ≡ fs (spaced_as s ts)
  respaced_known s [] = refl
  respaced_known s (t ∷ ts) = refl

  put_known : (s : Bool) (h : Bars) (o : Option (List Marked)) → option_map (λ ts. spaced_as s (add_bars (k h) ts)) (of_toks o) ≡ of_toks (option_map (λ ts. spaced_as s (add_bars h ts)) o)
  put_known s h None = refl
  put_known s h (Some ts) = ap Some (ap (spaced_as s) (added_known h ts) ∙ respaced_known s (add_bars h ts))

  placed_known : (t : Marked) (h g : Bars) (is js : List Item) → g ≡ k h → js ≡ map of_item is → placed (f t) g js ≡ of_toks (placed t h is)
  placed_known t h g is js e m =
      ap (λ x. placed (f t) x js) e ∙ (ap (placed (f t) (k h)) m ∙ (ap (option_map (λ ts. spaced_as t.tok.spaced (add_bars (k h) ts))) (joined_known is) ∙ put_known t.tok.spaced h (joined is)))

  object_known : (t : Marked) (m : Macro) → is_some (d t.tok.spell) ≡ true → object_text (f t) m ≡ of_toks (object_text t m)
  object_known t m h = placed_known t (with_bar t.bars t.tok.spell) _ (items (parts_of m None) []) _ (sym (k_with t.bars t.tok.spell h)) (items_known (parts_of m None) [])

  call_known : (t : Marked) (m : Macro) (names : List (List ℕ)) (last : Marked) (args : List Arg) → is_some (d t.tok.spell) ≡ true → call_text (f t) m names (f last) (map of_arg args) ≡ of_toks (call_text t m names last args)
  call_known t m names last args h = placed_known t (with_bar (common_bars t.bars last.bars) t.tok.spell) _ (items (parts_of m (Some names)) args) _
      (ap (λ b. with_bar b t.tok.spell) (k_common t.bars last.bars) ∙ sym (k_with (common_bars t.bars last.bars) t.tok.spell h)) (items_known (parts_of m (Some names)) args)

  -- ---- expansions

  abbrev of_outcome : Outcome → Outcome
  of_outcome o = known_outcome d o

  abbrev of_ready : ArgsOutcome → ArgsOutcome
  of_ready (Ready args u) = Ready (map of_arg args) u
  of_ready (Spoiled r) = Spoiled r

  before_known : (t : Marked) (o : Outcome) → before (f t ∷ []) (of_outcome o) ≡ of_outcome (before (t ∷ []) o)
  before_known t (Done out u) = refl
  before_known t (Refused r) = refl

  with_known : (a : Arg) (o : ArgsOutcome) → with_arg (of_arg a) (of_ready o) ≡ of_ready (with_arg a o)
  with_known a (Ready args u) = refl
  with_known a (Spoiled r) = refl

  module _ (limit : ℕ) where
    mutual
      expands_known : (ts : List Marked) (u : ℕ) (o : Outcome) → Expands limit d ts u o → Expands limit d (fs ts) u (of_outcome o)
      expands_known _ _ _ (ends ts u e) = ends (fs ts) u (look_known ts ∙ ap of_look e)
      expands_known _ _ _ (puts ts u t rest o e h) =
          subst (Expands limit d (fs ts) u) (before_known t o) (puts (fs ts) u (f t) (fs rest) (of_outcome o) (look_known ts ∙ ap of_look e) (expands_known rest u o h))
      expands_known _ _ _ (bad ts u r e) = bad (fs ts) u r (look_known ts ∙ ap of_look e)
      expands_known _ _ _ (object ts u t m rest o e h) =
          object (fs ts) u (f t) m (fs rest) (of_outcome o) (look_known ts ∙ ap of_look e)
          (subst (λ x. Replaced limit d x (fs rest) u (of_outcome o)) (sym (object_known t m (subst IsDefined e (defined_look ts)))) (replaced_known (object_text t m) rest u o h))
      expands_known _ _ _ (call ts u t m names raws last rest args v o e a h) =
          call (fs ts) u (f t) m names (fss raws) (f last) (fs rest) (map of_arg args) v (of_outcome o) (look_known ts ∙ ap of_look e)
          (subst (λ xs. ArgsExpand limit d xs u (Ready (map of_arg args) v)) (sym (tasks_known (parts_of m (Some names)) 0 raws)) (args_expand_known (tasks (parts_of m (Some names)) 0 raws) u (Ready args v) a))
          (subst (λ x. Replaced limit d x (fs rest) v (of_outcome o)) (sym (call_known t m names last args (subst IsDefined e (defined_look ts)))) (replaced_known (call_text t m names last args) rest v o h))
      expands_known _ _ _ (spoiled ts u t m names raws last rest r e a) =
          spoiled (fs ts) u (f t) m names (fss raws) (f last) (fs rest) r (look_known ts ∙ ap of_look e)
          (subst (λ xs. ArgsExpand limit d xs u (Spoiled r)) (sym (tasks_known (parts_of m (Some names)) 0 raws)) (args_expand_known (tasks (parts_of m (Some names)) 0 raws) u (Spoiled r) a))

      args_expand_known : (xs : List Task) (u : ℕ) (o : ArgsOutcome) → ArgsExpand limit d xs u o → ArgsExpand limit d (map of_task xs) u (of_ready o)
      args_expand_known _ _ _ (none u) = none u
      args_expand_known _ _ _ (as_written x xs u o w h) =
          subst (ArgsExpand limit d (of_task x ∷ map of_task xs) u) (with_known (record { written = x.written; full = [] }) o) (as_written (of_task x) (map of_task xs) u (of_ready o) w (args_expand_known xs u o h))
      args_expand_known _ _ _ (expanded x xs u full v o w h g) =
          subst (ArgsExpand limit d (of_task x ∷ map of_task xs) u) (with_known (record { written = x.written; full = full }) o)
          (expanded (of_task x) (map of_task xs) u (fs full) v (of_ready o) w (expands_known x.raw u (Done full v) h) (args_expand_known xs v o g))
      args_expand_known _ _ _ (refused x xs u r w h) = refused (of_task x) (map of_task xs) u r w (expands_known x.raw u (Refused r) h)

      replaced_known : (new : Option (List Marked)) (rest : List Marked) (u : ℕ) (o : Outcome) → Replaced limit d new rest u o → Replaced limit d (of_toks new) (fs rest) u (of_outcome o)
      replaced_known _ _ _ _ (unjoined rest u) = unjoined (fs rest) u
      replaced_known _ _ _ _ (above new rest u far) = let l : length (fs new) ≡ length new = map_length (known_mark d) new in above (fs new) (fs rest) u (omega (arith, far, l))
      replaced_known _ _ _ _ (within new rest u o near h) =
          let l : length (fs new) ≡ length new = map_length (known_mark d) new in
          let e : Expands limit d (fs (new ++ rest)) (u + 1 + length new) (of_outcome o) = expands_known (new ++ rest) (u + 1 + length new) o h in
          let g : Expands limit d (fs new ++ fs rest) (u + 1 + length new) (of_outcome o) = subst (λ xs. Expands limit d xs (u + 1 + length new) (of_outcome o)) (map_append (known_mark d) new rest) e in
          within (fs new) (fs rest) u (of_outcome o) (omega (arith, near, l)) (subst (λ n. Expands limit d (fs new ++ fs rest) (u + 1 + n) (of_outcome o)) (sym l) g)

pub other_bars_are_idle : OtherBarsAreIdle
other_bars_are_idle limit d ts us u o p e h g =
    let one = one_outcome limit d (known_marks d us) u in
    let a : Expands limit d (known_marks d us) u (known_outcome d o) = subst (λ xs. Expands limit d xs u (known_outcome d o)) e (expands_known d limit ts u o h) in
    let b : Expands limit d (known_marks d us) u (known_outcome d p) = expands_known d limit us u p g in
    sym (one.2 (known_outcome d o) a) ∙ one.2 (known_outcome d p) b
