-- What is known behind the first lines of the API text.
use Rattle.std.proofs.Common.{◌≡◌, ◌∙◌, ◌<◌, ◌++◌, ℕ, suc, Bool, true, false, not, List, [], ◌∷◌, Option, Some, None, Result, Ok, Err, IfErr, IsErrAnd, OnErr, cond, length, map, refl, sym, ap, subst, inl, inr, arith, append_assoc, append-nil, if◌then◌else◌}
use Rattle.std.specs.List.{Contains, filter_map, list_all, list_any}
use Rattle.std.specs.Map.{lookup}
use Rattle.std.specs.Str.{bytes_eq}
use Rattle.std.proofs.lemmas.Bool.{cases_Bool, and_parts}
use Rattle.std.proofs.lemmas.Slice.Eq.{bytes_eq-Decides}
use Rattle.std.proofs.lemmas.List.Elements.{All-append, All-cons, All-nil, Contains-append_right, filter_map-append}
use Rattle.std.proofs.lemmas.List.Folds.{list_all-append}
use Rattle.edt_base.specs.declared.fault.Rule.{Rule}
use Rattle.edt_base.specs.declared.fault.Rule.TheVariants as rule
use Rattle.c_tokens.specs.LineData.{LineData}
use Rattle.c_tokens.specs.Lines.{AtEnd, Ending, LinesOf, NoTokens, Unread, no_more, one_more, refused}
use Rattle.c_tokens.specs.Reading.{Gives, HasNoTokens, IfRule}
use Rattle.c_tokens.specs.declared.tok.CEnd.{CEnd}
use Rattle.c_tokens.specs.declared.tok.CEnd.TheVariants as ending
use Rattle.c_tokens.proofs.OneList.{one_list}
use Rattle.c_macro.specs.Directive.{Define, Directive, Follows, Known, Nothing, Undefine, all_differ, broken_by, first_some, line_directive, redefined, same_macro}
use Rattle.c_macro.specs.MacroData.{Macro}
use Rattle.dt_api.specs.ApiText.{api_text}
use Rattle.dt_api.specs.Defining.{AreAllowed, AreKnownTo, Definition, HasOther, IsKnownWith, api_definitions, defined_as}
use Rattle.dt_api.proofs.Reading.{api_read, api_rows, defined_in, is_api_read, is_fine, is_fine_line, rows_are_fine}

-- ---- lines

-- the line comes first, and this is left behind it
goes : (u v : Unread) (line : LineData) (lines : List LineData) (end : Ending) → Gives u (Some line) v → LinesOf v lines end → LinesOf u (line ∷ lines) end
goes u v line lines end h rest =
    subst (λ x. LinesOf u (x ∷ lines) end) (sym h.3) (one_more u h.1 lines end h.0 h.2 (subst (λ x. LinesOf x lines end) h.4 rest))

-- how many lines are left
abbrev pub lines_left : Unread → ℕ
lines_left u = length (one_list u).0

pub left_less : (u v : Unread) (line : LineData) → Gives u (Some line) v → lines_left v < lines_left u
left_less u v line h =
    let a = one_list u in
    let b = one_list v in
    let e : length a.0 ≡ length (line ∷ b.0) = ap length (a.3 (line ∷ b.0) b.1 (goes u v line b.0 b.1 h b.2)).0 in
    less (length a.0) (length b.0) e
  where
    less : (n m : ℕ) → n ≡ suc m → m < n
    less n m e = omega (arith, e)

-- what was read of the API text, and what is left of it
pub record Reached (u : Unread) : Type 0 where
  pub before : List LineData
  pub left : List LineData
  pub whole : api_rows ≡ before ++ left
  pub lines : LinesOf u left (AtEnd 128)

pub record OneLine (u : Unread) (line : LineData) (v : Unread) (before left : List LineData) : Type 0 where
  pub rest : List LineData
  pub is : left ≡ line ∷ rest
  pub lines : LinesOf v rest (AtEnd 128)

one_line : (u v : Unread) (line : LineData) (before left : List LineData) → LinesOf u left (AtEnd 128) → Gives u (Some line) v → OneLine u line v before left
one_line u v line before left h g =
    let a = one_list u in
    let b = one_list v in
    let mine = a.3 left (AtEnd 128) h in
    let next = a.3 (line ∷ b.0) b.1 (goes u v line b.0 b.1 g b.2) in
    let end : b.1 ≡ AtEnd 128 = sym next.1 ∙ mine.1 in
    record { rest = b.0; is = sym mine.0 ∙ next.0; lines = subst (λ e. LinesOf v b.0 e) end b.2 }

no_line : (u : Unread) (left : List LineData) → LinesOf u left (AtEnd 128) → length u.rest ≡ 0 → left ≡ []
no_line u left h none =
    let a = one_list u in
    sym (a.3 left (AtEnd 128) h).0 ∙ (a.3 [] (AtEnd u.number) (no_more u none)).0

not_ended : (n m : ℕ) → NoTokens n ≡ AtEnd m → ⊥
not_ended n m e = cc

pub has_tokens : (u : Unread) → Reached u → HasNoTokens u → ⊥
has_tokens u r h =
    let a = one_list u in
    not_ended u.number 128 (sym (a.3 [] (NoTokens u.number) (refused u h.0 h.1)).1 ∙ (a.3 r.left (AtEnd 128) r.lines).1)

-- ---- names

lookup_more : (name : List ℕ) (ds es : List Definition) → lookup (bytes_eq name) (ds ++ es) ≡ first_some (lookup (bytes_eq name) ds) (lookup (bytes_eq name) es)
lookup_more name [] es = refl
lookup_more name (d ∷ ds) es = elim (cases_Bool (bytes_eq name d.0)) [ inl e ↦ rw e refl | inr e ↦ rw e (lookup_more name ds es) ]

first_assoc : (a b c : Option Macro) → first_some (first_some a b) c ≡ first_some a (first_some b c)
first_assoc None b c = refl
first_assoc (Some m) b c = refl

first_none : (a : Option Macro) → first_some a None ≡ a
first_none None = refl
first_none (Some m) = refl

other_way : (xs ys : List ℕ) → bytes_eq xs ys ≡ false → bytes_eq ys xs ≡ false
other_way xs ys h = elim (cases_Bool (bytes_eq ys xs)) [
  | inl e ↦
      let k : ys ≡ xs = (bytes_eq-Decides ys xs).0 e in
      let t : bytes_eq xs ys ≡ true = (bytes_eq-Decides xs ys).1 (sym k) in
      let f : false ≡ true = sym h ∙ t in cc
  | inr e ↦ e
]

abbrev name_of : Definition → List ℕ
name_of d = d.0

not_among : (x name : List ℕ) (m : Macro) (before after : List Definition) → list_any (bytes_eq x) (map name_of (before ++ (name, m) ∷ after)) ≡ false → bytes_eq x name ≡ false
not_among x name m [] after h = elim (cases_Bool (bytes_eq x name)) [ inl e ↦ let f : true ≡ false = rw e at h in cc | inr e ↦ e ]
not_among x name m (d ∷ before) after h = elim (cases_Bool (bytes_eq x d.0)) [ inl e ↦ let f : true ≡ false = rw e at h in cc | inr e ↦ not_among x name m before after (rw e at h) ]

negated : (b : Bool) → not b ≡ true → b ≡ false
negated false e = refl
negated true e = cc

-- where all names differ, one isn't found before its place
new_name : (name : List ℕ) (m : Macro) (before after : List Definition) → all_differ (map name_of (before ++ (name, m) ∷ after)) ≡ true
    → lookup (bytes_eq name) before ≡ None
new_name name m [] after h = refl
new_name name m (d ∷ before) after h =
    let all = map name_of (before ++ (name, m) ∷ after) in
    let p : (not (list_any (bytes_eq d.0) all) ≡ true) × (all_differ all ≡ true) = and_parts _ _ h in
    let e = other_way d.0 name (not_among d.0 name m before after (negated (list_any (bytes_eq d.0) all) p.0)) in
    rw e (new_name name m before after p.1)

-- ---- what is known

-- what is known where so much of the API text was carried out
pub record Going (old new : Known) (u : Unread) : Type 0 where
  pub reached : Reached u
  pub allowed : AreAllowed old (defined_in reached.before)
  pub known : IsKnownWith old (defined_in reached.before) new

pub started : (k : Known) → Going k k (record { rest = api_text; number = 1 })
started k = record {
  reached = record { before = []; left = api_rows; whole = refl; lines = api_read };
  allowed = All-nil (λ (d : Definition). redefined (k.defs d.0) d.1 ≡ None);
  known = record { defs = λ name. sym (first_none (k.defs name)); locked = λ name. refl };
}

-- what one directive adds
record Added (old k k' : Known) (before : List Definition) (d : Option Directive) : Type 0 where
  pub allowed : AreAllowed old (filter_map (λ (o : Option Directive). defined_as o) (d ∷ []))
  pub known : IsKnownWith old (before ++ filter_map (λ (o : Option Directive). defined_as o) (d ∷ [])) k'

if_some : (b : Bool) (m : Macro) → (if b then Some m else None) ≡ cond b (Some m) None
if_some true m = refl
if_some false m = refl

allowed_new : (o p : Option Macro) (m : Macro) → redefined (first_some o p) m ≡ None → redefined o m ≡ None
allowed_new None p m h = refl
allowed_new (Some n) p m h = h

added : (old k k' : Known) (before : List Definition) (d : Option Directive) → IsKnownWith old before k → is_fine d ≡ true → broken_by k d ≡ None → Follows k d k'
    → Added old k k' before d
added old k k' before None is fine ok f = cc
added old k k' before (Some (Undefine name)) is fine ok f = cc
added old k k' before (Some Nothing) is fine ok f = record {
  allowed = All-nil (λ (d : Definition). redefined (old.defs d.0) d.1 ≡ None);
  known = subst (λ ds. IsKnownWith old ds k') (sym (append-nil before))
      (record { defs = λ name. f.defs name ∙ is.defs name; locked = λ name. f.locked name ∙ is.locked name });
}
added old k k' before (Some (Define n m)) is fine ok f = record {
  allowed = All-cons (λ (d : Definition). redefined (old.defs d.0) d.1 ≡ None) (n, m) []
      (allowed_new (old.defs n) (lookup (bytes_eq n) before) m (ap (λ o. redefined o m) (sym (is.defs n)) ∙ ok))
      (All-nil (λ (d : Definition). redefined (old.defs d.0) d.1 ≡ None));
  known = record {
    defs = λ name. f.defs name
        ∙ (ap (λ o. first_some o (if bytes_eq name n then Some m else None)) (is.defs name)
        ∙ (first_assoc (old.defs name) (lookup (bytes_eq name) before) (if bytes_eq name n then Some m else None)
        ∙ ap (λ o. first_some (old.defs name) o) (ap (λ o. first_some (lookup (bytes_eq name) before) o) (if_some (bytes_eq name n) m) ∙ sym (lookup_more name before ((n, m) ∷ [])))));
    locked = λ name. f.locked name ∙ is.locked name;
  };
}

one_defined : (line : LineData) → defined_in (line ∷ []) ≡ filter_map (λ (o : Option Directive). defined_as o) (line_directive line ∷ [])
one_defined line = refl

fine_here : (before : List LineData) (line : LineData) (rest : List LineData) → api_rows ≡ before ++ line ∷ rest → is_fine_line line ≡ true
fine_here before line rest e =
    let all : list_all is_fine_line (before ++ line ∷ rest) ≡ true = subst (λ ls. list_all is_fine_line ls ≡ true) e rows_are_fine in
    let p : (list_all is_fine_line before ≡ true) × (list_all is_fine_line (line ∷ rest) ≡ true) = and_parts _ _ (sym (list_all-append is_fine_line before (line ∷ rest)) ∙ all) in
    let q : (is_fine_line line ≡ true) × (list_all is_fine_line rest ≡ true) = and_parts _ _ p.1 in
    q.0

pub stepped : (old k k' : Known) (u v : Unread) (line : LineData) → Going old k u → Gives u (Some line) v → broken_by k (line_directive line) ≡ None
    → Follows k (line_directive line) k' → Going old k' v
stepped old k k' u v line g gives ok f =
    let r = g.reached in
    let one = one_line u v line r.before r.left r.lines gives in
    let whole : api_rows ≡ r.before ++ line ∷ one.rest = r.whole ∙ ap (λ ls. r.before ++ ls) one.is in
    let add = added old k k' (defined_in r.before) (line_directive line) g.known (fine_here r.before line one.rest whole) ok f in
    let more : defined_in (r.before ++ line ∷ []) ≡ defined_in r.before ++ defined_in (line ∷ []) = filter_map-append (λ (l : LineData). defined_as (line_directive l)) r.before (line ∷ []) in
    record {
      reached = record { before = r.before ++ line ∷ []; left = one.rest; whole = whole ∙ sym (append_assoc r.before (line ∷ []) one.rest); lines = one.lines };
      allowed = subst (AreAllowed old) (sym more) (All-append (λ (d : Definition). redefined (old.defs d.0) d.1 ≡ None) (defined_in r.before) (defined_in (line ∷ [])) g.allowed add.allowed);
      known = subst (λ ds. IsKnownWith old ds k') (sym more) add.known;
    }

-- ---- the ends

pub record Ended (old k : Known) : Type 0 where
  pub allowed : AreAllowed old api_definitions
  pub known : IsKnownWith old api_definitions k

pub ended : (old k : Known) (u v : Unread) → Going old k u → Gives u None v → Ended old k
ended old k u v g gives =
    let r = g.reached in
    let none = no_line u r.left r.lines gives.0 in
    let all : api_rows ≡ r.before = r.whole ∙ (ap (λ ls. r.before ++ ls) none ∙ append-nil r.before) in
    let same : defined_in r.before ≡ api_definitions = ap defined_in (sym all) ∙ is_api_read.defined in
    record { allowed = subst (AreAllowed old) same g.allowed; known = subst (λ ds. IsKnownWith old ds k) same g.known }

-- what was known stays, with the first definitions
pub so_far : (old k : Known) (u : Unread) → Going old k u → AreKnownTo old api_definitions k
so_far old k u g =
    let r = g.reached in
    record {
      first = defined_in r.before;
      others = defined_in r.left;
      whole = sym is_api_read.defined ∙ (ap defined_in r.whole ∙ filter_map-append (λ (l : LineData). defined_as (line_directive l)) r.before r.left);
      known = g.known;
    }

only_c5 : (o : Option Macro) (m : Macro) (r : Rule) → redefined o m ≡ Some r → (r ≡ rule.C5) × (redefined o m ≡ Some rule.C5)
only_c5 None m r h = cc
only_c5 (Some n) m r h = elim (cases_Bool (same_macro n m)) [
  | inl e ↦ let f : None ≡ Some r = rw e at h in cc
  | inr e ↦ let f : Some rule.C5 ≡ Some r = rw e at h in let g : rule.C5 ≡ r = cc in (sym g, rw e refl)
]

middle : (before after : List Definition) (d : Definition) → Contains (before ++ d ∷ after) d
middle before after d = Contains-append_right before (d ∷ after) d (0, omega arith, refl)

-- a definition that isn't allowed is defined otherwise from the start, since all names differ
other_from : (old k : Known) (before after : List Definition) (name : List ℕ) (m : Macro) (r : Rule) → IsKnownWith old before k → api_definitions ≡ before ++ (name, m) ∷ after
    → redefined (k.defs name) m ≡ Some r → (r ≡ rule.C5) × HasOther old api_definitions
other_from old k before after name m r is e h =
    let five = only_c5 (k.defs name) m r h in
    let differ : all_differ (map name_of (before ++ (name, m) ∷ after)) ≡ true = subst (λ ds. all_differ (map name_of ds) ≡ true) e is_api_read.differ in
    let none = new_name name m before after differ in
    let here : k.defs name ≡ old.defs name = is.defs name ∙ (ap (λ o. first_some (old.defs name) o) none ∙ first_none (old.defs name)) in (
      five.0,
      record {
        name = name;
        macro = m;
        there = subst (λ ds. Contains ds (name, m)) (sym e) (middle before after (name, m));
        other = ap (λ o. redefined o m) (sym here) ∙ five.1;
      },
    )

broken_row : (old k : Known) (before after : List Definition) (d : Option Directive) (r : Rule) → IsKnownWith old before k → is_fine d ≡ true
    → api_definitions ≡ before ++ (filter_map (λ (o : Option Directive). defined_as o) (d ∷ []) ++ after) → broken_by k d ≡ Some r → (r ≡ rule.C5) × HasOther old api_definitions
broken_row old k before after None r is fine e h = cc
broken_row old k before after (Some (Undefine name)) r is fine e h = cc
broken_row old k before after (Some Nothing) r is fine e h = cc
broken_row old k before after (Some (Define name m)) r is fine e h = other_from old k before after name m r is e h

pub broken : (old k : Known) (u v : Unread) (line : LineData) (r : Rule) → Going old k u → Gives u (Some line) v → broken_by k (line_directive line) ≡ Some r
    → (r ≡ rule.C5) × HasOther old api_definitions
broken old k u v line r g gives h =
    let at = g.reached in
    let one = one_line u v line at.before at.left at.lines gives in
    let whole : api_rows ≡ at.before ++ line ∷ one.rest = at.whole ∙ ap (λ ls. at.before ++ ls) one.is in
    let split : defined_in (at.before ++ line ∷ one.rest) ≡ defined_in at.before ++ (defined_in (line ∷ []) ++ defined_in one.rest) =
    filter_map-append (λ (l : LineData). defined_as (line_directive l)) at.before (line ∷ one.rest)
    ∙ ap (λ ds. defined_in at.before ++ ds) (filter_map-append (λ (l : LineData). defined_as (line_directive l)) (line ∷ []) one.rest) in
    broken_row old k (defined_in at.before) (defined_in one.rest) (line_directive line) r g.known (fine_here at.before line one.rest whole)
    (sym is_api_read.defined ∙ (ap defined_in whole ∙ split)) h

-- ---- how the calls end

pub rule_map : (e : CEnd) (P Q : Rule → Type 0) → ((r : Rule) → P r → Q r) → IfRule e P → IfRule e Q
rule_map (ending.Rule r) P Q f h = f r h
rule_map (ending.Memory e) P Q f h = tt

pub ends_so : {T : Type 0} (r : Result T CEnd) (end : CEnd) (P : Rule → Type 0) → IsErrAnd r (λ b. b ≡ end) → IfRule end P → IfErr r (λ b. IfRule b P)
ends_so (Ok x) end P h stop = tt
ends_so (Err b) end P h stop = subst (λ x. IfRule x P) (sym h) stop

pub keeps_so : {T : Type 0} (r : Result T CEnd) (P : Type 0) → P → OnErr r P
keeps_so (Ok x) P h = tt
keeps_so (Err b) P h = h

pub tokens_so : (old k : Known) (u : Unread) (r : Rule) → Going old k u → (r ≡ rule.C1) × HasNoTokens u → (r ≡ rule.C5) × HasOther old api_definitions
tokens_so old k u r g h = absurd (has_tokens u g.reached h.1)
