-- Flow lists that were read are spelled by trees.
use Rattle.std.proofs.Common.{◌≡◌, ℕ, zero, suc, ◌+◌, ◌<◌, ◌≤◌, Bool, true, false, not, ◌&&◌, ◌||◌, ◌==◌, nat_le, List, [], ◌∷◌, ◌++◌, length, Option, Some, None, Result, inl, inr, if◌then◌else◌, refl, sym, ap, subst, ◌∙◌, arith, append_assoc}
use Rattle.std.specs.Char.{len_utf8}
use Rattle.std.proofs.lemmas.Bool.{cases_Bool}
use Rattle.std.proofs.lemmas.Bool.Decides.{nat_tests}
use Rattle.std.proofs.lemmas.List.{length-append}
use Rattle.edt_base.specs.YamlData.{Value, a_list, items_from}
use Rattle.yaml_profile.specs.declared.stop.Broken.{Broken}
use Rattle.yaml_profile.specs.declared.front.Role.{Role}
use Rattle.yaml_profile.specs.declared.front.Role.TheVariants.{Value as ValueOnly}
use Rattle.yaml_profile.specs.Answers.{no_text, left_out, too_deep}
use Rattle.yaml_profile.specs.Folding.{nothing_yet}
use Rattle.yaml_profile.specs.Signs.{is_word_sign, begins_nothing, ends_word}
use Rattle.yaml_profile.specs.Fronts.{Frame, InFlow, Whole, AtValue, AfterValue, InDouble, InSingle, Front, front, is_flow}
use Rattle.yaml_profile.specs.Pieces.{begin_value, begin_sign, begin_block, begin_plain, is_value_sign, is_key_only, open_flow, end_flow, after_item}
use Rattle.yaml_profile.specs.Written.{word_ends, Pad, spell_pad, IsPad, place_behind, ends_before, Flow, Text, Empty, Listed, Trailed, Elements, One, Another, spell_flow, spell_elements, flow_value, element_values, IsFlow, AreElements}
use Rattle.yaml_profile.proofs.ReadSteps.{past, past_append, with_returns, ReadsOn, OnFrom, all_ended, word_ahead}
use Rattle.yaml_profile.proofs.ReadParts.{MayBegin, IsLeast, ItemEnded, FlowText, FlowList}
use Rattle.yaml_profile.proofs.ReadPads.{item_or_end, Padded, pad_read}
use Rattle.yaml_profile.proofs.ReadGaps.{for_that, item_after}
use Rattle.yaml_profile.proofs.ReadPlain.{plain_item}
use Rattle.yaml_profile.proofs.ReadQuotes.{double_item, single_item}

-- ---- texts

-- where a value begins that is no quoted text, and no word indicator alone
abbrev pub sign_or_plain : List Frame → Role → (at c : ℕ) → Result Front Broken
sign_or_plain fs role at c =
    if is_value_sign c && not (is_key_only role) then begin_sign fs at c
    else if is_value_sign c || begins_nothing c then no_text at
    else begin_plain fs role at c

no_value : (b : Bool) (x y at : ℕ) (cs : List ℕ) (v : Value) (P : Type 0) → OnFrom (if b then left_out x else no_text y) at cs v → P
no_value true x y at cs v P h = absurd h
no_value false x y at cs v P h = absurd h

pub word_free : (fs : List Frame) (role : Role) (at p c : ℕ) (cs : List ℕ) (v : Value) → (c == 34) ≡ false → (c == 39) ≡ false → OnFrom (begin_value fs role at c (with_returns cs)) p cs v
    → ((is_word_sign c && word_ends true cs) ≡ false) × OnFrom (sign_or_plain fs role at c) p cs v
unfolding begin_value
word_free fs role at p c cs v a b h = elim (cases_Bool (is_word_sign c && word_ends true cs)) [
  | inl e ↦
      let w : (is_word_sign c && ends_word (with_returns cs)) ≡ true = ap (λ (r : Bool). is_word_sign c && r) (word_ahead cs) ∙ e in
      no_value _ _ _ p cs v _ (rw (a, b, w) at h)
  | inr e ↦
      let w : (is_word_sign c && ends_word (with_returns cs)) ≡ false = ap (λ (r : Bool). is_word_sign c && r) (word_ahead cs) ∙ e in
      (e, rw (a, b, w) at h)
]

pub plain_begins : (fs : List Frame) (role : Role) (at p c : ℕ) (cs : List ℕ) (v : Value) → is_value_sign c ≡ false → OnFrom (sign_or_plain fs role at c) p cs v
    → (begins_nothing c ≡ false) × OnFrom (begin_plain fs role at c) p cs v
plain_begins fs role at p c cs v s h = elim (cases_Bool (begins_nothing c)) [
  | inl e ↦ absurd (let q : OnFrom (no_text at) p cs v = rw (s, e) at h in q)
  | inr e ↦ (e, rw (s, e) at h)
]

no_sign_begins : (a b : Bool) (fs : List Frame) (at p : ℕ) (cs : List ℕ) (v : Value) {P : Type 0} → is_flow fs ≡ true
    → OnFrom (if a then begin_block fs false at else if b then begin_block fs true at else left_out at) p cs v → P
no_sign_begins true b fs at p cs v f h = absurd (let q : OnFrom (no_text at) p cs v = rw f at h in q)
no_sign_begins false true fs at p cs v f h = absurd (let q : OnFrom (no_text at) p cs v = rw f at h in q)
no_sign_begins false false fs at p cs v f h = absurd h

no_sign : (fs : List Frame) (at p c : ℕ) (cs : List ℕ) (v : Value) → is_flow fs ≡ true → (c == 91) ≡ false → OnFrom (sign_or_plain fs ValueOnly at c) p cs v → is_value_sign c ≡ false
unfolding begin_sign
no_sign fs at p c cs v f e h = elim (cases_Bool (is_value_sign c)) [
  | inl s ↦ no_sign_begins (c == 124) (c == 62) fs at p cs v f (rw (s, e) at h)
  | inr s ↦ s
]

pub double_begins : (fs : List Frame) (role : Role) (at : ℕ) (cs : List ℕ) (v : Value) → OnFrom (begin_value fs role at 34 (with_returns cs)) (at + len_utf8 34) cs v → ReadsOn (front fs (InDouble nothing_yet role at)) (at + 1) cs v
unfolding begin_value
double_begins fs role at cs v h = h

pub single_begins : (fs : List Frame) (role : Role) (at : ℕ) (cs : List ℕ) (v : Value) → OnFrom (begin_value fs role at 39 (with_returns cs)) (at + len_utf8 39) cs v → ReadsOn (front fs (InSingle nothing_yet role at)) (at + 1) cs v
unfolding begin_value
single_begins fs role at cs v h = h

-- a text begins in a flow list
pub flow_text_read : (fs : List Frame) (place : Option ℕ) (least at c : ℕ) (cs : List ℕ) (v : Value) → is_flow fs ≡ true → IsLeast least fs → MayBegin place true c cs → (c == 32) ≡ false → (c == 10) ≡ false → (c == 91) ≡ false → all_ended true cs ≡ true
    → OnFrom (begin_value fs ValueOnly at c (with_returns cs)) (at + len_utf8 c) cs v → FlowText fs place least at (c ∷ cs) v
flow_text_read fs place least at c cs v f l m s n k e h =
    let R : ℕ → Type 0 = λ x. OnFrom (begin_value fs ValueOnly at x (with_returns cs)) (at + len_utf8 x) cs v → FlowText fs place least at (x ∷ cs) v in
    elim (cases_Bool (c == 34)) [
      | inl a ↦ for_that R c 34 a (λ g. double_item fs place least at cs v f e (double_begins fs ValueOnly at cs v g)) h
      | inr a ↦ elim (cases_Bool (c == 39)) [
        | inl b ↦ for_that R c 39 b (λ g. single_item fs place least at cs v f e (single_begins fs ValueOnly at cs v g)) h
        | inr b ↦
            let w : ((is_word_sign c && word_ends true cs) ≡ false) × OnFrom (sign_or_plain fs ValueOnly at c) (at + len_utf8 c) cs v = word_free fs ValueOnly at (at + len_utf8 c) c cs v a b h in
            let x : is_value_sign c ≡ false = no_sign fs at (at + len_utf8 c) c cs v f k w.1 in
            let p : (begins_nothing c ≡ false) × OnFrom (begin_plain fs ValueOnly at c) (at + len_utf8 c) cs v = plain_begins fs ValueOnly at (at + len_utf8 c) c cs v x w.1 in
            plain_item fs place least at c cs v f l m (record { double = a; single = b; sign = x; nothing = p.0; space = s; feed = n; word = w.0 }) e p.1
      ]
    ]

-- ---- items

-- an item, with what stands after it
record Item (fs : List Frame) (place : Option ℕ) (least level at : ℕ) (xs : List ℕ) (v : Value) : Type 0 where
  flow : Flow
  rest : List ℕ
  parts : xs ≡ spell_flow flow ++ rest
  item : ItemEnded fs (flow_value flow) (past at (spell_flow flow)) rest v
  is : IsFlow place true (ends_before item.pad) least level flow

-- lists of at most so many characters after the bracket are read
abbrev Nested : ℕ → Type 0
Nested n = (fs : List Frame) (least at : ℕ) (xs : List ℕ) (v : Value) → length xs ≤ n → IsLeast least fs → all_ended true xs ≡ true → OnFrom (open_flow fs at) (at + 1) xs v
    → FlowList fs least (length fs) at (91 ∷ xs) v

list_begins : (fs : List Frame) (at p : ℕ) (cs : List ℕ) (v : Value) → OnFrom (begin_value fs ValueOnly at 91 (with_returns cs)) p cs v → OnFrom (open_flow fs at) p cs v
unfolding begin_value begin_sign
list_begins fs at p cs v h = h

list_item : (n : ℕ) → Nested n → (fs : List Frame) (place : Option ℕ) (least at : ℕ) (cs : List ℕ) (v : Value) → length cs ≤ n → is_flow fs ≡ true → IsLeast least fs → all_ended true cs ≡ true
    → OnFrom (open_flow fs at) (at + 1) cs v → Item fs place least (length fs) at (91 ∷ cs) v
list_item n nested fs place least at cs v k f l e h =
    let x : FlowList fs least (length fs) at (91 ∷ cs) v = nested fs least at cs v k l e h in
    let i : ItemEnded fs (flow_value x.flow) (past at (spell_flow x.flow)) x.rest v = item_after fs (flow_value x.flow) (past at (spell_flow x.flow)) x.rest v f x.ended x.on in
    record { flow = x.flow; rest = x.rest; parts = x.parts; item = i; is = x.is place true (ends_before i.pad) }

text_item : {fs : List Frame} {place : Option ℕ} {least level at : ℕ} {xs : List ℕ} {v : Value} → FlowText fs place least at xs v → Item fs place least level at xs v
text_item t = record { flow = Text t.text; rest = t.rest; parts = t.parts; item = t.item; is = t.is }

item_read : (n : ℕ) → Nested n → (fs : List Frame) (place : Option ℕ) (least at c : ℕ) (cs : List ℕ) (v : Value) → length cs ≤ n → is_flow fs ≡ true → IsLeast least fs → MayBegin place true c cs → (c == 32) ≡ false → (c == 10) ≡ false
    → all_ended true cs ≡ true → OnFrom (begin_value fs ValueOnly at c (with_returns cs)) (at + len_utf8 c) cs v → Item fs place least (length fs) at (c ∷ cs) v
item_read n nested fs place least at c cs v k f l m s i e h =
    let R : ℕ → Type 0 = λ x. OnFrom (begin_value fs ValueOnly at x (with_returns cs)) (at + len_utf8 x) cs v → Item fs place least (length fs) at (x ∷ cs) v in
    elim (cases_Bool (c == 91)) [
      | inl b ↦ for_that R c 91 b (λ g. list_item n nested fs place least at cs v k f l e (list_begins fs at (at + 1) cs v g)) h
      | inr b ↦ text_item (flow_text_read fs place least at c cs v f l m s i b e h)
    ]

-- ---- lists

-- the items before a place where one may begin, each with its comma
abbrev spell_before : Option Elements → List ℕ
spell_before None = []
spell_before (Some es) = spell_elements es ++ 44 ∷ []

abbrev values_before : Option Elements → List Value
values_before None = []
values_before (Some es) = element_values es

abbrev AreBefore : (least level : ℕ) → Option Elements → Type 0
AreBefore least level None = Unit {0}
AreBefore least level (Some es) = AreElements least level es

abbrev with_item : Option Elements → Pad → Flow → Pad → Elements
with_item None p x q = One p x q
with_item (Some es) p x q = Another es p x q

-- the list where none begins
abbrev list_of : Option Elements → Pad → Flow
list_of None p = Empty p
list_of (Some es) p = Trailed es p

spell_list_of : (b : Option Elements) (p : Pad) → spell_flow (list_of b p) ≡ 91 ∷ (spell_before b ++ (spell_pad p ++ 93 ∷ []))
spell_list_of None p = refl
spell_list_of (Some es) p = ap (λ zs. 91 ∷ zs) (sym (append_assoc (spell_elements es) (44 ∷ []) (spell_pad p ++ 93 ∷ [])))

value_list_of : (b : Option Elements) (p : Pad) → flow_value (list_of b p) ≡ a_list (items_from (values_before b))
value_list_of None p = refl
value_list_of (Some es) p = refl

is_list_of : (b : Option Elements) (p : Pad) (least level : ℕ) (place : Option ℕ) (in_flow ended : Bool) → level < 32 → AreBefore least (suc level) b → IsPad p → IsFlow place in_flow ended least level (list_of b p)
is_list_of None p least level place in_flow ended l a i = (l, i)
is_list_of (Some es) p least level place in_flow ended l a i = (l, a, i)

spell_with_item : (b : Option Elements) (p : Pad) (x : Flow) (q : Pad) → spell_elements (with_item b p x q) ≡ spell_before b ++ (spell_pad p ++ (spell_flow x ++ spell_pad q))
spell_with_item None p x q = refl
spell_with_item (Some es) p x q = sym (append_assoc (spell_elements es) (44 ∷ []) (spell_pad p ++ (spell_flow x ++ spell_pad q)))

values_with_item : (b : Option Elements) (p : Pad) (x : Flow) (q : Pad) → element_values (with_item b p x q) ≡ values_before b ++ flow_value x ∷ []
values_with_item None p x q = refl
values_with_item (Some es) p x q = refl

are_with_item : (b : Option Elements) (p : Pad) (x : Flow) (q : Pad) (least level : ℕ) → AreBefore least level b → IsPad p → IsFlow (place_behind p) true (ends_before q) least level x → IsPad q → AreElements least level (with_item b p x q)
are_with_item None p x q least level a i j k = (i, j, k)
are_with_item (Some es) p x q least level a i j k = (a, i, j, k)

-- ---- up to the bracket

-- a list of these characters and this value ends at its bracket
list_read : (fs : List Frame) (x : Flow) (xs ys rest : List ℕ) (u : Value) (least at : ℕ) (v : Value) → spell_flow x ≡ 91 ∷ (xs ++ (ys ++ 93 ∷ [])) → flow_value x ≡ u
    → ((place : Option ℕ) (in_flow ended : Bool) → IsFlow place in_flow ended least (length fs) x) → all_ended true rest ≡ true
    → ReadsOn (front fs (AfterValue (Whole u) false)) (past (past at (91 ∷ xs)) ys + 1) rest v → FlowList fs least (length fs) at (91 ∷ (xs ++ (ys ++ 93 ∷ rest))) v
list_read fs x xs ys rest u least at v spelled valued i l h =
    let q : past at (spell_flow x) ≡ past (past at (91 ∷ xs)) ys + 1
    = ap (λ zs. past at zs) spelled ∙ (past_append xs (ys ++ 93 ∷ []) (at + 1) ∙ past_append ys (93 ∷ []) (past at (91 ∷ xs))) in
    record {
      flow = x;
      rest = rest;
      parts = ap (λ zs. 91 ∷ zs) (ap (λ zs. xs ++ zs) (sym (append_assoc ys (93 ∷ []) rest)) ∙ sym (append_assoc xs (ys ++ 93 ∷ []) rest)) ∙ ap (λ zs. zs ++ rest) (sym spelled);
      is = i;
      on = subst (λ (w : Value). ReadsOn (front fs (AfterValue (Whole w) false)) (past at (spell_flow x)) rest v) (sym valued)
          (subst (λ (k : ℕ). ReadsOn (front fs (AfterValue (Whole u) false)) k rest v) (sym q) h);
      ended = l;
    }

-- no item begins before the bracket
list_over : (fs : List Frame) (b : Option Elements) (p : Pad) (least at : ℕ) (rest : List ℕ) (v : Value) → length fs < 32 → AreBefore least (suc (length fs)) b → IsPad p → all_ended true rest ≡ true
    → (m : ℕ) → OnFrom (end_flow (InFlow (values_before b) ∷ fs) m) (past (past at (91 ∷ spell_before b)) (spell_pad p) + 1) rest v
    → FlowList fs least (length fs) at (91 ∷ (spell_before b ++ (spell_pad p ++ 93 ∷ rest))) v
unfolding end_flow
list_over fs b p least at rest v k a i l m h =
    list_read fs (list_of b p) (spell_before b) (spell_pad p) rest (a_list (items_from (values_before b))) least at v (spell_list_of b p) (value_list_of b p)
    (λ place in_flow ended. is_list_of b p least (length fs) place in_flow ended k a i) l h

-- an item with what stands before and after it
record Step (fs : List Frame) (least level at : ℕ) (xs : List ℕ) (v : Value) : Type 0 where
  pad : Pad
  flow : Flow
  behind : Pad
  sign : ℕ
  rest : List ℕ
  parts : xs ≡ (spell_pad pad ++ (spell_flow flow ++ spell_pad behind)) ++ sign ∷ rest
  before : IsPad pad
  is : IsFlow (place_behind pad) true (ends_before behind) least level flow
  after : IsPad behind
  at_sign : ℕ
  on : OnFrom (after_item fs (flow_value flow) at_sign sign) (past at (spell_pad pad ++ (spell_flow flow ++ spell_pad behind)) + len_utf8 sign) rest v
  ended : all_ended true rest ≡ true

step_of : (fs : List Frame) (least level at : ℕ) (xs : List ℕ) (v : Value) (p : Padded fs at xs v) → Item fs (place_behind p.pad) least level (past at (spell_pad p.pad)) (p.first ∷ p.more) v → Step fs least level at xs v
step_of fs least level at xs v p i =
    let e : ItemEnded fs (flow_value i.flow) (past (past at (spell_pad p.pad)) (spell_flow i.flow)) i.rest v = i.item in
    let ps : List ℕ = spell_pad p.pad in
    let is : List ℕ = spell_flow i.flow in
    let qs : List ℕ = spell_pad e.pad in
    let q : past at (ps ++ (is ++ qs)) ≡ past (past (past at ps) is) qs = past_append ps (is ++ qs) at ∙ past_append is qs (past at ps) in
    let k : ℕ = past (past (past at ps) is) qs in
    record {
      pad = p.pad;
      flow = i.flow;
      behind = e.pad;
      sign = e.sign;
      rest = e.rest;
      parts = p.parts ∙ (ap (λ zs. ps ++ zs) (i.parts ∙ (ap (λ zs. is ++ zs) e.parts ∙ sym (append_assoc is qs (e.sign ∷ e.rest)))) ∙ sym (append_assoc ps (is ++ qs) (e.sign ∷ e.rest)));
      before = p.is;
      is = i.is;
      after = e.is;
      at_sign = k;
      on = subst (λ (m : ℕ). OnFrom (after_item fs (flow_value i.flow) k e.sign) (m + len_utf8 e.sign) e.rest v) (sym q)
          (subst (λ (r : Result Front Broken). OnFrom r (k + len_utf8 e.sign) e.rest v) (sym e.after) e.on);
      ended = e.ended;
    }

-- from the place on where an item may begin
abbrev Onwards : ℕ → Type 0
Onwards m = (fs : List Frame) (b : Option Elements) (least at : ℕ) (xs : List ℕ) (v : Value) → length xs ≤ m → IsLeast least fs → length fs < 32 → AreBefore least (suc (length fs)) b → all_ended true xs ≡ true
    → ReadsOn (front (InFlow (values_before b) ∷ fs) (AtValue 0 false false)) (past at (91 ∷ spell_before b)) xs v → FlowList fs least (length fs) at (91 ∷ (spell_before b ++ xs)) v

shorter : (xs ys : List ℕ) (c m : ℕ) → length (xs ++ c ∷ ys) ≤ suc m → length ys ≤ m
shorter xs ys c m h = let e : length (xs ++ c ∷ ys) ≡ length xs + suc (length ys) = length-append xs (c ∷ ys) in omega arith

comma_on : (m : ℕ) → Onwards m → (fs : List Frame) (b : Option Elements) (least at : ℕ) (p : Pad) (x : Flow) (q : Pad) (k : ℕ) (rest : List ℕ) (v : Value)
    → length rest ≤ m → IsLeast least fs → length fs < 32 → AreElements least (suc (length fs)) (with_item b p x q) → all_ended true rest ≡ true
    → OnFrom (after_item (InFlow (values_before b) ∷ fs) (flow_value x) k 44) (past (past at (91 ∷ spell_before b)) (spell_pad p ++ (spell_flow x ++ spell_pad q)) + 1) rest v
    → FlowList fs least (length fs) at (91 ∷ (spell_before b ++ ((spell_pad p ++ (spell_flow x ++ spell_pad q)) ++ 44 ∷ rest))) v
unfolding after_item
comma_on m again fs b least at p x q k rest v s l t a e h =
    let es : Elements = with_item b p x q in
    let ys : List ℕ = spell_pad p ++ (spell_flow x ++ spell_pad q) in
    let w : spell_elements es ≡ spell_before b ++ ys = spell_with_item b p x q in
    let z : past at (91 ∷ spell_before (Some es)) ≡ past (past at (91 ∷ spell_before b)) ys + 1
    = past_append (spell_elements es) (44 ∷ []) (at + 1) ∙ ap (λ (j : ℕ). j + 1) (ap (λ zs. past (at + 1) zs) w ∙ past_append (spell_before b) ys (at + 1)) in
    let spelled : spell_before (Some es) ++ rest ≡ spell_before b ++ (ys ++ 44 ∷ rest)
    = append_assoc (spell_elements es) (44 ∷ []) rest ∙ (ap (λ zs. zs ++ 44 ∷ rest) w ∙ append_assoc (spell_before b) ys (44 ∷ rest)) in
    let vs : List Value = values_before b ++ flow_value x ∷ [] in
    let g : ReadsOn (front (InFlow (element_values es) ∷ fs) (AtValue 0 false false)) (past (past at (91 ∷ spell_before b)) ys + 1) rest v
    = subst (λ us. ReadsOn (front (InFlow us ∷ fs) (AtValue 0 false false)) (past (past at (91 ∷ spell_before b)) ys + 1) rest v) (sym (values_with_item b p x q)) h in
    subst (λ zs. FlowList fs least (length fs) at (91 ∷ zs) v) spelled
    (again fs (Some es) least at rest v s l t a e (subst (λ (j : ℕ). ReadsOn (front (InFlow (element_values es) ∷ fs) (AtValue 0 false false)) j rest v) (sym z) g))

bracket_on : (fs : List Frame) (b : Option Elements) (least at : ℕ) (p : Pad) (x : Flow) (q : Pad) (k : ℕ) (rest : List ℕ) (v : Value)
    → length fs < 32 → AreElements least (suc (length fs)) (with_item b p x q) → all_ended true rest ≡ true
    → OnFrom (after_item (InFlow (values_before b) ∷ fs) (flow_value x) k 93) (past (past at (91 ∷ spell_before b)) (spell_pad p ++ (spell_flow x ++ spell_pad q)) + 1) rest v
    → FlowList fs least (length fs) at (91 ∷ (spell_before b ++ ((spell_pad p ++ (spell_flow x ++ spell_pad q)) ++ 93 ∷ rest))) v
unfolding after_item
bracket_on fs b least at p x q k rest v t a e h =
    let es : Elements = with_item b p x q in
    let ys : List ℕ = spell_pad p ++ (spell_flow x ++ spell_pad q) in
    list_read fs (Listed es) (spell_before b) ys rest (a_list (items_from (values_before b ++ flow_value x ∷ []))) least at v
    (ap (λ zs. 91 ∷ zs) (ap (λ zs. zs ++ 93 ∷ []) (spell_with_item b p x q) ∙ append_assoc (spell_before b) ys (93 ∷ [])))
    (ap (λ us. a_list (items_from us)) (values_with_item b p x q)) (λ place in_flow ended. (t, a)) e h

no_more : (fs : List Frame) (vs : List Value) (u : Value) (k c at : ℕ) (cs : List ℕ) (v : Value) (P : Type 0) → (c == 44) ≡ false → (c == 93) ≡ false → OnFrom (after_item (InFlow vs ∷ fs) u k c) at cs v → P
unfolding after_item
no_more fs vs u k c at cs v P a b h = absurd (rw (a, b) at h)

-- after an item
step_on_from : (m : ℕ) → Onwards m → (fs : List Frame) (b : Option Elements) (least at : ℕ) (xs : List ℕ) (v : Value) → length xs ≤ suc m → IsLeast least fs → length fs < 32 → AreBefore least (suc (length fs)) b
    → Step (InFlow (values_before b) ∷ fs) least (suc (length fs)) (past at (91 ∷ spell_before b)) xs v → FlowList fs least (length fs) at (91 ∷ (spell_before b ++ xs)) v
step_on_from m again fs b least at xs v k l t a s =
    let ys : List ℕ = spell_pad s.pad ++ (spell_flow s.flow ++ spell_pad s.behind) in
    let n : ℕ = past (past at (91 ∷ spell_before b)) ys in
    let R : ℕ → Type 0 = λ c. OnFrom (after_item (InFlow (values_before b) ∷ fs) (flow_value s.flow) s.at_sign c) (n + len_utf8 c) s.rest v → FlowList fs least (length fs) at (91 ∷ (spell_before b ++ (ys ++ c ∷ s.rest))) v in
    let w : AreElements least (suc (length fs)) (with_item b s.pad s.flow s.behind) = are_with_item b s.pad s.flow s.behind least (suc (length fs)) a s.before s.is s.after in
    let r : length s.rest ≤ m = shorter ys s.rest s.sign m (subst (λ zs. length zs ≤ suc m) s.parts k) in
    subst (λ zs. FlowList fs least (length fs) at (91 ∷ (spell_before b ++ zs)) v) (sym s.parts)
    (elim (cases_Bool (s.sign == 44)) [
      | inl c ↦ for_that R s.sign 44 c (comma_on m again fs b least at s.pad s.flow s.behind s.at_sign s.rest v r l t w s.ended) s.on
      | inr c ↦ elim (cases_Bool (s.sign == 93)) [
        | inl d ↦ for_that R s.sign 93 d (bracket_on fs b least at s.pad s.flow s.behind s.at_sign s.rest v t w s.ended) s.on
        | inr d ↦ no_more fs (values_before b) (flow_value s.flow) s.at_sign s.sign (n + len_utf8 s.sign) s.rest v _ c d s.on
      ]
    ])

bracket_or_item : (fs : List Frame) (at p c : ℕ) (cs : List ℕ) (v : Value) → (c == 93) ≡ false → OnFrom (item_or_end fs at c (with_returns cs)) p cs v → OnFrom (begin_value fs ValueOnly at c (with_returns cs)) p cs v
bracket_or_item fs at p c cs v e h = rw e at h

more_items : (m n : ℕ) → m ≤ n → Nested n → Onwards m → Onwards (suc m)
more_items m n i nested again fs b least at xs v k l t a e h =
    let gs : List Frame = InFlow (values_before b) ∷ fs in
    let from : ℕ = past at (91 ∷ spell_before b) in
    let p : Padded gs from xs v = pad_read gs from xs v refl e h in
    let ps : List ℕ = spell_pad p.pad in
    let r : length p.more ≤ m = shorter ps p.more p.first m (subst (λ zs. length zs ≤ suc m) p.parts k) in
    let R : ℕ → Type 0 = λ c. OnFrom (item_or_end gs (past from ps) c (with_returns p.more)) (past from ps + len_utf8 c) p.more v → FlowList fs least (length fs) at (91 ∷ (spell_before b ++ (ps ++ c ∷ p.more))) v in
    elim (cases_Bool (p.first == 93)) [
      | inl c ↦ subst (λ zs. FlowList fs least (length fs) at (91 ∷ (spell_before b ++ zs)) v) (sym p.parts)
          (for_that R p.first 93 c (list_over fs b p.pad least at p.more v t a p.is p.ended (past from ps)) p.on)
      | inr c ↦
          let j : length p.more ≤ n = omega arith in
          let o : OnFrom (begin_value gs ValueOnly (past from ps) p.first (with_returns p.more)) (past from ps + len_utf8 p.first) p.more v = bracket_or_item gs (past from ps) (past from ps + len_utf8 p.first) p.first p.more v c p.on in
          step_on_from m again fs b least at xs v k l t a
          (step_of gs least (suc (length fs)) from xs v p (item_read n nested gs (place_behind p.pad) least (past from ps) p.first p.more v j refl l p.may p.solid p.inner p.ended o))
    ]

none_left : (xs : List ℕ) (P : Type 0) → length xs ≤ 0 → all_ended true xs ≡ true → P
none_left [] P k e = absurd (let q : false ≡ true = e in cc)
none_left (x ∷ xs) P k e = absurd (let q : suc (length xs) ≤ 0 = k in omega arith)

items_read : (m n : ℕ) → m ≤ suc n → Nested n → Onwards m
items_read zero n i nested fs b least at xs v k l t a e h = none_left xs _ k e
items_read (suc m) n i nested fs b least at xs v k l t a e h = more_items m n (omega arith) nested (items_read m n (omega arith) nested) fs b least at xs v k l t a e h

full_or_not : (fs : List Frame) (at p : ℕ) (xs : List ℕ) (v : Value) → OnFrom (open_flow fs at) p xs v → (length fs < 32) × ReadsOn (front (InFlow [] ∷ fs) (AtValue 0 false false)) p xs v
unfolding open_flow
full_or_not fs at p xs v h = elim (cases_Bool (nat_le 32 (length fs))) [
  | inl e ↦ absurd (let q : OnFrom (too_deep at) p xs v = rw e at h in q)
  | inr e ↦ (grind (arith, nat_tests), rw e at h)
]

-- a flow list is read, from its bracket to the other one
pub flow_list_read : (n : ℕ) (fs : List Frame) (least at : ℕ) (xs : List ℕ) (v : Value) → length xs ≤ n → IsLeast least fs → all_ended true xs ≡ true → OnFrom (open_flow fs at) (at + 1) xs v
    → FlowList fs least (length fs) at (91 ∷ xs) v
flow_list_read zero fs least at xs v k l e h = none_left xs _ k e
flow_list_read (suc n) fs least at xs v k l e h =
    let o : (length fs < 32) × ReadsOn (front (InFlow [] ∷ fs) (AtValue 0 false false)) (at + 1) xs v = full_or_not fs at (at + 1) xs v h in
    items_read (suc n) n (omega arith) (flow_list_read n) fs None least at xs v k l o.0 tt e o.1
