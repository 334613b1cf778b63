-- Declared properties are typed as the rules say one by one.
use Rattle.std.proofs.Common.{◌≡◌, ◌∙◌, ◌⊎◌, ◌&&◌, ◌||◌, ℕ, Bool, true, false, not, List, [], ◌∷◌, Option, Some, None, Result, Ok, Err, is_some, length, map, nat_eq, option_map, position, ap, sym, refl, inl, inr, if◌then◌else◌}
use Rattle.std.proofs.lemmas.Bool.{false≢true}
use Rattle.std.proofs.lemmas.Option.{none-some, same_Some}
use Rattle.std.specs.List.{list_any}
use Rattle.std.specs.Option.{IsSomeAnd, option_map_or}
use Rattle.std.specs.Result.{is_ok}
use Rattle.edt_base.specs.NodeData.{NodeData, bytes_of, one_cell}
use Rattle.edt_base.specs.Nodes.{is_okay, prop_at}
use Rattle.edt_base.specs.Values.{are_strings, value_cells, value_string}
use Rattle.edt_base.specs.PropData.{PropData}
use Rattle.edt_base.specs.ValData.{ValData, bool_val, int_val, ints_val, u8s_val, str_val, strs_val, node_val, nodes_val, entries_val, compound_val}
use Rattle.edt_base.specs.YamlData.{Value}
use Rattle.edt_base.specs.declared.bound.PropType.{PropType}
use Rattle.edt_base.specs.declared.bound.PropType.TheVariants as type
use Rattle.edt_base.specs.declared.fault.Rule.{Rule}
use Rattle.edt_base.specs.declared.fault.Rule.TheVariants as rule
use Rattle.edt_base.specs.declared.node.Part.{Part}
use Rattle.prop_types.specs.AllThere.{all_there, before}
use Rattle.prop_types.specs.Broken.{ArePropsOf, Breaks, BreaksAt, HasValue, IsFirstBroken, IsFirstOf, IsPropOf, in_order, is_outside}
use Rattle.prop_types.specs.Choices.{choices_of, is_number, is_text, number_choice, text_choice}
use Rattle.prop_types.specs.Given.{byte_in, cell_in, is_constant}
use Rattle.prop_types.specs.Typing.{DeclaredData, as_one, choices_in, joined, of_unwritten, of_written, typed_all, typed_one, unwritten, with_choices, with_value}
use Rattle.prop_types.specs.Written.{are_bytes, are_cells, named_node, node_of_phandle, nodes_of_phandles, phandle_value, there_or, written}
use Rattle.prop_types.proofs.PlaceLaws.{is_some_position}

-- ---- `enum`

some_before : {X : Type 0} (x : Option X) (xs : Option (List X)) → is_some (before x xs) ≡ (is_some x && is_some xs)
some_before None xs = refl
some_before (Some x) None = refl
some_before (Some x) (Some xs) = refl

some_map : {X Y : Type 0} (f : X → Y) (o : Option X) → is_some (option_map f o) ≡ is_some o
some_map f None = refl
some_map f (Some x) = refl

and_not : (p q : Bool) → (p && not q) ≡ not (not p || q)
and_not true q = refl
and_not false q = refl

-- all have a choice where each equals an entry
all_chosen : {A X : Type 0} (entries : List Value) (choice : A → Option X) (equals : A → Value → Bool) → ((x : A) → is_some (choice x) ≡ list_any (equals x) entries)
    → (xs : List A) → is_some (all_there (map choice xs)) ≡ not (list_any (λ (e : Value → Bool). not (list_any e entries)) (map equals xs))
all_chosen entries choice equals h [] = refl
all_chosen entries choice equals h (x ∷ xs) =
    some_before (choice x) (all_there (map choice xs)) ∙ (ap (λ b. b && is_some (all_there (map choice xs))) (h x)
    ∙ (ap (λ b. list_any (equals x) entries && b) (all_chosen entries choice equals h xs) ∙ and_not (list_any (equals x) entries) _))

number_chosen : (read : Value → Option ℕ) (entries : List Value) (n : ℕ) → is_some (number_choice read entries n) ≡ list_any (is_number read n) entries
number_chosen read entries n = some_map _ (position (is_number read n) entries) ∙ is_some_position (is_number read n) entries

text_chosen : (entries : List Value) (t : List ℕ) → is_some (text_choice entries t) ≡ list_any (is_text t) entries
text_chosen entries t = some_map _ (position (is_text t) entries) ∙ is_some_position (is_text t) entries

-- the tested values have choices exactly where each equals an entry
chosen : (entries : List Value) (val : ValData) → is_some (choices_of entries val) ≡ not (is_outside entries val)
unfolding choices_of
chosen entries (bool_val b) = refl
chosen entries (int_val n) = all_chosen entries (number_choice cell_in entries) (is_number cell_in) (number_chosen cell_in entries) (n ∷ [])
chosen entries (ints_val ns) = all_chosen entries (number_choice cell_in entries) (is_number cell_in) (number_chosen cell_in entries) ns
chosen entries (u8s_val bs) = all_chosen entries (number_choice byte_in entries) (is_number byte_in) (number_chosen byte_in entries) bs
chosen entries (str_val t) = all_chosen entries (text_choice entries) is_text (text_chosen entries) (t ∷ [])
chosen entries (strs_val ts) = all_chosen entries (text_choice entries) is_text (text_chosen entries) ts
chosen entries (node_val n) = refl
chosen entries (nodes_val ns) = refl
chosen entries (entries_val es) = refl
chosen entries compound_val = refl

flip : (b : Bool) → false ≡ not b → b ≡ true
flip true e = refl
flip false e = absurd (false≢true e)

clash : (b : Bool) → true ≡ not b → b ≡ true → ⊥
clash true e w = false≢true (sym e)
clash false e w = false≢true w

not_chosen : (es : Option (List Value)) (val : ValData) → choices_in es val ≡ None → IsSomeAnd es (λ entries. is_outside entries val ≡ true)
not_chosen None val e = absurd (none-some [] (sym e))
not_chosen (Some entries) val e = flip (is_outside entries val) (sym (ap is_some e) ∙ chosen entries val)

are_chosen : (es : Option (List Value)) (val : ValData) (cs : List (ℕ × List ℕ)) → choices_in es val ≡ Some cs
    → IsSomeAnd es (λ entries. is_outside entries val ≡ true) → ⊥
are_chosen None val cs e w = w
are_chosen (Some entries) val cs e w = clash (is_outside entries val) (sym (ap is_some e) ∙ chosen entries val) w

-- ---- `const`

is_other : (o : Option Value) (same : Value → Bool) → option_map_or same o true ≡ false → IsSomeAnd o (λ c. same c ≡ false)
is_other None same e = absurd (false≢true (sym e))
is_other (Some c) same e = e

is_same : (o : Option Value) (same : Value → Bool) → option_map_or same o true ≡ true → IsSomeAnd o (λ c. same c ≡ false) → ⊥
is_same None same e w = w
is_same (Some c) same e w = false≢true (sym w ∙ e)

-- ---- what testing a value comes to

abbrev IsOutside : DeclaredData → ValData → Type 0
IsOutside d val = IsSomeAnd d.choices (λ entries. is_outside entries val ≡ true)

abbrev IsOther : DeclaredData → ValData → Type 0
IsOther d val = IsSomeAnd d.constant (λ c. is_constant d.ty c val ≡ false)

data Tested (d : DeclaredData) (val : ValData) (r : Result PropData Rule) : Type 0 where
  outside : IsOutside d val → r ≡ Err rule.V13 → Tested d val r
  other : (IsOutside d val → ⊥) → IsOther d val → r ≡ Err rule.V14 → Tested d val r
  passed : (IsOutside d val → ⊥) → (IsOther d val → ⊥) → (choices : List (ℕ × List ℕ)) → choices_in d.choices val ≡ Some choices
      → r ≡ Ok (record { name = d.name; ty = d.ty; val = val; choices = choices }) → Tested d val r

tests : (d : DeclaredData) (val : ValData) → Tested d val (with_value d val)
tests d val = go (choices_in d.choices val) refl
  where
    constant : (choices : List (ℕ × List ℕ)) → choices_in d.choices val ≡ Some choices → (b : Bool) → option_map_or (λ c. is_constant d.ty c val) d.constant true ≡ b
        → Tested d val (if b then Ok (record { name = d.name; ty = d.ty; val = val; choices = choices }) else Err rule.V14)
    constant choices e true same = passed (are_chosen d.choices val choices e) (is_same d.constant (λ c. is_constant d.ty c val) same) choices e refl
    constant choices e false differs = other (are_chosen d.choices val choices e) (is_other d.constant (λ c. is_constant d.ty c val) differs) refl

    go : (cs : Option (List (ℕ × List ℕ))) → choices_in d.choices val ≡ cs → Tested d val (with_choices d val cs)
    go None e = outside (not_chosen d.choices val e) refl
    go (Some choices) e = constant choices e (option_map_or (λ c. is_constant d.ty c val) d.constant true) refl

-- ---- one declared property

pub err_ok : {X E : Type 0} (e : E) (x : X) → ◌≡◌ {A = Result X E} (Err e) (Ok x) → ⊥
err_ok e x p = false≢true (ap is_ok p)

abbrev ok_in : {X E : Type 0} → X → Result X E → X
ok_in x (Ok y) = y
ok_in x (Err e) = x

abbrev err_in : {X E : Type 0} → E → Result X E → E
err_in e (Ok y) = e
err_in e (Err d) = d

pub ok_same : {X E : Type 0} (x y : X) → ◌≡◌ {A = Result X E} (Ok x) (Ok y) → x ≡ y
ok_same x y p = ap (ok_in x) p

err_same : {X E : Type 0} (x y : E) → ◌≡◌ {A = Result X E} (Err x) (Err y) → x ≡ y
err_same x y p = ap (err_in x) p

abbrev is_v11 : Rule → Bool
is_v11 rule.V11 = true
is_v11 r = false

-- a declared property has one value
one_value : (nodes : List NodeData) (d : DeclaredData) (parts : Option (List Part)) (v w : ValData) → HasValue nodes d parts v → HasValue nodes d parts w → v ≡ w
one_value nodes d (Some parts) v w a b = ok_same v w (sym a ∙ b)
one_value nodes d None v w a b = same_Some v w (sym a ∙ b)

-- a value that is written breaks V11 or V20 alone
of_option : {X : Type 0} (r q : Rule) (o : Option X) → there_or r o ≡ Err q → q ≡ r
of_option r q None e = sym (err_same r q e)
of_option r q (Some x) e = absurd (err_ok q x (sym e))

of_test : {X : Type 0} (r q : Rule) (b : Bool) (x : X) → (if b then Ok x else Err r) ≡ Err q → q ≡ r
of_test r q true x e = absurd (err_ok q x (sym e))
of_test r q false x e = sym (err_same r q e)

written_breaks : (nodes : List NodeData) (ty : PropType) (parts : List Part) (q : Rule) → written nodes ty parts ≡ Err q → (q ≡ rule.V11) ⊎ (q ≡ rule.V20)
unfolding written
written_breaks nodes type.Boolean parts q e = inl (of_test rule.V11 q (nat_eq (length (bytes_of parts)) 0) _ e)
written_breaks nodes type.Int parts q e = inl (of_option rule.V11 q (option_map int_val (one_cell parts)) e)
written_breaks nodes type.Array parts q e = inl (of_test rule.V11 q (are_cells parts) _ e)
written_breaks nodes type.U8Array parts q e = inl (of_test rule.V11 q (are_bytes parts) _ e)
written_breaks nodes type.Str parts q e = inl (of_option rule.V11 q (option_map str_val (value_string parts)) e)
written_breaks nodes type.StrArray parts q e = inl (of_test rule.V11 q (are_strings parts) _ e)
written_breaks nodes type.Phandle parts q e = by (one_cell parts) e
  where
    by : (o : Option ℕ) → phandle_value nodes o ≡ Err q → (q ≡ rule.V11) ⊎ (q ≡ rule.V20)
    by None e = inl (sym (err_same rule.V11 q e))
    by (Some n) e = inr (of_option rule.V20 q (option_map node_val (node_of_phandle nodes n)) e)
written_breaks nodes type.Phandles parts q e = by (are_cells parts) e
  where
    by : (b : Bool) → (if b then there_or rule.V20 (option_map nodes_val (nodes_of_phandles nodes (value_cells parts))) else Err rule.V11) ≡ Err q → (q ≡ rule.V11) ⊎ (q ≡ rule.V20)
    by true e = inr (of_option rule.V20 q (option_map nodes_val (nodes_of_phandles nodes (value_cells parts))) e)
    by false e = inl (sym (err_same rule.V11 q e))
written_breaks nodes type.PhandleArray parts q e = inl (of_test rule.V11 q (are_cells parts) _ e)
written_breaks nodes type.Path parts q e = inl (of_option rule.V11 q (option_map node_val (named_node nodes parts)) e)
written_breaks nodes type.Compound parts q e = absurd (err_ok q compound_val (sym e))

-- what typing a declared property comes to
abbrev IsProp : List NodeData → DeclaredData → Option (List Part) → PropData → Type 0
IsProp nodes d parts p = (p.name ≡ d.name) × (p.ty ≡ d.ty) × HasValue nodes d parts p.val × (choices_in d.choices p.val ≡ Some p.choices)

data One (nodes : List NodeData) (okay : Bool) (d : DeclaredData) (parts : Option (List Part)) (r : Result (List PropData) Rule) : Type 0 where
  refused : (q : Rule) → r ≡ Err q → IsFirstOf in_order (Breaks nodes okay d parts) q → One nodes okay d parts r
  has : (p : PropData) → r ≡ Ok (p ∷ []) → ((q : Rule) → Breaks nodes okay d parts q → ⊥) → IsProp nodes d parts p → One nodes okay d parts r
  lacks : r ≡ Ok [] → ((q : Rule) → Breaks nodes okay d parts q → ⊥) → ((val : ValData) → HasValue nodes d parts val → ⊥) → One nodes okay d parts r

-- one that has a value and breaks none of the first three rules
valued : (nodes : List NodeData) (okay : Bool) (d : DeclaredData) (parts : Option (List Part)) (val : ValData) → HasValue nodes d parts val
    → (Breaks nodes okay d parts rule.V11 → ⊥) → (Breaks nodes okay d parts rule.V20 → ⊥) → (Breaks nodes okay d parts rule.V10 → ⊥)
    → One nodes okay d parts (as_one (with_value d val))
valued nodes okay d parts val v n11 n20 n10 = by (with_value d val) (tests d val)
  where
    moved : (P : ValData → Type 0) (w : ValData) → HasValue nodes d parts w → P w → P val
    moved P w h p = rw (one_value nodes d parts w val h v) at p

    by : (r : Result PropData Rule) → Tested d val r → One nodes okay d parts (as_one r)
    by r (outside o e) = refused rule.V13 (ap as_one e) (inr (n11, inr (n20, inr (n10, inl ((val, v, o), refl)))))
    by r (other n o e) = refused rule.V14 (ap as_one e)
        (inr (n11, inr (n20, inr (n10, inr (λ w. n (moved (IsOutside d) w.0 w.1 w.2), inl ((val, v, o), refl))))))
    by r (passed n m choices c e) = has _ (ap as_one e) keeps (refl, refl, v, c)
      where
        keeps : (q : Rule) → Breaks nodes okay d parts q → ⊥
        keeps rule.V11 w = n11 w
        keeps rule.V20 w = n20 w
        keeps rule.V10 w = n10 w
        keeps rule.V13 w = n (moved (IsOutside d) w.0 w.1 w.2)
        keeps rule.V14 w = m (moved (IsOther d) w.0 w.1 w.2)
        keeps q w = w

one : (nodes : List NodeData) (okay : Bool) (d : DeclaredData) (parts : Option (List Part)) → One nodes okay d parts (typed_one nodes okay d parts)
one nodes okay d (Some parts) = by (written nodes d.ty parts) refl
  where
    first : (q : Rule) → written nodes d.ty parts ≡ Err q → (q ≡ rule.V11) ⊎ (q ≡ rule.V20) → IsFirstOf in_order (Breaks nodes okay d (Some parts)) q
    first q e (inl is) = inl (rw is at e, is)
    first q e (inr is) = inr (λ w. false≢true (sym (ap is_v11 (err_same {X = ValData} rule.V11 rule.V20 (sym w ∙ rw is at e)))), inl (rw is at e, is))

    by : (r : Result ValData Rule) → written nodes d.ty parts ≡ r → One nodes okay d (Some parts) (of_written d r)
    by (Err q) e = refused q refl (first q e (written_breaks nodes d.ty parts q e))
    by (Ok val) e = valued nodes okay d (Some parts) val e (λ w. err_ok rule.V11 val (sym w ∙ e)) (λ w. err_ok rule.V20 val (sym w ∙ e)) (λ w. none-some parts (sym w.0))
one nodes okay d None = by (okay && d.required) refl
  where
    both : (a b : Bool) → (a && b) ≡ true → (b ≡ true) × (a ≡ true)
    both true b e = (e, refl)
    both false b e = absurd (false≢true e)

    and : (a b : Bool) → (a && b) ≡ false → b ≡ true → a ≡ true → ⊥
    and a b e w v = false≢true (sym e ∙ (ap (λ x. x && b) v ∙ w))

    value : (Breaks nodes okay d None rule.V10 → ⊥) → (o : Option ValData) → unwritten d.ty d.default ≡ o → One nodes okay d None (of_unwritten d o)
    value n None e = lacks refl keeps (λ val w. none-some val (sym e ∙ w))
      where
        keeps : (q : Rule) → Breaks nodes okay d None q → ⊥
        keeps rule.V10 w = n w
        keeps rule.V13 w = none-some w.0 (sym e ∙ w.1)
        keeps rule.V14 w = none-some w.0 (sym e ∙ w.1)
        keeps q w = w
    value n (Some val) e = valued nodes okay d None val e (λ w. w) (λ w. w) n

    by : (b : Bool) → (okay && d.required) ≡ b → One nodes okay d None (if b then Err rule.V10 else of_unwritten d (unwritten d.ty d.default))
    by true e = let w : (d.required ≡ true) × (okay ≡ true) = both okay d.required e in
        refused rule.V10 refl (inr (λ w. w, inr (λ w. w, inl ((refl, w.0, w.1), refl))))
    by false e = value (λ w. and okay d.required e w.1 w.2) (unwritten d.ty d.default) refl

-- ---- all of them

first_same : (rules : List Rule) (broken : Rule → Type 0) (q r : Rule) → IsFirstOf rules broken q → IsFirstOf rules broken r → q ≡ r
first_same [] broken q r a b = absurd a
first_same (p ∷ ps) broken q r (inl a) (inl b) = a.1 ∙ sym b.1
first_same (p ∷ ps) broken q r (inl a) (inr b) = absurd (b.0 a.0)
first_same (p ∷ ps) broken q r (inr a) (inl b) = absurd (a.0 b.0)
first_same (p ∷ ps) broken q r (inr a) (inr b) = first_same ps broken q r a.1 b.1

first_breaks : (rules : List Rule) (broken : Rule → Type 0) (r : Rule) → IsFirstOf rules broken r → broken r
first_breaks [] broken r a = absurd a
first_breaks (p ∷ ps) broken r (inl a) = rw (sym a.1) at a.0
first_breaks (p ∷ ps) broken r (inr a) = first_breaks ps broken r a.1

prop_same : (n m : List ℕ) (t s : PropType) (v w : ValData) (c b : List (ℕ × List ℕ)) → n ≡ m → t ≡ s → v ≡ w → c ≡ b
    → ◌≡◌ {A = PropData} (record { name = n; ty = t; val = v; choices = c }) (record { name = m; ty = s; val = w; choices = b })
prop_same n m t s v w c b nm ts vw cb = rw (nm, ts, vw, cb) refl

one_prop : (nodes : List NodeData) (id : ℕ) (d : DeclaredData) (p q : PropData) → IsPropOf nodes id d p → IsPropOf nodes id d q → p ≡ q
one_prop nodes id d p q a b =
    let same : p.val ≡ q.val = one_value nodes d (prop_at nodes id d.name) p.val q.val a.2 b.2 in
    prop_same p.name q.name p.ty q.ty p.val q.val p.choices q.choices (a.0 ∙ sym b.0) (a.1 ∙ sym b.1) same
    (same_Some p.choices q.choices (sym a.3 ∙ (ap (choices_in d.choices) same ∙ b.3)))

props_next : (nodes : List NodeData) (id : ℕ) (d : DeclaredData) (ds : List DeclaredData) (props : List PropData)
    → ((more : List PropData) → typed_all nodes id ds ≡ Ok more → ArePropsOf nodes id ds more)
    → (r : Result (List PropData) Rule) → One nodes (is_okay nodes id) d (prop_at nodes id d.name) r
    → (rest : Result (List PropData) Rule) → typed_all nodes id ds ≡ rest → joined r rest ≡ Ok props → ArePropsOf nodes id (d ∷ ds) props
props_next nodes id d ds props ih r (refused q is f) rest t e = absurd (err_ok q props (ap (λ x. joined x rest) (sym is) ∙ e))
props_next nodes id d ds props ih r (has p is keeps of) (Err q) t e = absurd (err_ok q props (ap (λ x. joined x (Err q)) (sym is) ∙ e))
props_next nodes id d ds props ih r (has p is keeps of) (Ok more) t e =
    (keeps, inr (p, more, sym (ok_same (p ∷ more) props (ap (λ x. joined x (Ok more)) (sym is) ∙ e)), of, ih more t))
props_next nodes id d ds props ih r (lacks is keeps n) (Err q) t e = absurd (err_ok q props (ap (λ x. joined x (Err q)) (sym is) ∙ e))
props_next nodes id d ds props ih r (lacks is keeps n) (Ok more) t e = (keeps, inl (n, ih props (t ∙ (ap (λ x. joined x (Ok more)) (sym is) ∙ e))))

pub typed_props : (nodes : List NodeData) (id : ℕ) (ds : List DeclaredData) (props : List PropData) → typed_all nodes id ds ≡ Ok props → ArePropsOf nodes id ds props
typed_props nodes id [] props e = sym (ok_same [] props e)
typed_props nodes id (d ∷ ds) props e =
    props_next nodes id d ds props (typed_props nodes id ds) _ (one nodes (is_okay nodes id) d (prop_at nodes id d.name)) (typed_all nodes id ds) refl e

props_back : (nodes : List NodeData) (id : ℕ) (d : DeclaredData) (ds : List DeclaredData) (props : List PropData)
    → ((more : List PropData) → ArePropsOf nodes id ds more → typed_all nodes id ds ≡ Ok more)
    → (r : Result (List PropData) Rule) → One nodes (is_okay nodes id) d (prop_at nodes id d.name) r
    → ArePropsOf nodes id (d ∷ ds) props → joined r (typed_all nodes id ds) ≡ Ok props
props_back nodes id d ds props ih r (refused q is f) (keeps, w) = absurd (keeps q (first_breaks in_order (BreaksAt nodes id d) q f))
props_back nodes id d ds props ih r (has p is ks of) (keeps, inl w) = absurd (w.0 p.val of.2)
props_back nodes id d ds props ih r (has p is ks of) (keeps, inr w) =
    ap (λ x. joined x (typed_all nodes id ds)) is ∙ (ap (joined (Ok (p ∷ []))) (ih w.1 w.4)
    ∙ (ap (λ x. Ok (x ∷ w.1)) (one_prop nodes id d p w.0 of w.3) ∙ ap Ok (sym w.2)))
props_back nodes id d ds props ih r (lacks is ks n) (keeps, inl w) = ap (λ x. joined x (typed_all nodes id ds)) is ∙ ap (joined (Ok [])) (ih props w.1)
props_back nodes id d ds props ih r (lacks is ks n) (keeps, inr w) = absurd (n w.0.val w.3.2)

pub props_typed : (nodes : List NodeData) (id : ℕ) (ds : List DeclaredData) (props : List PropData) → ArePropsOf nodes id ds props → typed_all nodes id ds ≡ Ok props
props_typed nodes id [] props e = ap Ok (sym e)
props_typed nodes id (d ∷ ds) props w =
    props_back nodes id d ds props (props_typed nodes id ds) _ (one nodes (is_okay nodes id) d (prop_at nodes id d.name)) w

first_next : (nodes : List NodeData) (id : ℕ) (d : DeclaredData) (ds : List DeclaredData) (r : Rule)
    → ((q : Rule) → typed_all nodes id ds ≡ Err q → IsFirstBroken nodes id ds q)
    → (x : Result (List PropData) Rule) → One nodes (is_okay nodes id) d (prop_at nodes id d.name) x
    → (rest : Result (List PropData) Rule) → typed_all nodes id ds ≡ rest → joined x rest ≡ Err r → IsFirstBroken nodes id (d ∷ ds) r
first_next nodes id d ds r ih x (refused q is f) rest t e =
    let same : q ≡ r = err_same {X = List PropData} q r (ap (λ y. joined y rest) (sym is) ∙ e) in inl (rw same at f)
first_next nodes id d ds r ih x (has p is keeps of) (Err q) t e = inr (keeps, ih r (t ∙ (ap (λ y. joined y (Err q)) (sym is) ∙ e)))
first_next nodes id d ds r ih x (has p is keeps of) (Ok more) t e = absurd (err_ok r (p ∷ more) (sym (ap (λ y. joined y (Ok more)) (sym is) ∙ e)))
first_next nodes id d ds r ih x (lacks is keeps n) (Err q) t e = inr (keeps, ih r (t ∙ (ap (λ y. joined y (Err q)) (sym is) ∙ e)))
first_next nodes id d ds r ih x (lacks is keeps n) (Ok more) t e = absurd (err_ok r more (sym (ap (λ y. joined y (Ok more)) (sym is) ∙ e)))

pub broken_first : (nodes : List NodeData) (id : ℕ) (ds : List DeclaredData) (r : Rule) → typed_all nodes id ds ≡ Err r → IsFirstBroken nodes id ds r
broken_first nodes id [] r e = absurd (err_ok r [] (sym e))
broken_first nodes id (d ∷ ds) r e =
    first_next nodes id d ds r (broken_first nodes id ds) _ (one nodes (is_okay nodes id) d (prop_at nodes id d.name)) (typed_all nodes id ds) refl e

first_back : (nodes : List NodeData) (id : ℕ) (d : DeclaredData) (ds : List DeclaredData) (r : Rule)
    → (IsFirstBroken nodes id ds r → typed_all nodes id ds ≡ Err r)
    → (x : Result (List PropData) Rule) → One nodes (is_okay nodes id) d (prop_at nodes id d.name) x
    → IsFirstBroken nodes id (d ∷ ds) r → joined x (typed_all nodes id ds) ≡ Err r
first_back nodes id d ds r ih x (refused q is f) (inl g) = ap (λ y. joined y (typed_all nodes id ds)) is ∙ ap Err (first_same in_order (BreaksAt nodes id d) q r f g)
first_back nodes id d ds r ih x (refused q is f) (inr w) = absurd (w.0 q (first_breaks in_order (BreaksAt nodes id d) q f))
first_back nodes id d ds r ih x (has p is keeps of) (inl g) = absurd (keeps r (first_breaks in_order (BreaksAt nodes id d) r g))
first_back nodes id d ds r ih x (has p is keeps of) (inr w) = ap (λ y. joined y (typed_all nodes id ds)) is ∙ ap (joined (Ok (p ∷ []))) (ih w.1)
first_back nodes id d ds r ih x (lacks is keeps n) (inl g) = absurd (keeps r (first_breaks in_order (BreaksAt nodes id d) r g))
first_back nodes id d ds r ih x (lacks is keeps n) (inr w) = ap (λ y. joined y (typed_all nodes id ds)) is ∙ ap (joined (Ok [])) (ih w.1)

pub first_broken : (nodes : List NodeData) (id : ℕ) (ds : List DeclaredData) (r : Rule) → IsFirstBroken nodes id ds r → typed_all nodes id ds ≡ Err r
first_broken nodes id [] r w = absurd w
first_broken nodes id (d ∷ ds) r w =
    first_back nodes id d ds r (first_broken nodes id ds r) _ (one nodes (is_okay nodes id) d (prop_at nodes id d.name)) w
