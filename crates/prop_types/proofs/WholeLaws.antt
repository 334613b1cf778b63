-- Typed properties keep what each property of a bound tree keeps.
use Rattle.std.proofs.Common.{◌≡◌, ◌∙◌, ◌⊎◌, ◌<◌, ℕ, suc, Bool, true, false, List, [], ◌∷◌, Option, Some, None, Ok, Err, IsTrue, All, length, map, nat_eq, option_map, option_and_then, position, ap, sym, refl, subst, inl, inr, arith, if◌then◌else◌}
use Rattle.std.proofs.lemmas.List.Elements.{All-cons}
use Rattle.std.proofs.lemmas.List.Quantifiers.{position-Some}
use Rattle.std.proofs.lemmas.Option.{none-some, same_Some}
use Rattle.edt_base.specs.NodeData.{NodeData, bytes_of, has_path, has_phandle, one_cell}
use Rattle.edt_base.specs.Nodes.{prop_at}
use Rattle.edt_base.specs.PropData.{IsTyped, PropData}
use Rattle.edt_base.specs.ValData.{HasNodesBelow, IsOfType, ValData, bool_val, int_val, ints_val, is_tested, u8s_val, str_val, strs_val, node_val, nodes_val, entries_val, compound_val, tested_count}
use Rattle.edt_base.specs.Values.{are_strings, value_cells, value_string, value_strings}
use Rattle.edt_base.specs.YamlData.{Value}
use Rattle.edt_base.specs.declared.bound.PropType.{PropType}
use Rattle.edt_base.specs.declared.bound.PropType.TheVariants as type
use Rattle.edt_base.specs.declared.fault.Rule.{Rule}
use Rattle.edt_base.specs.declared.fault.Rule.TheVariants as rule
use Rattle.edt_base.specs.declared.node.Part.{Part}
use Rattle.prop_types.specs.AllThere.{all_there, before}
use Rattle.prop_types.specs.Broken.{ArePropsOf, HasValue, IsPropOf}
use Rattle.prop_types.specs.Choices.{choices_of, number_choice, text_choice}
use Rattle.prop_types.specs.Given.{byte_in, cell_in, given, list_in, text_in}
use Rattle.prop_types.specs.Typing.{DeclaredData, choices_in, typed_all, unwritten}
use Rattle.prop_types.specs.Written.{are_bytes, are_cells, named_node, named_path, node_of_phandle, nodes_of_phandles, phandle_value, there_or, written}
use Rattle.prop_types.proofs.BrokenLaws.{err_ok, ok_same, typed_props}

-- a value of the type, whose nodes are there
abbrev IsWhole : ℕ → PropType → ValData → Type 0
IsWhole count ty val = IsOfType ty val × HasNodesBelow count val

-- ---- places

place_below : {X : Type 0} (p : X → Bool) (xs : List X) (i : ℕ) → position p xs ≡ Some i → i < length xs
place_below p [] i e = absurd (none-some i e)
place_below p (x ∷ xs) i e = (position-Some p (x ∷ xs) i x e).0

none_below : (count : ℕ) → All (λ (id : ℕ). id < count) []
none_below count = λ k d h. absurd (omega (arith, h))

nodes_below : (nodes : List NodeData) (ns ids : List ℕ) → all_there (map (node_of_phandle nodes) ns) ≡ Some ids → All (λ id. id < length nodes) ids
nodes_below nodes [] ids e = subst (λ (xs : List ℕ). All (λ id. id < length nodes) xs) (same_Some [] ids e) (none_below (length nodes))
nodes_below nodes (n ∷ ns) ids e = by (node_of_phandle nodes n) refl (all_there (map (node_of_phandle nodes) ns)) (nodes_below nodes ns) e
  where
    by : (o : Option ℕ) → node_of_phandle nodes n ≡ o → (rest : Option (List ℕ)) → ((more : List ℕ) → rest ≡ Some more → All (λ id. id < length nodes) more)
        → before o rest ≡ Some ids → All (λ id. id < length nodes) ids
    by None h rest ih f = absurd (none-some ids f)
    by (Some id) h None ih f = absurd (none-some ids f)
    by (Some id) h (Some more) ih f =
        subst (λ (xs : List ℕ). All (λ i. i < length nodes) xs) (same_Some (id ∷ more) ids f)
        (All-cons (λ i. i < length nodes) id more (place_below (has_phandle n) nodes id h) (ih more refl))

-- ---- written values

of_option : {X : Type 0} (r : Rule) (f : X → ValData) (o : Option X) (val : ValData) (P : ValData → Type 0) → ((x : X) → o ≡ Some x → P (f x))
    → there_or r (option_map f o) ≡ Ok val → P val
of_option r f None val P h e = absurd (err_ok r val e)
of_option r f (Some x) val P h e = rw (ok_same (f x) val e) at (h x refl)

of_test : (r : Rule) (b : Bool) (x val : ValData) (P : ValData → Type 0) → P x → (if b then Ok x else Err r) ≡ Ok val → P val
of_test r true x val P h e = rw (ok_same x val e) at h
of_test r false x val P h e = absurd (err_ok r val e)

named_below : (nodes : List NodeData) (parts : List Part) (id : ℕ) → named_node nodes parts ≡ Some id → id < length nodes
named_below nodes [] id e = absurd (none-some id e)
named_below nodes (p ∷ []) id e = by (named_path p) e
  where
    by : (o : Option (List ℕ)) → option_and_then (λ path. position (has_path path) nodes) o ≡ Some id → id < length nodes
    by None e = absurd (none-some id e)
    by (Some path) e = place_below (has_path path) nodes id e
named_below nodes (p ∷ q ∷ more) id e = absurd (none-some id e)

written_whole : (nodes : List NodeData) (ty : PropType) (parts : List Part) (val : ValData) → written nodes ty parts ≡ Ok val → IsWhole (length nodes) ty val
unfolding written
written_whole nodes type.Boolean parts val e = of_test rule.V11 (nat_eq (length (bytes_of parts)) 0) (bool_val true) val (IsWhole (length nodes) type.Boolean) (tt, tt) e
written_whole nodes type.Int parts val e = of_option rule.V11 int_val (one_cell parts) val (IsWhole (length nodes) type.Int) (λ x h. (tt, tt)) e
written_whole nodes type.Array parts val e = of_test rule.V11 (are_cells parts) (ints_val (value_cells parts)) val (IsWhole (length nodes) type.Array) (tt, tt) e
written_whole nodes type.U8Array parts val e = of_test rule.V11 (are_bytes parts) (u8s_val (bytes_of parts)) val (IsWhole (length nodes) type.U8Array) (tt, tt) e
written_whole nodes type.Str parts val e = of_option rule.V11 str_val (value_string parts) val (IsWhole (length nodes) type.Str) (λ x h. (tt, tt)) e
written_whole nodes type.StrArray parts val e = of_test rule.V11 (are_strings parts) (strs_val (value_strings parts)) val (IsWhole (length nodes) type.StrArray) (tt, tt) e
written_whole nodes type.Phandle parts val e = by (one_cell parts) e
  where
    by : (o : Option ℕ) → phandle_value nodes o ≡ Ok val → IsWhole (length nodes) type.Phandle val
    by None e = absurd (err_ok rule.V11 val e)
    by (Some n) e = of_option rule.V20 node_val (node_of_phandle nodes n) val (IsWhole (length nodes) type.Phandle) (λ x h. (tt, place_below (has_phandle n) nodes x h)) e
written_whole nodes type.Phandles parts val e = by (are_cells parts) e
  where
    by : (b : Bool) → (if b then there_or rule.V20 (option_map nodes_val (nodes_of_phandles nodes (value_cells parts))) else Err rule.V11) ≡ Ok val → IsWhole (length nodes) type.Phandles val
    by true e = of_option rule.V20 nodes_val (nodes_of_phandles nodes (value_cells parts)) val (IsWhole (length nodes) type.Phandles) (λ ids h. (tt, nodes_below nodes (value_cells parts) ids h)) e
    by false e = absurd (err_ok rule.V11 val e)
written_whole nodes type.PhandleArray parts val e = of_test rule.V11 (are_cells parts) (entries_val []) val (IsWhole (length nodes) type.PhandleArray) (tt, λ k d h. absurd (omega (arith, h))) e
written_whole nodes type.Path parts val e = of_option rule.V11 node_val (named_node nodes parts) val (IsWhole (length nodes) type.Path) (λ x h. (tt, named_below nodes parts x h)) e
written_whole nodes type.Compound parts val e = subst (IsWhole (length nodes) type.Compound) (ok_same compound_val val e) (tt, tt)

-- ---- values that a binding gives

of_given : {X : Type 0} (f : X → ValData) (o : Option X) (val : ValData) (P : ValData → Type 0) → ((x : X) → P (f x)) → option_map f o ≡ Some val → P val
of_given f None val P h e = absurd (none-some val e)
of_given f (Some x) val P h e = rw (same_Some (f x) val e) at (h x)

given_whole : (count : ℕ) (ty : PropType) (v : Value) (val : ValData) → given ty v ≡ Some val → IsWhole count ty val
unfolding given
given_whole count type.Int v val e = of_given int_val (cell_in v) val (IsWhole count type.Int) (λ x. (tt, tt)) e
given_whole count type.Array v val e = of_given ints_val (list_in cell_in v) val (IsWhole count type.Array) (λ x. (tt, tt)) e
given_whole count type.U8Array v val e = of_given u8s_val (list_in byte_in v) val (IsWhole count type.U8Array) (λ x. (tt, tt)) e
given_whole count type.Str v val e = of_given str_val (text_in v) val (IsWhole count type.Str) (λ x. (tt, tt)) e
given_whole count type.StrArray v val e = of_given strs_val (list_in text_in v) val (IsWhole count type.StrArray) (λ x. (tt, tt)) e
given_whole count type.Boolean v val e = absurd (none-some val e)
given_whole count type.Phandle v val e = absurd (none-some val e)
given_whole count type.Phandles v val e = absurd (none-some val e)
given_whole count type.PhandleArray v val e = absurd (none-some val e)
given_whole count type.Path v val e = absurd (none-some val e)
given_whole count type.Compound v val e = absurd (none-some val e)

default_whole : (count : ℕ) (ty : PropType) (default : Option Value) (val : ValData) → option_and_then (given ty) default ≡ Some val → IsWhole count ty val
default_whole count ty None val e = absurd (none-some val e)
default_whole count ty (Some v) val e = given_whole count ty v val e

unwritten_whole : (count : ℕ) (ty : PropType) (default : Option Value) (val : ValData) → unwritten ty default ≡ Some val → IsWhole count ty val
unwritten_whole count type.Boolean default val e = subst (IsWhole count type.Boolean) (same_Some (bool_val false) val e) (tt, tt)
unwritten_whole count type.Int default val e = default_whole count type.Int default val e
unwritten_whole count type.Array default val e = default_whole count type.Array default val e
unwritten_whole count type.U8Array default val e = default_whole count type.U8Array default val e
unwritten_whole count type.Str default val e = default_whole count type.Str default val e
unwritten_whole count type.StrArray default val e = default_whole count type.StrArray default val e
unwritten_whole count type.Phandle default val e = default_whole count type.Phandle default val e
unwritten_whole count type.Phandles default val e = default_whole count type.Phandles default val e
unwritten_whole count type.PhandleArray default val e = default_whole count type.PhandleArray default val e
unwritten_whole count type.Path default val e = default_whole count type.Path default val e
unwritten_whole count type.Compound default val e = default_whole count type.Compound default val e

value_whole : (nodes : List NodeData) (d : DeclaredData) (parts : Option (List Part)) (val : ValData) → HasValue nodes d parts val → IsWhole (length nodes) d.ty val
value_whole nodes d (Some parts) val h = written_whole nodes d.ty parts val h
value_whole nodes d None val h = unwritten_whole (length nodes) d.ty d.default val h

-- ---- choices

as_many : {A X : Type 0} (f : A → Option X) (xs : List A) (ys : List X) → all_there (map f xs) ≡ Some ys → length ys ≡ length xs
as_many f [] ys e = ap length (sym (same_Some [] ys e))
as_many {X = X} f (x ∷ xs) ys e = by (f x) (all_there (map f xs)) (as_many f xs) e
  where
    by : (o : Option X) (rest : Option (List X)) → ((more : List X) → rest ≡ Some more → length more ≡ length xs) → before o rest ≡ Some ys → length ys ≡ length (x ∷ xs)
    by None rest ih h = absurd (none-some ys h)
    by (Some z) None ih h = absurd (none-some ys h)
    by (Some z) (Some more) ih h = ap length (sym (same_Some (z ∷ more) ys h)) ∙ ap suc (ih more refl)

abbrev AreChoices : PropType → ValData → List (ℕ × List ℕ) → Type 0
AreChoices ty val cs = (cs ≡ []) ⊎ (IsTrue (is_tested ty) × (length cs ≡ tested_count val))

tests_of_int : (ty : PropType) (n : ℕ) → IsOfType ty (int_val n) → IsTrue (is_tested ty)
tests_of_int type.Int n t = refl
tests_of_int ty n t = absurd t

tests_of_ints : (ty : PropType) (ns : List ℕ) → IsOfType ty (ints_val ns) → IsTrue (is_tested ty)
tests_of_ints type.Array ns t = refl
tests_of_ints ty ns t = absurd t

tests_of_bytes : (ty : PropType) (ns : List ℕ) → IsOfType ty (u8s_val ns) → IsTrue (is_tested ty)
tests_of_bytes type.U8Array ns t = refl
tests_of_bytes ty ns t = absurd t

tests_of_text : (ty : PropType) (s : List ℕ) → IsOfType ty (str_val s) → IsTrue (is_tested ty)
tests_of_text type.Str s t = refl
tests_of_text ty s t = absurd t

tests_of_texts : (ty : PropType) (ss : List (List ℕ)) → IsOfType ty (strs_val ss) → IsTrue (is_tested ty)
tests_of_texts type.StrArray ss t = refl
tests_of_texts ty ss t = absurd t

chosen_whole : (entries : List Value) (ty : PropType) (val : ValData) (cs : List (ℕ × List ℕ)) → IsOfType ty val → choices_of entries val ≡ Some cs → AreChoices ty val cs
unfolding choices_of
chosen_whole entries ty (bool_val b) cs t e = inl (sym (same_Some [] cs e))
chosen_whole entries ty (int_val n) cs t e = inr (tests_of_int ty n t, as_many (number_choice cell_in entries) (n ∷ []) cs e)
chosen_whole entries ty (ints_val ns) cs t e = inr (tests_of_ints ty ns t, as_many (number_choice cell_in entries) ns cs e)
chosen_whole entries ty (u8s_val ns) cs t e = inr (tests_of_bytes ty ns t, as_many (number_choice byte_in entries) ns cs e)
chosen_whole entries ty (str_val s) cs t e = inr (tests_of_text ty s t, as_many (text_choice entries) (s ∷ []) cs e)
chosen_whole entries ty (strs_val ss) cs t e = inr (tests_of_texts ty ss t, as_many (text_choice entries) ss cs e)
chosen_whole entries ty (node_val n) cs t e = inl (sym (same_Some [] cs e))
chosen_whole entries ty (nodes_val ns) cs t e = inl (sym (same_Some [] cs e))
chosen_whole entries ty (entries_val es) cs t e = inl (sym (same_Some [] cs e))
chosen_whole entries ty compound_val cs t e = inl (sym (same_Some [] cs e))

choices_whole : (es : Option (List Value)) (ty : PropType) (val : ValData) (cs : List (ℕ × List ℕ)) → IsOfType ty val → choices_in es val ≡ Some cs → AreChoices ty val cs
choices_whole None ty val cs t e = inl (sym (same_Some [] cs e))
choices_whole (Some entries) ty val cs t e = chosen_whole entries ty val cs t e

-- ---- properties

prop_whole : (nodes : List NodeData) (id : ℕ) (d : DeclaredData) (p : PropData) → IsPropOf nodes id d p → IsTyped (length nodes) p
prop_whole nodes id d p w =
    let whole : IsWhole (length nodes) p.ty p.val = rw (sym w.1) at (value_whole nodes d (prop_at nodes id d.name) p.val w.2) in
    record { val = whole.0; nodes = whole.1; choices = choices_whole d.choices p.ty p.val p.choices whole.0 w.3 }

none_typed : (count : ℕ) → All (IsTyped count) []
none_typed count = λ k d h. absurd (omega (arith, h))

props_whole : (nodes : List NodeData) (id : ℕ) (ds : List DeclaredData) (props : List PropData) → ArePropsOf nodes id ds props → All (IsTyped (length nodes)) props
props_whole nodes id [] props e = subst (All (IsTyped (length nodes))) (sym e) (none_typed (length nodes))
props_whole nodes id (d ∷ ds) props (keeps, inl w) = props_whole nodes id ds props w.1
props_whole nodes id (d ∷ ds) props (keeps, inr w) =
    subst (All (IsTyped (length nodes))) (sym w.2) (All-cons (IsTyped (length nodes)) w.0 w.1 (prop_whole nodes id d w.0 w.3) (props_whole nodes id ds w.1 w.4))

pub typed_whole : (nodes : List NodeData) (id : ℕ) (ds : List DeclaredData) (props : List PropData) → typed_all nodes id ds ≡ Ok props → All (IsTyped (length nodes)) props
typed_whole nodes id ds props e = props_whole nodes id ds props (typed_props nodes id ds props e)
