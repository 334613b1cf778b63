-- The script of a source nests well.
use Rattle.std.proofs.Common.{◌≡◌, ℕ, zero, suc, Bool, true, false, not, ◌&&◌, ◌||◌, List, [], ◌∷◌, ◌++◌, Option, Some, None, drop, length, take, nat_eq, arith, refl, sym, ap, subst, ◌∙◌, append_assoc, unwrap_or, if◌then◌else◌}
use Rattle.std.specs.Option.{option_and_then}
use Rattle.std.specs.List.{list_all, prefix_len}
use Rattle.std.proofs.lemmas.Bool.{and_from, and_parts, eqb-true}
use Rattle.edt_base.specs.SourceBytes.{is_node_byte, is_plain, is_prop_byte, begins_label}
use Rattle.edt_base.specs.SourceNames.{is_label, is_no_at, is_node_name, is_node_word, is_prop_name, is_unit}
use Rattle.dts_parse.specs.Exprs.{literal_worth, worth_of}
use Rattle.dts_parse.specs.Nested.{act_refs, ends_with_zero, fits_place, is_even, is_good_cell, is_good_part, is_reference, nest, nested, refs}
use Rattle.dts_parse.specs.Statements.{AreFit, Lead, No_lead, Label_lead, Mark_lead, Pieces, Nothing_yet, Short_, Open_root, Open_ref, Open_child, Flag_, Assign_, Short, Version_, Plugin_, Reserve_, Delete_ref, Omit_ref, Delete_child, Delete_prop, End_node, below, head, is_empty, labels_of, marks_of, omits, place, place_behind, script, tail, takes_top, with_short}
use Rattle.dts_parse.specs.StmtData.{ActData, StmtData, Open, Close, Label, Assign, DelProp, DelNode, Omit, stmt}
use Rattle.dts_parse.specs.Texts.{begins_path, element_bytes, target_of, unescaped, within}
use Rattle.dts_parse.specs.Token.{Name, is_ascii, is_node_form, is_prop_form, name_form}
use Rattle.dts_parse.specs.Values.{Before, Nothing, Comma_, Lone, Group, Refer, Elements, None_yet, Then, Written, Text_, Path_, List_, Hex_, bytes_of, cells_of, cells_with, list_data, part_of, parts_of}
use Rattle.dts_parse.specs.declared.script.RawCell.{RawCell}
use Rattle.dts_parse.specs.declared.script.Target.{Target}
use Rattle.dts_parse.specs.declared.script.Target.TheVariants as target
use Rattle.dts_parse.specs.declared.terminal.Form.{Form}
use Rattle.dts_parse.specs.declared.terminal.Form.TheVariants as form
use Rattle.dts_parse.specs.declared.terminal.Width.{Width}
use Rattle.dts_parse.specs.declared.terminal.Width.TheVariants.{Bits8, Bits16, Bits32, Bits64}

-- ---- lists of statements

nested_step : (o : Option ℕ) (e f : ℕ) (xs ys : List StmtData) → ((d : ℕ) → nested d xs ≡ Some e → nested d (xs ++ ys) ≡ Some f) → option_and_then (λ k. nested k xs) o ≡ Some e → option_and_then (λ k. nested k (xs ++ ys)) o ≡ Some f
nested_step None e f xs ys go h = cc
nested_step (Some d) e f xs ys go h = go d h

nested_two : (d e f : ℕ) (xs ys : List StmtData) → nested d xs ≡ Some e → nested e ys ≡ Some f → nested d (xs ++ ys) ≡ Some f
nested_two d e f [] ys h k = let same : d ≡ e = cc in subst (λ (n : ℕ). nested n ys ≡ Some f) (sym same) k
nested_two d e f (x ∷ xs) ys h k = nested_step (nest d x.act) e f xs ys (λ c g. nested_two c e f xs ys g k) h

pub refs_append : (xs ys : List StmtData) → refs (xs ++ ys) ≡ refs xs ++ refs ys
refs_append [] ys = refl
refs_append (x ∷ xs) ys = ap (λ zs. act_refs x.at x.act ++ zs) (refs_append xs ys) ∙ sym (append_assoc (act_refs x.at x.act) (refs xs) (refs ys))

-- ---- names

plain_node : (xs : List ℕ) → list_all is_plain xs ≡ true → list_all is_node_byte xs ≡ true
plain_node [] h = refl
plain_node (x ∷ xs) h = let k : (is_plain x ≡ true) × (list_all is_plain xs ≡ true) = and_parts _ _ h in and_from (is_node_byte x) (list_all is_node_byte xs) (plain_is x k.0) (plain_node xs k.1)
  where
    plain_is : (b : ℕ) → is_plain b ≡ true → is_node_byte b ≡ true
    plain_is b e = rw e refl

begins_plain : (b : ℕ) → begins_label b ≡ true → is_plain b ≡ true
begins_plain b e = rw e refl

label_plain : (text : List ℕ) → is_label text ≡ true → list_all is_plain text ≡ true
label_plain [] h = cc
label_plain (b ∷ rest) h =
    let k : (begins_label b ≡ true) × (list_all is_plain rest ≡ true) = and_parts _ _ h in
    and_from (is_plain b) (list_all is_plain rest) (begins_plain b k.0) k.1

-- no byte of a label is an `@`
plain_no_at : (b : ℕ) → is_plain b ≡ true → is_no_at b ≡ true
plain_no_at b h = by_at (nat_eq b 64) refl
  where
    by_at : (t : Bool) → nat_eq b 64 ≡ t → not t ≡ true
    by_at false e = refl
    by_at true e = let same : b ≡ 64 = eqb-true b 64 e in let n : is_plain 64 ≡ true = subst (λ (x : ℕ). is_plain x ≡ true) same h in cc

no_at : (xs : List ℕ) → list_all is_plain xs ≡ true → prefix_len is_no_at xs ≡ length xs
no_at [] h = refl
no_at (x ∷ xs) h = let k : (is_plain x ≡ true) × (list_all is_plain xs ≡ true) = and_parts _ _ h in rw (plain_no_at x k.0) (omega (arith, no_at xs k.1))

all_taken : (xs : List ℕ) → take (length xs) xs ≡ xs
all_taken [] = refl
all_taken (x ∷ xs) = ap (λ ys. x ∷ ys) (all_taken xs)

all_dropped : (xs : List ℕ) → drop (length xs) xs ≡ []
all_dropped [] = refl
all_dropped (x ∷ xs) = all_dropped xs

plain_word : (xs : List ℕ) → (xs ≡ [] → ⊥) → list_all is_plain xs ≡ true → is_node_word xs ≡ true
plain_word [] n h = absurd (n refl)
plain_word (x ∷ xs) n h = plain_node (x ∷ xs) h

label_some : (text : List ℕ) → is_label text ≡ true → text ≡ [] → ⊥
label_some [] h e = cc
label_some (b ∷ rest) h e = cc

-- a label can be a node's name
label_node : (text : List ℕ) → is_label text ≡ true → is_node_name text ≡ true
label_node text h =
    let plain : list_all is_plain text ≡ true = label_plain text h in
    let whole : prefix_len is_no_at text ≡ length text = no_at text plain in
    let word : is_node_word (take (length text) text) ≡ true = subst (λ (xs : List ℕ). is_node_word xs ≡ true) (sym (all_taken text)) (plain_word text (label_some text h) plain) in
    let unit : is_unit (drop (length text) text) ≡ true = subst (λ (xs : List ℕ). is_unit xs ≡ true) (sym (all_dropped text)) refl in
    subst (λ (n : ℕ). (is_node_word (take n text) && is_unit (drop n text)) ≡ true) (sym whole) (and_from _ _ word unit)

-- and a property's
plain_prop : (xs : List ℕ) → list_all is_plain xs ≡ true → list_all is_prop_byte xs ≡ true
plain_prop [] h = refl
plain_prop (x ∷ xs) h = let k : (is_plain x ≡ true) × (list_all is_plain xs ≡ true) = and_parts _ _ h in and_from (is_prop_byte x) (list_all is_prop_byte xs) (plain_is x k.0) (plain_prop xs k.1)
  where
    plain_is : (b : ℕ) → is_plain b ≡ true → is_prop_byte b ≡ true
    plain_is b e = rw e refl

label_prop : (text : List ℕ) → is_label text ≡ true → is_prop_name text ≡ true
label_prop [] h = cc
label_prop (b ∷ rest) h = plain_prop (b ∷ rest) (label_plain (b ∷ rest) h)

-- the name of a child is a node's
child_named : (f : Form) (n : Name f) → is_node_form f ≡ true → is_node_name n.spot.text ≡ true
child_named f n is = by_ascii (list_all is_ascii n.spot.text) n.is
  where
    by_node : (b c : Bool) → is_node_name n.spot.text ≡ b → (if b then (if c then Some form.Both else Some form.Node) else if c then Some form.Prop else None) ≡ Some f → is_node_name n.spot.text ≡ true
    by_node true c e h = e
    by_node false true e h = let same : form.Prop ≡ f = cc in let k : is_node_form form.Prop ≡ true = (let P : Form → Type 0 = λ x. is_node_form x ≡ true in subst P (sym same) is) in cc
    by_node false false e h = cc

    by_label : (b : Bool) → is_label n.spot.text ≡ b → (if b then Some form.Label else if is_node_name n.spot.text then (if is_prop_name n.spot.text then Some form.Both else Some form.Node) else if is_prop_name n.spot.text then Some form.Prop else None) ≡ Some f → is_node_name n.spot.text ≡ true
    by_label true e h = label_node n.spot.text e
    by_label false e h = by_node (is_node_name n.spot.text) (is_prop_name n.spot.text) refl h

    by_ascii : (b : Bool) → (if b then name_form n.spot.text else None) ≡ Some f → is_node_name n.spot.text ≡ true
    by_ascii true h = by_label (is_label n.spot.text) refl h
    by_ascii false h = cc

-- the name of a property is one
prop_named : (f : Form) (n : Name f) → is_prop_form f ≡ true → is_prop_name n.spot.text ≡ true
prop_named f n is = by_ascii (list_all is_ascii n.spot.text) n.is
  where
    by_node : (b c : Bool) → is_prop_name n.spot.text ≡ c → (if b then (if c then Some form.Both else Some form.Node) else if c then Some form.Prop else None) ≡ Some f → is_prop_name n.spot.text ≡ true
    by_node b true e h = e
    by_node true false e h = let same : form.Node ≡ f = cc in let k : is_prop_form form.Node ≡ true = (let P : Form → Type 0 = λ x. is_prop_form x ≡ true in subst P (sym same) is) in cc
    by_node false false e h = cc

    by_label : (b : Bool) → is_label n.spot.text ≡ b → (if b then Some form.Label else if is_node_name n.spot.text then (if is_prop_name n.spot.text then Some form.Both else Some form.Node) else if is_prop_name n.spot.text then Some form.Prop else None) ≡ Some f → is_prop_name n.spot.text ≡ true
    by_label true e h = label_prop n.spot.text e
    by_label false e h = by_node (is_node_name n.spot.text) (is_prop_name n.spot.text) refl h

    by_ascii : (b : Bool) → (if b then name_form n.spot.text else None) ≡ Some f → is_prop_name n.spot.text ≡ true
    by_ascii true h = by_label (is_label n.spot.text) refl h
    by_ascii false h = cc

-- the name of a label is one
label_named : (n : Name form.Label) → is_label n.spot.text ≡ true
label_named n = by_ascii (list_all is_ascii n.spot.text) n.is
  where
    by_label : (b c d : Bool) → is_label n.spot.text ≡ b → (if b then Some form.Label else if c then (if d then Some form.Both else Some form.Node) else if d then Some form.Prop else None) ≡ Some form.Label → is_label n.spot.text ≡ true
    by_label true c d e h = e
    by_label false true true e h = cc
    by_label false true false e h = cc
    by_label false false true e h = cc
    by_label false false false e h = cc

    by_ascii : (b : Bool) → (if b then name_form n.spot.text else None) ≡ Some form.Label → is_label n.spot.text ≡ true
    by_ascii true h = by_label (is_label n.spot.text) (is_node_name n.spot.text) (is_prop_name n.spot.text) refl h
    by_ascii false h = cc

-- ---- references

pub target_reference : (text : List ℕ) → is_reference (target_of text) ≡ true
target_reference [] = refl
target_reference (a ∷ rest) = by_path (begins_path rest)
  where
    by_path : (b : Bool) → is_reference (if b then target.ByPath (within 1 rest) else target.ByLabel rest) ≡ true
    by_path true = refl
    by_path false = refl

reference_fits : (t : Target) → is_reference t ≡ true → fits_place 0 t ≡ true
reference_fits target.Root e = cc
reference_fits (target.Child n) e = cc
reference_fits (target.ByLabel n) e = refl
reference_fits (target.ByPath n) e = refl

-- ---- parts

zero_last : (xs : List ℕ) → ends_with_zero (xs ++ 0 ∷ []) ≡ true
zero_last [] = refl
zero_last (x ∷ []) = refl
zero_last (x ∷ y ∷ ys) = zero_last (y ∷ ys)

even_append : (xs ys : List ℕ) → is_even xs ≡ true → is_even ys ≡ true → is_even (xs ++ ys) ≡ true
even_append [] ys h k = k
even_append (x ∷ []) ys h k = cc
even_append (x ∷ y ∷ xs) ys h k = even_append xs ys h k

all_append : {A : Type 0} (p : A → Bool) (xs ys : List A) → list_all p xs ≡ true → list_all p ys ≡ true → list_all p (xs ++ ys) ≡ true
all_append p [] ys h k = k
all_append p (x ∷ xs) ys h k = let m : (p x ≡ true) × (list_all p xs ≡ true) = and_parts _ _ h in and_from (p x) (list_all p (xs ++ ys)) m.0 (all_append p xs ys m.1 k)

good_cells_with : (n : Option ℕ) (cells : List RawCell) → list_all is_good_cell cells ≡ true → list_all is_good_cell (cells_with Bits32 n cells) ≡ true
good_cells_with n cells h = all_append is_good_cell cells _ h refl

good_cells : (es : Elements Bits32) → list_all is_good_cell (cells_of Bits32 es) ≡ true
good_cells None_yet = refl
good_cells (Then es ls (Lone l p)) = good_cells_with (literal_worth l) (cells_of Bits32 es) (good_cells es)
good_cells (Then es ls (Group b e is f)) = good_cells_with (worth_of e) (cells_of Bits32 es) (good_cells es)
good_cells (Then es ls (Refer is p)) = all_append is_good_cell (cells_of Bits32 es) _ (good_cells es) (and_from (is_reference (target_of p.text)) true (target_reference p.text) refl)

abbrev IsWide : Width → Type 0
IsWide Bits16 = Unit {0}
IsWide Bits64 = Unit {0}
IsWide _ = ⊥

even_element : (w : Width) (n : ℕ) → IsWide w → is_even (element_bytes w n) ≡ true
even_element Bits8 n h = absurd h
even_element Bits16 n h = refl
even_element Bits32 n h = refl
even_element Bits64 n h = refl

even_bytes : (w : Width) (es : Elements w) → IsWide w → is_even (bytes_of w es) ≡ true
even_bytes w None_yet h = refl
even_bytes w (Then es ls (Lone l p)) h = even_append (bytes_of w es) _ (even_bytes w es h) (even_element w (unwrap_or (literal_worth l) 0) h)
even_bytes w (Then es ls (Group b e is f)) h = even_append (bytes_of w es) _ (even_bytes w es h) (even_element w (unwrap_or (worth_of e) 0) h)
even_bytes w (Then es ls (Refer is p)) h = even_bytes w es h

good_list : (w : Width) (es : Elements w) → is_good_part (list_data w (cells_of w es) (bytes_of w es)) ≡ true
good_list Bits8 es = refl
good_list Bits16 es = even_bytes Bits16 es tt
good_list Bits32 es = good_cells es
good_list Bits64 es = even_bytes Bits64 es tt

good_part : (part : Written) → is_good_part (part_of part) ≡ true
good_part (Text_ p) = zero_last (unescaped 0 (within 1 p.text))
good_part (Path_ p) = target_reference p.text
good_part (List_ w h es ls ends f) = good_list w es
good_part (Hex_ b ps ls ends f) = refl

good_parts : (b : Before) → list_all is_good_part (parts_of b) ≡ true
good_parts Nothing = refl
good_parts (Comma_ b ls part after comma) = all_append is_good_part (parts_of b) _ (good_parts b) (and_from (is_good_part (part_of part)) true (good_part part) refl)

-- ---- nesting

labels_nest : (lead : Lead) (d : ℕ) → nested (suc d) (labels_of lead) ≡ Some (suc d)
labels_nest No_lead d = refl
labels_nest (Label_lead lead n c) d =
    let one : nested (suc d) (stmt n.spot.at (Label n.spot.text) ∷ []) ≡ Some (suc d) = rw (label_named n) refl in
    nested_two (suc d) (suc d) (suc d) (labels_of lead) _ (labels_nest lead d) one
labels_nest (Mark_lead lead m) d = labels_nest lead d

omits_nest : (marks : List ℕ) (name : List ℕ) (d : ℕ) → is_node_name name ≡ true → nested (suc d) (omits marks name) ≡ Some (suc d)
omits_nest [] name d good = refl
omits_nest (at ∷ marks) name d good = rw good (omits_nest marks name d good)

-- what follows the end of each open node nests in the node around it
abbrev GoodStack : List (List StmtData) → ℕ → Type 0
GoodStack [] d = d ≡ 0
GoodStack (x ∷ xs) zero = ⊥
GoodStack (x ∷ xs) (suc d) = (nested d x ≡ Some d) × GoodStack xs d

record Nests (base : Bool) (ps : Pieces) : Type 0 where
  nests : nested 0 (script base ps) ≡ Some (place base ps).depth
  stack : GoodStack (place base ps).opened (place base ps).depth

outside : (xs : List (List StmtData)) (b : Bool) (d : ℕ) → (is_empty xs && b) ≡ true → GoodStack xs d → d ≡ 0
outside [] b d e h = h
outside (x ∷ xs) b d e h = cc

record Inner (xs : List (List StmtData)) (d : ℕ) : Type 0 where
  e : ℕ
  depth : d ≡ suc e
  first : nested e (head xs) ≡ Some e
  rest : GoodStack (tail xs) e

inner : (xs : List (List StmtData)) (d : ℕ) → not (is_empty xs) ≡ true → GoodStack xs d → Inner xs d
inner [] d e h = cc
inner (x ∷ xs) zero e h = absurd h
inner (x ∷ xs) (suc d) e h = record { e = d; depth = refl; first = h.0; rest = h.1 }

depth_zero : (d : ℕ) (xs : List StmtData) (n : ℕ) → d ≡ 0 → nested 0 xs ≡ Some n → nested d xs ≡ Some n
depth_zero d xs n e h = subst (λ (k : ℕ). nested k xs ≡ Some n) (sym e) h

at_depth : (d e : ℕ) (xs : List StmtData) (n : ℕ) → d ≡ suc e → nested (suc e) xs ≡ Some n → nested d xs ≡ Some n
at_depth d e xs n q h = subst (λ (k : ℕ). nested k xs ≡ Some n) (sym q) h

some_is : (n m : ℕ) → n ≡ m → (xs : List StmtData) (d : ℕ) → nested d xs ≡ Some n → nested d xs ≡ Some m
some_is n m e xs d h = subst (λ (k : ℕ). nested d xs ≡ Some k) e h

-- where the depth is one more, what nests there nests here
stays_inner : (d e : ℕ) (xs : List StmtData) → d ≡ suc e → nested (suc e) xs ≡ Some (suc e) → nested d xs ≡ Some d
stays_inner d e xs q h = subst (λ (k : ℕ). nested k xs ≡ Some k) (sym q) h

-- a statement on a node by reference, outside
ref_nests : (d : ℕ) (at : ℕ) (text : List ℕ) (act : Target → ActData) → d ≡ 0 → ((t : Target) → fits_place 0 t ≡ true → nested 0 (stmt at (act t) ∷ []) ≡ Some 0) → nested d (stmt at (act (target_of text)) ∷ []) ≡ Some d
ref_nests d at text act e h = some_is 0 d (sym e) (stmt at (act (target_of text)) ∷ []) d (depth_zero d (stmt at (act (target_of text)) ∷ []) 0 e (h (target_of text) (reference_fits (target_of text) (target_reference text))))

opening_nests : (t : Target) (at : ℕ) (lead : Lead) (d : ℕ) → fits_place d t ≡ true → nested d ((stmt at (Open t) ∷ []) ++ labels_of lead) ≡ Some (suc d)
opening_nests t at lead d e = nested_two d (suc d) (suc d) (stmt at (Open t) ∷ []) (labels_of lead) (rw e refl) (labels_nest lead d)

regroup : (xs : List StmtData) (x : StmtData) (ys : List StmtData) → (xs ++ x ∷ []) ++ ys ≡ xs ++ ((x ∷ []) ++ ys)
regroup xs x ys = append_assoc xs (x ∷ []) ys

nests_on : (d e : ℕ) (xs : List StmtData) (x : StmtData) (ys : List StmtData) → nested 0 xs ≡ Some d → nested d ((x ∷ []) ++ ys) ≡ Some e → nested 0 ((xs ++ x ∷ []) ++ ys) ≡ Some e
nests_on d e xs x ys h k = subst (λ (zs : List StmtData). nested 0 zs ≡ Some e) (sym (regroup xs x ys)) (nested_two 0 d e xs ((x ∷ []) ++ ys) h k)

stack_zero : (xs : List (List StmtData)) (d : ℕ) → d ≡ 0 → GoodStack xs d → GoodStack ([] ∷ xs) (suc d)
stack_zero xs d e h = (refl, h)

short_nests : (base : Bool) (ps : Pieces) (s : Short) → AreFit base (Short_ ps s (record { at = 0; text = [] })) → Nests base ps
    → (nested 0 (with_short (place base ps) s (script base ps)) ≡ Some (place_behind (place base ps) s).depth) × GoodStack (place_behind (place base ps) s).opened (place_behind (place base ps) s).depth
short_nests base ps (Version_ d) fit h = (h.nests, h.stack)
short_nests base ps (Plugin_ d) fit h = (h.nests, h.stack)
short_nests base ps (Reserve_ d m a n b) fit h = (h.nests, h.stack)
short_nests base ps (Delete_ref d r) fit h =
    let e : (place base ps).depth ≡ 0 = outside (place base ps).opened _ (place base ps).depth fit.1 h.stack in
    (nested_two 0 (place base ps).depth (place base ps).depth (script base ps) _ h.nests (ref_nests (place base ps).depth r.at r.text (λ t. DelNode t) e (λ t q. rw q refl)), h.stack)
short_nests base ps (Omit_ref d r) fit h =
    let e : (place base ps).depth ≡ 0 = outside (place base ps).opened _ (place base ps).depth fit.1 h.stack in
    (nested_two 0 (place base ps).depth (place base ps).depth (script base ps) _ h.nests (ref_nests (place base ps).depth r.at r.text (λ t. Omit t) e (λ t q. rw q refl)), h.stack)
short_nests base ps (Delete_child d f n is) fit h =
    let i : Inner (place base ps).opened (place base ps).depth = inner (place base ps).opened (place base ps).depth fit.1 h.stack in
    let good : is_node_name n.spot.text ≡ true = child_named f n is in
    let one : nested (suc i.e) (stmt d.at (DelNode (target.Child n.spot.text)) ∷ []) ≡ Some (suc i.e) = rw good refl in
    (nested_two 0 (place base ps).depth (place base ps).depth (script base ps) _ h.nests (stays_inner (place base ps).depth i.e (stmt d.at (DelNode (target.Child n.spot.text)) ∷ []) i.depth one), h.stack)
short_nests base ps (Delete_prop d f n is) fit h =
    let i : Inner (place base ps).opened (place base ps).depth = inner (place base ps).opened (place base ps).depth fit.1 h.stack in
    let one : nested (suc i.e) (stmt d.at (DelProp n.spot.text) ∷ []) ≡ Some (suc i.e) = rw (prop_named f n is) refl in
    (nested_two 0 (place base ps).depth (place base ps).depth (script base ps) _ h.nests (stays_inner (place base ps).depth i.e (stmt d.at (DelProp n.spot.text) ∷ []) i.depth one), h.stack)
short_nests base ps (End_node brace) fit h =
    let i : Inner (place base ps).opened (place base ps).depth = inner (place base ps).opened (place base ps).depth fit.1 h.stack in
    let low : below (place base ps).depth ≡ i.e = ap (λ (n : ℕ). below n) i.depth in
    let one : nested (suc i.e) ((stmt brace.at Close ∷ []) ++ head (place base ps).opened) ≡ Some i.e = i.first in (
      nests_on (place base ps).depth (below (place base ps).depth) (script base ps) (stmt brace.at Close) (head (place base ps).opened) h.nests
          (some_is i.e (below (place base ps).depth) (sym low) ((stmt brace.at Close ∷ []) ++ head (place base ps).opened) (place base ps).depth (at_depth (place base ps).depth i.e ((stmt brace.at Close ∷ []) ++ head (place base ps).opened) i.e i.depth one)),
      subst (λ (n : ℕ). GoodStack (tail (place base ps).opened) n) (sym low) i.rest,
    )

nests_pieces : (base : Bool) (ps : Pieces) → AreFit base ps → Nests base ps
nests_pieces base Nothing_yet fit = record { nests = refl; stack = refl }
nests_pieces base (Short_ ps s semicolon) fit =
    let r = short_nests base ps s fit (nests_pieces base ps fit.0) in record { nests = r.0; stack = r.1 }
nests_pieces base (Open_root ps lead slash brace) fit =
    let h : Nests base ps = nests_pieces base ps fit.0 in
    let e : (place base ps).depth ≡ 0 = outside (place base ps).opened _ (place base ps).depth fit.1 h.stack in
    record {
      nests = nests_on (place base ps).depth (suc (place base ps).depth) (script base ps) (stmt slash.at (Open target.Root)) (labels_of lead) h.nests
          (opening_nests target.Root slash.at lead (place base ps).depth (subst (λ (n : ℕ). fits_place n target.Root ≡ true) (sym e) refl));
      stack = (refl, h.stack);
    }
nests_pieces base (Open_ref ps lead ref brace) fit =
    let h : Nests base ps = nests_pieces base ps fit.0 in
    let e : (place base ps).depth ≡ 0 = outside (place base ps).opened _ (place base ps).depth fit.1 h.stack in
    record {
      nests = nests_on (place base ps).depth (suc (place base ps).depth) (script base ps) (stmt ref.at (Open (target_of ref.text))) (labels_of lead) h.nests
          (opening_nests (target_of ref.text) ref.at lead (place base ps).depth (subst (λ (n : ℕ). fits_place n (target_of ref.text) ≡ true) (sym e) (reference_fits (target_of ref.text) (target_reference ref.text))));
      stack = (refl, h.stack);
    }
nests_pieces base (Open_child ps lead f n brace) fit =
    let h : Nests base ps = nests_pieces base ps fit.0 in
    let i : Inner (place base ps).opened (place base ps).depth = inner (place base ps).opened (place base ps).depth fit.1 h.stack in
    let good : is_node_name n.spot.text ≡ true = child_named f n fit.2 in
    record {
      nests = nests_on (place base ps).depth (suc (place base ps).depth) (script base ps) (stmt n.spot.at (Open (target.Child n.spot.text))) (labels_of lead) h.nests
          (opening_nests (target.Child n.spot.text) n.spot.at lead (place base ps).depth (subst (λ (k : ℕ). fits_place k (target.Child n.spot.text) ≡ true) (sym i.depth) good));
      stack = (stays_inner (place base ps).depth i.e (omits (marks_of lead) n.spot.text) i.depth (omits_nest (marks_of lead) n.spot.text i.e good), h.stack);
    }
nests_pieces base (Flag_ ps lead f n semicolon) fit =
    let h : Nests base ps = nests_pieces base ps fit.0 in
    let i : Inner (place base ps).opened (place base ps).depth = inner (place base ps).opened (place base ps).depth fit.1 h.stack in
    let one : nested (suc i.e) (stmt n.spot.at (Assign n.spot.text []) ∷ []) ≡ Some (suc i.e) = rw (prop_named f n fit.3) refl in
    record {
      nests = nested_two 0 (place base ps).depth (place base ps).depth (script base ps) _ h.nests (stays_inner (place base ps).depth i.e (stmt n.spot.at (Assign n.spot.text []) ∷ []) i.depth one);
      stack = h.stack;
    }
nests_pieces base (Assign_ ps lead f n equal b ls part after semicolon) fit =
    let h : Nests base ps = nests_pieces base ps fit.0 in
    let i : Inner (place base ps).opened (place base ps).depth = inner (place base ps).opened (place base ps).depth fit.1 h.stack in
    let good : list_all is_good_part (parts_of b ++ part_of part ∷ []) ≡ true = all_append is_good_part (parts_of b) _ (good_parts b) (and_from (is_good_part (part_of part)) true (good_part part) refl) in
    let one : nested (suc i.e) (stmt n.spot.at (Assign n.spot.text (parts_of b ++ part_of part ∷ [])) ∷ []) ≡ Some (suc i.e) = rw (prop_named f n fit.3, good) refl in
    record {
      nests = nested_two 0 (place base ps).depth (place base ps).depth (script base ps) _ h.nests (stays_inner (place base ps).depth i.e (stmt n.spot.at (Assign n.spot.text (parts_of b ++ part_of part ∷ [])) ∷ []) i.depth one);
      stack = h.stack;
    }

-- the script of a whole source is closed
pub whole_nests : (base : Bool) (ps : Pieces) → AreFit base ps → takes_top (place base ps) ≡ true → nested 0 (script base ps) ≡ Some 0
whole_nests base ps fit top =
    let h : Nests base ps = nests_pieces base ps fit in
    some_is (place base ps).depth 0 (outside (place base ps).opened _ (place base ps).depth top h.stack) (script base ps) 0 h.nests
