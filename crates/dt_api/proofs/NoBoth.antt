-- No definition of the header has a name of the API text.
use Rattle.std.proofs.Common.{◌≡◌, ◌∙◌, ◌++◌, ℕ, Bool, true, false, List, [], ◌∷◌, Option, Some, None, codes, map, nat_eq, option_map, refl, sym, ap, subst, inl, inr, append_assoc, if◌then◌else◌}
use Rattle.std.specs.Prelude.{nat_lt, slice_get, unwrap_or}
use Rattle.std.specs.List.{All, flat_map, list_any, range_with_len}
use Rattle.std.specs.Map.{lookup}
use Rattle.std.specs.Option.{option_map_or}
use Rattle.std.specs.Str.{bytes_eq, chars, is_utf8}
use Rattle.std.proofs.lemmas.Bool.{cases_Bool, eqb-true}
use Rattle.std.proofs.lemmas.List.Elements.{All-cons, All-contains, All-nil}
use Rattle.edt_base.specs.BoundData.{BoundData}
use Rattle.edt_base.specs.BoundNodeData.{BoundNodeData}
use Rattle.edt_base.specs.EntryData.{EntryData}
use Rattle.edt_base.specs.InstData.{InstData}
use Rattle.edt_base.specs.NodeData.{NodeData}
use Rattle.edt_base.specs.Nodes.{okay_of}
use Rattle.edt_base.specs.Ords.{OrdsData, ords_at}
use Rattle.edt_base.specs.PropData.{PropData}
use Rattle.edt_base.specs.declared.bound.Range.{Range}
use Rattle.edt_base.specs.declared.bound.Reg.{Reg}
use Rattle.c_tokens.specs.Lexed.{lexed_behind}
use Rattle.dt_names.specs.Facts.{Element, FactData, a_node, an_entry, an_item, at_index, cell_facts, child_facts, child_rows, choice_lines, choice_of, chosen_facts, count_facts, counted, each, elem_choices, elem_lines, elem_visit, elements, entry_facts, facts, full_name, helper_facts, id_at, id_pieces, inst_facts, irq_facts, irq_lines, is_shown, item_rows, label_facts, link, match_facts, name_first, name_pieces, names_pieces, node_facts, of_prop, okay_facts, order_facts, path_facts, pha_facts, pha_lines, place_fact, plain, prop_facts, range_facts, reg_facts, reg_lines, shown_facts, there, titled, titled_node, tree_facts, value_body, walks}
use Rattle.dt_names.specs.Pieces.{PieceData, form, lit, num, spells}
use Rattle.dt_names.proofs.Spelling.{spells_cons}
use Rattle.dt_names.proofs.Table.{Hold, both_hold, each_hold, flat_hold, map_hold, maybe_hold, there_hold}
use Rattle.dt_api.specs.Defining.{Definition, api_definitions, api_macro}
use Rattle.dt_api.specs.HeaderLaw.{NoNameIsInBoth}

-- ---- the names of the API text

abbrev api_names : List (List ℕ)
api_names =
    codes "DT_CAT"
    ∷ codes "DT_CAT3"
    ∷ codes "DT_CAT4"
    ∷ codes "DT_CAT5"
    ∷ codes "DT_CAT6"
    ∷ codes "DT_CAT7"
    ∷ codes "DT_CAT8"
    ∷ codes "DT_DEBRACKET_INTERNAL"
    ∷ codes "Z_XXXX1"
    ∷ codes "IS_ENABLED"
    ∷ codes "Z_IS_ENABLED1"
    ∷ codes "Z_IS_ENABLED2"
    ∷ codes "Z_IS_ENABLED3"
    ∷ codes "COND_CODE_1"
    ∷ codes "Z_COND1"
    ∷ codes "Z_COND2"
    ∷ codes "Z_COND3"
    ∷ codes "Z_DEBRACKET"
    ∷ codes "DT_NARGS"
    ∷ codes "Z_NARGS"
    ∷ codes "DT_ROOT"
    ∷ codes "DT_PATH"
    ∷ codes "Z_PATH"
    ∷ codes "Z_PATH_1"
    ∷ codes "Z_PATH_2"
    ∷ codes "Z_PATH_3"
    ∷ codes "Z_PATH_4"
    ∷ codes "Z_PATH_5"
    ∷ codes "Z_PATH_6"
    ∷ codes "Z_PATH_7"
    ∷ codes "Z_PATH_8"
    ∷ codes "Z_PATH_9"
    ∷ codes "Z_PATH_10"
    ∷ codes "Z_PATH_11"
    ∷ codes "Z_PATH_12"
    ∷ codes "DT_NODELABEL"
    ∷ codes "DT_ALIAS"
    ∷ codes "DT_INST"
    ∷ codes "DT_DRV_INST"
    ∷ codes "DT_CHOSEN"
    ∷ codes "DT_PARENT"
    ∷ codes "DT_GPARENT"
    ∷ codes "DT_CHILD"
    ∷ codes "DT_PHANDLE_BY_IDX"
    ∷ codes "DT_PHANDLE_BY_NAME"
    ∷ codes "DT_PHANDLE"
    ∷ codes "DT_BUS"
    ∷ codes "DT_NODE_PATH"
    ∷ codes "DT_NODE_FULL_NAME"
    ∷ codes "DT_NODE_CHILD_IDX"
    ∷ codes "DT_CHILD_NUM"
    ∷ codes "DT_CHILD_NUM_STATUS_OKAY"
    ∷ codes "DT_DEP_ORD"
    ∷ codes "DT_REQUIRES_DEP_ORDS"
    ∷ codes "DT_SUPPORTS_DEP_ORDS"
    ∷ codes "DT_PROP"
    ∷ codes "DT_PROP_LEN"
    ∷ codes "DT_PROP_LEN_OR"
    ∷ codes "DT_PROP_BY_IDX"
    ∷ codes "DT_PROP_OR"
    ∷ codes "DT_ENUM_IDX"
    ∷ codes "DT_ENUM_IDX_OR"
    ∷ codes "DT_ENUM_IDX_BY_IDX"
    ∷ codes "DT_PHA_BY_IDX"
    ∷ codes "DT_PHA_BY_IDX_OR"
    ∷ codes "DT_PHA"
    ∷ codes "DT_PHA_OR"
    ∷ codes "DT_PHA_BY_NAME"
    ∷ codes "DT_PHA_BY_NAME_OR"
    ∷ codes "DT_PROP_BY_PHANDLE_IDX"
    ∷ codes "DT_PROP_BY_PHANDLE"
    ∷ codes "DT_NUM_REGS"
    ∷ codes "DT_REG_ADDR_BY_IDX"
    ∷ codes "DT_REG_SIZE_BY_IDX"
    ∷ codes "DT_REG_ADDR"
    ∷ codes "DT_REG_SIZE"
    ∷ codes "DT_REG_ADDR_BY_NAME"
    ∷ codes "DT_REG_SIZE_BY_NAME"
    ∷ codes "DT_NUM_RANGES"
    ∷ codes "DT_RANGES_CHILD_BUS_ADDRESS_BY_IDX"
    ∷ codes "DT_RANGES_PARENT_BUS_ADDRESS_BY_IDX"
    ∷ codes "DT_RANGES_LENGTH_BY_IDX"
    ∷ codes "DT_NUM_IRQS"
    ∷ codes "DT_IRQ_BY_IDX"
    ∷ codes "DT_IRQ_BY_NAME"
    ∷ codes "DT_IRQ"
    ∷ codes "DT_NUM_INST_STATUS_OKAY"
    ∷ codes "DT_NODE_EXISTS"
    ∷ codes "DT_NODE_HAS_STATUS"
    ∷ codes "DT_NODE_HAS_COMPAT"
    ∷ codes "DT_NODE_HAS_PROP"
    ∷ codes "DT_HAS_COMPAT_STATUS_OKAY"
    ∷ codes "DT_HAS_CHOSEN"
    ∷ codes "DT_HAS_ALIAS"
    ∷ codes "DT_PROP_HAS_IDX"
    ∷ codes "DT_PROP_HAS_NAME"
    ∷ codes "DT_PHA_HAS_CELL_AT_IDX"
    ∷ codes "DT_PHA_HAS_CELL"
    ∷ codes "DT_REG_HAS_IDX"
    ∷ codes "DT_REG_HAS_NAME"
    ∷ codes "DT_RANGES_HAS_IDX"
    ∷ codes "DT_IRQ_HAS_IDX"
    ∷ codes "DT_IRQ_HAS_NAME"
    ∷ codes "DT_IRQ_HAS_CELL_AT_IDX"
    ∷ codes "DT_ENUM_HAS_VALUE"
    ∷ codes "DT_ENUM_HAS_VALUE_BY_IDX"
    ∷ codes "DT_ON_BUS"
    ∷ codes "DT_FOREACH_CHILD"
    ∷ codes "DT_FOREACH_CHILD_SEP"
    ∷ codes "DT_FOREACH_CHILD_VARGS"
    ∷ codes "DT_FOREACH_CHILD_STATUS_OKAY"
    ∷ codes "DT_FOREACH_CHILD_STATUS_OKAY_SEP"
    ∷ codes "DT_FOREACH_CHILD_STATUS_OKAY_VARGS"
    ∷ codes "DT_FOREACH_PROP_ELEM"
    ∷ codes "DT_FOREACH_PROP_ELEM_SEP"
    ∷ codes "DT_FOREACH_PROP_ELEM_VARGS"
    ∷ codes "DT_FOREACH_STATUS_OKAY"
    ∷ codes "DT_FOREACH_STATUS_OKAY_VARGS"
    ∷ codes "DT_FOREACH_NODE"
    ∷ codes "DT_FOREACH_STATUS_OKAY_NODE"
    ∷ codes "DT_INST_FOREACH_STATUS_OKAY"
    ∷ codes "Z_INST_FOREACH"
    ∷ []

names_are : map (λ (d : Definition). d.0) api_definitions ≡ api_names
unfolding lexed_behind is_utf8 chars lib.Utf8.encode
names_are = refl

abbrev is_api : List ℕ → Bool
is_api name = list_any (bytes_eq name) api_names

none_found : (name : List ℕ) (ds : List Definition) → list_any (bytes_eq name) (map (λ (d : Definition). d.0) ds) ≡ false → lookup (bytes_eq name) ds ≡ None
none_found name [] h = refl
none_found name (d ∷ ds) h = elim (cases_Bool (bytes_eq name d.0)) [
  | inl e ↦ let k : true ≡ false = rw e at h in absurd (cc)
  | inr e ↦ rw e (none_found name ds (rw e at h))
]

no_macro : (name : List ℕ) → is_api name ≡ false → api_macro name ≡ None
no_macro name h = none_found name api_definitions (ap (λ ns. list_any (bytes_eq name) ns) names_are ∙ h)

-- ---- names

abbrev IsApart : FactData → Type 0
IsApart f = is_api (spells (full_name f)) ≡ false

abbrev AreApart : List FactData → Type 0
AreApart fs = Hold IsApart fs

-- what is behind a text decides nothing
abbrev IsOwn : List ℕ → Type 0
IsOwn t = (rest : List ℕ) → is_api (t ++ rest) ≡ false

mark_apart : (t : List ℕ) (ps : List PieceData) → IsOwn t → is_api (spells (lit t ∷ ps)) ≡ false
mark_apart t ps own = ap is_api (spells_cons (lit t) ps) ∙ own (spells ps)

-- they begin with `_`
abbrev is_under : List PieceData → Bool
is_under (lit (c ∷ t) ∷ ps) = nat_eq c 95
is_under _ = false

under_append : (ps qs : List PieceData) → is_under ps ≡ true → is_under (ps ++ qs) ≡ true
under_append [] qs h = absurd (cc)
under_append (lit [] ∷ ps) qs h = absurd (cc)
under_append (lit (c ∷ t) ∷ ps) qs h = h
under_append (form t ∷ ps) qs h = absurd (cc)
under_append (num n ∷ ps) qs h = absurd (cc)
under_append (_ ∷ ps) qs h = absurd (cc)

name_under : (w : List ℕ) (rest : List PieceData) → is_under rest ≡ true → is_under (name_pieces w ++ rest) ≡ true
name_under [] rest h = h
name_under (c ∷ cs) rest h = refl

names_under : (path : List ℕ) (after : List PieceData) → is_under after ≡ true → is_under (names_pieces path ++ after) ≡ true
names_under [] after h = h
names_under (c ∷ cs) after h = elim (cases_Bool (nat_eq c 47)) [
  | inl e ↦ rw (e, append_assoc) (name_under (name_first cs) (names_pieces cs ++ after) (names_under cs after h))
  | inr e ↦ rw e (names_under cs after h)
]

root_apart : (ps : List PieceData) → is_under ps ≡ true → is_api (spells (lit (codes "DT_N") ∷ ps)) ≡ false
root_apart (lit (c ∷ t) ∷ ps) h =
    let d : c ≡ 95 = eqb-true c 95 h in
    ap is_api (spells_cons (lit (codes "DT_N")) (lit (c ∷ t) ∷ ps) ∙ ap (λ x. codes "DT_N" ++ x) (spells_cons (lit (c ∷ t)) ps))
    ∙ subst (λ z. is_api (codes "DT_N" ++ ((z ∷ t) ++ spells ps)) ≡ false) (sym d) refl
root_apart [] h = absurd (cc)
root_apart (lit [] ∷ ps) h = absurd (cc)
root_apart (form t ∷ ps) h = absurd (cc)
root_apart (num n ∷ ps) h = absurd (cc)
root_apart (_ ∷ ps) h = absurd (cc)

id_apart : (path : List ℕ) (after : List PieceData) → is_under after ≡ true → is_api (spells (id_pieces path ++ after)) ≡ false
id_apart path after h = root_apart (names_pieces path ++ after) (names_under path after h)

titled_apart : (heading : List ℕ) (fs : List FactData) → AreApart fs → AreApart (titled heading fs)
titled_apart heading [] h = tt
titled_apart heading (f ∷ fs) h = h

-- ---- definitions of a node

walks_apart : (n : ℕ) (path : List ℕ) (after : List PieceData) (things : List (List PieceData)) → is_under after ≡ true → AreApart (walks n path after things)
walks_apart n path after things h = (id_apart path after h, (id_apart path _ (under_append after _ h), (id_apart path _ (under_append after _ h), tt)))

path_apart : (nodes : List NodeData) (n : ℕ) (x : NodeData) → AreApart (path_facts nodes n x)
path_apart nodes n x = (
  id_apart x.path _ refl,
  (
    id_apart x.path _ refl,
    both_hold IsApart _ _ (there_hold IsApart _ (λ up. id_apart x.path _ refl) x.parent) (there_hold IsApart _ (λ up. id_apart x.path _ refl) x.parent),
  ),
)

children_apart : (nodes : List NodeData) (n : ℕ) (path : List ℕ) (children : List ℕ) → AreApart (child_rows nodes n path children)
children_apart nodes n path children =
    let all = map (id_at nodes) children in
    let okay = map (id_at nodes) (okay_of nodes children) in (
      id_apart path _ refl,
      (
        id_apart path _ refl,
        both_hold IsApart (walks n path (lit (codes "_FOREACH_CHILD") ∷ []) all) (walks n path (lit (codes "_FOREACH_CHILD_STATUS_OKAY") ∷ []) okay)
            (walks_apart n path (lit (codes "_FOREACH_CHILD") ∷ []) all refl) (walks_apart n path (lit (codes "_FOREACH_CHILD_STATUS_OKAY") ∷ []) okay refl),
      ),
    )

order_apart : (n : ℕ) (path : List ℕ) (ords : OrdsData) (y : BoundNodeData) → AreApart (order_facts n path ords y)
order_apart n path ords y = (id_apart path _ refl, (id_apart path _ refl, (id_apart path _ refl, (id_apart path _ refl, tt))))

match_apart : (nodes : List NodeData) (n : ℕ) (x : NodeData) (y : BoundNodeData) → AreApart (match_facts nodes n x y)
match_apart nodes n x y = (
  id_apart x.path _ refl,
  both_hold IsApart _ _ (map_hold IsApart _ (λ c. id_apart x.path _ refl) x.compats)
      (both_hold IsApart _ _ (there_hold IsApart _ (λ up. id_apart x.path _ refl) y.bus) (map_hold IsApart _ (λ b. id_apart x.path _ refl) _)),
)

reg_lines_apart : (n : ℕ) (path : List ℕ) (at : List PieceData) (r : Reg) → is_under at ≡ true → AreApart (reg_lines n path at r)
reg_lines_apart n path at r h = (
  id_apart path _ (under_append at _ h),
  both_hold IsApart _ _ (there_hold IsApart _ (λ a. id_apart path _ (under_append at _ h)) r.addr) (there_hold IsApart _ (λ s. id_apart path _ (under_append at _ h)) r.size),
)

reg_apart : (n : ℕ) (path : List ℕ) (i : ℕ) (r : Reg) → AreApart (reg_facts n path i r)
reg_apart n path i r =
    let named = λ (m : List ℕ). reg_lines n path (lit (codes "_REG_NAME_") ∷ form m ∷ []) r in
    both_hold IsApart (reg_lines n path (lit (codes "_REG_IDX_") ∷ num i ∷ []) r) (option_map_or named r.name [])
    (reg_lines_apart n path (lit (codes "_REG_IDX_") ∷ num i ∷ []) r refl)
    (maybe_hold IsApart named (λ m. reg_lines_apart n path (lit (codes "_REG_NAME_") ∷ form m ∷ []) r refl) r.name)

range_apart : (n : ℕ) (path : List ℕ) (i : ℕ) (r : Range) → AreApart (range_facts n path i r)
range_apart n path i r = (id_apart path _ refl, (id_apart path _ refl, (id_apart path _ refl, (id_apart path _ refl, tt))))

cell_apart : (n : ℕ) (path : List ℕ) (at : List PieceData) → is_under at ≡ true → (c : List ℕ × ℕ) → AreApart (cell_facts n path at c)
cell_apart n path at h (c, v) = (id_apart path _ (under_append at _ h), (id_apart path _ (under_append at _ h), tt))

irq_lines_apart : (n : ℕ) (path : List ℕ) (at : List PieceData) (e : EntryData) → is_under at ≡ true → AreApart (irq_lines n path at e)
irq_lines_apart n path at e h = (id_apart path _ (under_append at _ h), flat_hold IsApart (cell_facts n path at) (cell_apart n path at h) e.cells)

irq_apart : (n : ℕ) (path : List ℕ) (i : ℕ) (e : EntryData) → AreApart (irq_facts n path i e)
irq_apart n path i e =
    let named = λ (m : List ℕ). irq_lines n path (lit (codes "_IRQ_NAME_") ∷ form m ∷ []) e in
    both_hold IsApart (irq_lines n path (lit (codes "_IRQ_IDX_") ∷ num i ∷ []) e) (option_map_or named e.name [])
    (irq_lines_apart n path (lit (codes "_IRQ_IDX_") ∷ num i ∷ []) e refl)
    (maybe_hold IsApart named (λ m. irq_lines_apart n path (lit (codes "_IRQ_NAME_") ∷ form m ∷ []) e refl) e.name)

entries_apart : (n : ℕ) (path : List ℕ) (y : BoundNodeData) → AreApart (entry_facts n path y)
entries_apart n path y = (
  id_apart path _ refl,
  both_hold IsApart (each (reg_facts n path) 0 y.regs) _ (each_hold IsApart (reg_facts n path) (reg_apart n path) 0 y.regs) (
    id_apart path _ refl,
    both_hold IsApart (each (range_facts n path) 0 y.ranges) _ (each_hold IsApart (range_facts n path) (range_apart n path) 0 y.ranges)
        (id_apart path _ refl, each_hold IsApart (irq_facts n path) (irq_apart n path) 0 y.irqs),
  ),
)

-- ---- properties

choice_apart : (n : ℕ) (path : List ℕ) (at : List PieceData) → is_under at ≡ true → (c : ℕ × List ℕ) → AreApart (choice_lines n path at c)
choice_apart n path at h (place, value) = (id_apart path _ (under_append at _ h), (id_apart path _ (under_append at _ h), tt))

pha_lines_apart : (nodes : List NodeData) (n : ℕ) (path : List ℕ) (at : List PieceData) (e : EntryData) → is_under at ≡ true → AreApart (pha_lines nodes n path at e)
pha_lines_apart nodes n path at e h = (
  id_apart path _ (under_append at _ h),
  (id_apart path _ (under_append at _ h), flat_hold IsApart (cell_facts n path at) (cell_apart n path at h) e.cells),
)

pha_apart : (nodes : List NodeData) (n : ℕ) (path name : List ℕ) (i : ℕ) (e : Option EntryData) → AreApart (pha_facts nodes n path name i e)
pha_apart nodes n path name i None = (id_apart path _ refl, tt)
pha_apart nodes n path name i (Some e) =
    let called = λ (m : List ℕ). pha_lines nodes n path (of_prop name (lit (codes "_NAME_") ∷ form m ∷ [])) e in
    both_hold IsApart (pha_lines nodes n path (at_index name i) e) (option_map_or called e.name [])
    (pha_lines_apart nodes n path (at_index name i) e refl)
    (maybe_hold IsApart called (λ m. pha_lines_apart nodes n path (of_prop name (lit (codes "_NAME_") ∷ form m ∷ [])) e refl) e.name)

elem_apart : (nodes : List NodeData) (n : ℕ) (path name : List ℕ) (choices : List (ℕ × List ℕ)) (i : ℕ) (e : Element) → AreApart (elem_lines nodes n path name choices i e)
elem_apart nodes n path name choices i (an_item item) =
    let choice = choice_lines n path (at_index name i) in
    both_hold IsApart (item_rows n path (at_index name i) item) (option_map_or choice (slice_get choices i) [])
    (id_apart path _ refl, (id_apart path _ refl, tt))
    (maybe_hold IsApart choice (choice_apart n path (at_index name i) refl) (slice_get choices i))
elem_apart nodes n path name choices i (a_node id) = (id_apart path _ refl, (id_apart path _ refl, (id_apart path _ refl, tt)))
elem_apart nodes n path name choices i (an_entry e) = pha_apart nodes n path name i e

count_apart : (n : ℕ) (path name : List ℕ) (count : ℕ) → AreApart (count_facts n path name count)
count_apart n path name count = (
  id_apart path _ refl,
  walks_apart n path (of_prop name (lit (codes "_FOREACH_PROP_ELEM") ∷ [])) (map (elem_visit path name) (range_with_len 0 count)) refl,
)

shown_apart : (nodes : List NodeData) (n : ℕ) (path : List ℕ) (p : PropData) → AreApart (shown_facts nodes n path p)
shown_apart nodes n path p =
    let value = λ (body : List PieceData). plain n path (of_prop p.name []) body in
    let choice = choice_lines n path (of_prop p.name []) in
    let element = elem_lines nodes n path p.name (elem_choices p.choices p.val) in
    both_hold IsApart (there (option_map value (value_body nodes p.val))) _ (there_hold IsApart value (λ body. id_apart path _ refl) (value_body nodes p.val))
    (both_hold IsApart (option_map_or choice (choice_of p.choices p.val) []) _ (maybe_hold IsApart choice (choice_apart n path (of_prop p.name []) refl) (choice_of p.choices p.val))
    (both_hold IsApart (each element 0 (elements p.ty p.val)) _ (each_hold IsApart element (elem_apart nodes n path p.name (elem_choices p.choices p.val)) 0 (elements p.ty p.val))
    (both_hold IsApart (option_map_or (count_facts n path p.name) (counted p) []) _ (maybe_hold IsApart (count_facts n path p.name) (count_apart n path p.name) (counted p))
    (id_apart path _ refl, tt))))

prop_apart : (nodes : List NodeData) (n : ℕ) (path : List ℕ) (p : PropData) → AreApart (prop_facts nodes n path p)
prop_apart nodes n path p = elim (cases_Bool (is_shown p)) [ inl e ↦ rw e (shown_apart nodes n path p) | inr e ↦ rw e tt ]

node_apart : (b : BoundData) (n : ℕ) (x : NodeData) (y : BoundNodeData) → AreApart (node_facts b n x y)
node_apart b n x y =
    let nodes = b.tree.nodes in
    let props = flat_map (prop_facts nodes n x.path) y.props in
    let entries = entry_facts n x.path y ++ props in
    let matches = match_facts nodes n x y ++ entries in
    let orders = order_facts n x.path (ords_at b.nodes n) y ++ matches in
    both_hold IsApart (path_facts nodes n x) (child_facts nodes n x ++ orders) (path_apart nodes n x)
    (both_hold IsApart (child_facts nodes n x) orders (children_apart nodes n x.path x.children)
    (both_hold IsApart (order_facts n x.path (ords_at b.nodes n) y) matches (order_apart n x.path (ords_at b.nodes n) y)
    (both_hold IsApart (match_facts nodes n x y) entries (match_apart nodes n x y)
    (both_hold IsApart (entry_facts n x.path y) props (entries_apart n x.path y) (flat_hold IsApart (prop_facts nodes n x.path) (prop_apart nodes n x.path) y.props)))))

-- ---- definitions of the tree

link_apart : (nodes : List NodeData) (mark : List ℕ) → IsOwn mark → (l : List ℕ × ℕ) → IsApart (link nodes mark l)
link_apart nodes mark own (w, id) = mark_apart mark _ own

label_apart : (nodes : List NodeData) (n : ℕ) (x : NodeData) → AreApart (label_facts nodes n x)
label_apart nodes n x = map_hold IsApart (λ label. link nodes (codes "DT_N_NODELABEL_") (label, n)) (λ label. link_apart nodes (codes "DT_N_NODELABEL_") (λ r. refl) (label, n)) x.labels

chosen_apart : (nodes : List NodeData) (c : List ℕ × ℕ) → AreApart (chosen_facts nodes c)
chosen_apart nodes (w, id) = (mark_apart (codes "DT_CHOSEN_") _ (λ r. refl), (mark_apart (codes "DT_CHOSEN_") _ (λ r. refl), tt))

place_apart : (nodes : List NodeData) (compat : List ℕ) (i id : ℕ) → AreApart (place_fact nodes compat i id)
place_apart nodes compat i id = (mark_apart (codes "DT_N_INST_") _ (λ r. refl), tt)

okay_apart : (nodes : List NodeData) (first : ℕ) (i : InstData) → AreApart (okay_facts nodes first i)
okay_apart nodes first i = (
  mark_apart (codes "DT_COMPAT_HAS_OKAY_") _ (λ r. refl),
  (
    mark_apart (codes "DT_N_INST_") _ (λ r. refl),
    (
      mark_apart (codes "DT_FOREACH_OKAY_") _ (λ r. refl),
      (mark_apart (codes "DT_FOREACH_OKAY_VARGS_") _ (λ r. refl), (mark_apart (codes "DT_FOREACH_OKAY_INST_") _ (λ r. refl), tt)),
    ),
  ),
)

inst_apart : (nodes : List NodeData) (i : InstData) → AreApart (inst_facts nodes i)
inst_apart nodes i =
    let okay : AreApart (if nat_lt 0 i.okay then okay_facts nodes (unwrap_or (slice_get i.nodes 0) 0) i else []) =
    elim (cases_Bool (nat_lt 0 i.okay)) [ inl e ↦ rw e (okay_apart nodes (unwrap_or (slice_get i.nodes 0) 0) i) | inr e ↦ rw e tt ] in
    both_hold IsApart (each (place_fact nodes i.compat) 0 i.nodes) _ (each_hold IsApart (place_fact nodes i.compat) (place_apart nodes i.compat) 0 i.nodes) okay

helper_apart : (nodes : List NodeData) → AreApart (helper_facts nodes)
helper_apart nodes = (mark_apart (codes "DT_FOREACH_HELPER") _ (λ r. refl), (mark_apart (codes "DT_FOREACH_OKAY_HELPER") _ (λ r. refl), tt))

tree_apart : (b : BoundData) → AreApart (tree_facts b)
tree_apart b =
    let nodes = b.tree.nodes in
    both_hold IsApart (map (link nodes (codes "DT_N_ALIAS_")) b.tree.aliases) _
    (map_hold IsApart (link nodes (codes "DT_N_ALIAS_")) (link_apart nodes (codes "DT_N_ALIAS_") (λ r. refl)) b.tree.aliases)
    (both_hold IsApart (each (label_facts nodes) 0 nodes) _ (each_hold IsApart (label_facts nodes) (label_apart nodes) 0 nodes)
    (both_hold IsApart (flat_map (chosen_facts nodes) b.tree.chosen) _ (flat_hold IsApart (chosen_facts nodes) (chosen_apart nodes) b.tree.chosen)
    (both_hold IsApart (flat_map (inst_facts nodes) b.insts) _ (flat_hold IsApart (inst_facts nodes) (inst_apart nodes) b.insts) (helper_apart nodes))))

-- ---- all

titled_node_apart : (b : BoundData) (n : ℕ) (x : NodeData) → AreApart (titled_node b n x)
titled_node_apart b n x = maybe_hold IsApart (λ (y : BoundNodeData). titled x.path (node_facts b n x y)) (λ y. titled_apart x.path (node_facts b n x y) (node_apart b n x y)) (slice_get b.nodes n)

facts_apart : (b : BoundData) → AreApart (facts b)
facts_apart b = both_hold IsApart (each (titled_node b) 0 b.tree.nodes) _ (each_hold IsApart (titled_node b) (titled_node_apart b) 0 b.tree.nodes) (titled_apart (codes "tree") (tree_facts b) (tree_apart b))

all_apart : (fs : List FactData) → AreApart fs → All IsApart fs
all_apart [] h = All-nil IsApart
all_apart (f ∷ fs) h = All-cons IsApart f fs h.0 (all_apart fs h.1)

pub no_name_is_in_both : NoNameIsInBoth
no_name_is_in_both b f h = no_macro (spells (full_name f)) (All-contains IsApart (facts b) f (all_apart (facts b) (facts_apart b)) h)
