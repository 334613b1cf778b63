-- Each definition of the header has a name and a body that are read.
use Rattle.std.proofs.Common.{◌≡◌, ◌+◌, ◌++◌, ℕ, suc, Bool, true, false, List, [], ◌∷◌, Option, Some, None, codes, length, map, nat_eq, option_map, refl, sym, subst, inl, inr, arith, add-zero, zero-add, append-nil, if◌then◌else◌}
use Rattle.std.specs.Prelude.{decimal, nat_lt, slice_get, take, unwrap_or}
use Rattle.std.specs.List.{All, Contains, flat_map, list_all, range_with_len}
use Rattle.std.specs.Option.{option_map_or}
use Rattle.std.proofs.lemmas.List.Elements.{All-cons, All-contains, All-nil}
use Rattle.std.proofs.lemmas.Bool.{cases_Bool, and_parts}
use Rattle.edt_base.specs.BoundData.{BoundData}
use Rattle.edt_base.specs.BoundNodeData.{BoundNodeData}
use Rattle.edt_base.specs.EntryData.{EntryData}
use Rattle.edt_base.specs.InstData.{InstData}
use Rattle.edt_base.specs.NodeData.{NodeData}
use Rattle.edt_base.specs.Nodes.{okay_of, path_at}
use Rattle.edt_base.specs.Ords.{OrdsData, ords_at}
use Rattle.edt_base.specs.PropData.{PropData}
use Rattle.edt_base.specs.TreeData.{IsWellFormed}
use Rattle.edt_base.specs.ValData.{ValData, bool_val, compound_val, entries_val, int_val, ints_val, node_val, nodes_val, str_val, strs_val, u8s_val}
use Rattle.edt_base.specs.declared.bound.PropType.{PropType}
use Rattle.edt_base.specs.declared.bound.PropType.TheVariants as type
use Rattle.edt_base.specs.declared.bound.Range.{Range}
use Rattle.edt_base.specs.declared.bound.Reg.{Reg}
use Rattle.dt_names.specs.Facts.{Element, FactData, a_node, an_entry, an_item, at_index, cell_facts, child_facts, child_rows, choice_lines, choice_of, chosen_facts, count_facts, counted, each, elem_choices, elem_facts, elem_lines, elem_visit, elements, entry_facts, fact, facts, full_name, helper_facts, id_at, id_pieces, inst_facts, irq_facts, irq_lines, is_shown, item_rows, label_facts, link, match_facts, node_facts, node_rows, of_node, of_prop, okay_facts, order_facts, path_facts, pha_facts, pha_lines, place_fact, plain, prop_facts, range_facts, reg_facts, reg_lines, shown_facts, there, titled, titled_node, tree_facts, value_body, visits, walks, yes}
use Rattle.dt_names.specs.Pieces.{PieceData, form, lit, num, spells, str}
use Rattle.dt_names.specs.declared.piece.Params.{Params}
use Rattle.dt_names.specs.declared.piece.Params.TheVariants as params
use Rattle.dt_names.proofs.Table.{Hold, both_hold, each_hold, flat_hold, map_hold, maybe_hold, there_hold}
use Rattle.dt_api.specs.HeaderDefs.{is_variadic}
use Rattle.dt_api.specs.HeaderLaw.{HasBytes, has_bytes, is_bytes, is_title, texts_of}
use Rattle.dt_api.proofs.BodyReads.{AreThings, AreValues, IsBody, IsThing, body_braces, body_id, body_number, body_ords, body_string, body_visits, elem_thing, id_thing, lined_append, number_thing, number_value, string_value, words_lined}
use Rattle.dt_api.proofs.TreeTexts.{name_bytes, path_bytes, path_title}
use Rattle.dt_api.proofs.PieceReads.{are_words, are_words_append, id_words}

-- a name begins with `D`
abbrev pub begins_d : List PieceData → Bool
begins_d (lit (c ∷ t) ∷ ps) = nat_eq c 68
begins_d _ = false

abbrev pub is_titled : Option (List ℕ) → Bool
is_titled None = true
is_titled (Some title) = is_title title

pub record IsRow (f : FactData) : Type 0 where
  pub words : are_words (full_name f) ≡ true
  pub begins : begins_d (full_name f) ≡ true
  pub body : IsBody (is_variadic f.params) f.body
  pub titled : is_titled f.heading ≡ true

abbrev pub AreRows : List FactData → Type 0
AreRows fs = Hold IsRow fs

node_row : (n : ℕ) (path : List ℕ) (after : List PieceData) (ps : Params) (body : List PieceData) → are_words after ≡ true → IsBody (is_variadic ps) body
    → IsRow (of_node n path after ps body)
node_row n path after ps body h is = record { words = are_words_append (id_pieces path) after (id_words path) h; begins = refl; body = is; titled = refl }

plain_row : (n : ℕ) (path : List ℕ) (after : List PieceData) (body : List PieceData) → are_words after ≡ true → IsBody false body → IsRow (plain n path after body)
plain_row n path after body h is = node_row n path after params.Plain body h is

body_yes : IsBody false yes
body_yes = body_number false 1

body_id_at : (nodes : List NodeData) (id : ℕ) → IsBody false (id_at nodes id)
body_id_at nodes id = body_id false (path_at nodes id)

-- what is appended to pieces of a word
behind : (at rest : List PieceData) → are_words at ≡ true → are_words rest ≡ true → are_words (at ++ rest) ≡ true
behind at rest h k = are_words_append at rest h k

titled_rows : (heading : List ℕ) (fs : List FactData) → is_title heading ≡ true → AreRows fs → AreRows (titled heading fs)
titled_rows heading [] e h = tt
titled_rows heading (f ∷ fs) e h = (record { words = h.0.words; begins = h.0.begins; body = h.0.body; titled = e }, h.1)

-- ---- walks

id_things : (nodes : List NodeData) (ids : List ℕ) → AreThings (map (id_at nodes) ids)
id_things nodes [] = tt
id_things nodes (id ∷ ids) = ((id_thing (path_at nodes id), words_lined (id_pieces (path_at nodes id)) (id_words (path_at nodes id))), id_things nodes ids)

walk_rows : (n : ℕ) (path : List ℕ) (after : List PieceData) (things : List (List PieceData)) → are_words after ≡ true → AreThings things
    → AreRows (walks n path after things)
walk_rows n path after things h all = (
  node_row n path after params.Fn (visits params.Fn things) h (body_visits params.Fn things all),
  (
    node_row n path (after ++ lit (codes "_SEP") ∷ []) params.FnSep (visits params.FnSep things) (behind after _ h refl) (body_visits params.FnSep things all),
    (node_row n path (after ++ lit (codes "_VARGS") ∷ []) params.FnVargs (visits params.FnVargs things) (behind after _ h refl) (body_visits params.FnVargs things all), tt),
  ),
)

-- ---- nodes

path_rows : (nodes : List NodeData) (n : ℕ) (x : NodeData) → is_bytes x.path ≡ true → is_bytes x.name ≡ true → AreRows (path_facts nodes n x)
path_rows nodes n x path name = (
  plain_row n x.path _ _ refl (body_string false x.path path),
  (
    plain_row n x.path _ _ refl (body_string false x.name name),
    both_hold IsRow _ _ (there_hold IsRow _ (λ up. plain_row n x.path _ _ refl (body_id_at nodes up)) x.parent)
        (there_hold IsRow _ (λ up. plain_row n x.path _ _ refl (body_number false _)) x.parent),
  ),
)

children_rows : (nodes : List NodeData) (n : ℕ) (path : List ℕ) (children : List ℕ) → AreRows (child_rows nodes n path children)
children_rows nodes n path children =
    let all = walks n path (lit (codes "_FOREACH_CHILD") ∷ []) (map (id_at nodes) children) in
    let okay = walks n path (lit (codes "_FOREACH_CHILD_STATUS_OKAY") ∷ []) (map (id_at nodes) (okay_of nodes children)) in (
      plain_row n path _ _ refl (body_number false _),
      (
        plain_row n path _ _ refl (body_number false _),
        both_hold IsRow all okay (walk_rows n path (lit (codes "_FOREACH_CHILD") ∷ []) (map (id_at nodes) children) refl (id_things nodes children))
            (walk_rows n path (lit (codes "_FOREACH_CHILD_STATUS_OKAY") ∷ []) (map (id_at nodes) (okay_of nodes children)) refl (id_things nodes (okay_of nodes children))),
      ),
    )

order_rows : (n : ℕ) (path : List ℕ) (ords : OrdsData) (y : BoundNodeData) → AreRows (order_facts n path ords y)
order_rows n path ords y = (
  plain_row n path _ _ refl body_yes,
  (plain_row n path _ _ refl (body_number false _), (plain_row n path _ _ refl (body_ords false _), (plain_row n path _ _ refl (body_ords false _), tt))),
)

match_rows : (nodes : List NodeData) (n : ℕ) (x : NodeData) (y : BoundNodeData) → AreRows (match_facts nodes n x y)
match_rows nodes n x y = (
  plain_row n x.path _ _ refl body_yes,
  both_hold IsRow _ _ (map_hold IsRow _ (λ c. plain_row n x.path _ _ refl body_yes) x.compats)
      (both_hold IsRow _ _ (there_hold IsRow _ (λ up. plain_row n x.path _ _ refl (body_id_at nodes up)) y.bus) (map_hold IsRow _ (λ b. plain_row n x.path _ _ refl body_yes) _)),
)

reg_line_rows : (n : ℕ) (path : List ℕ) (at : List PieceData) (r : Reg) → are_words at ≡ true → AreRows (reg_lines n path at r)
reg_line_rows n path at r h = (
  plain_row n path _ _ (behind at _ h refl) body_yes,
  both_hold IsRow _ _ (there_hold IsRow _ (λ a. plain_row n path _ _ (behind at _ h refl) (body_number false a)) r.addr)
      (there_hold IsRow _ (λ s. plain_row n path _ _ (behind at _ h refl) (body_number false s)) r.size),
)

reg_rows : (n : ℕ) (path : List ℕ) (i : ℕ) (r : Reg) → AreRows (reg_facts n path i r)
reg_rows n path i r =
    let named = λ (m : List ℕ). reg_lines n path (lit (codes "_REG_NAME_") ∷ form m ∷ []) r in
    both_hold IsRow (reg_lines n path (lit (codes "_REG_IDX_") ∷ num i ∷ []) r) (option_map_or named r.name [])
    (reg_line_rows n path (lit (codes "_REG_IDX_") ∷ num i ∷ []) r refl)
    (maybe_hold IsRow named (λ m. reg_line_rows n path (lit (codes "_REG_NAME_") ∷ form m ∷ []) r refl) r.name)

range_rows : (n : ℕ) (path : List ℕ) (i : ℕ) (r : Range) → AreRows (range_facts n path i r)
range_rows n path i r = (
  plain_row n path _ _ refl body_yes,
  (plain_row n path _ _ refl (body_number false _), (plain_row n path _ _ refl (body_number false _), (plain_row n path _ _ refl (body_number false _), tt))),
)

cell_rows : (n : ℕ) (path : List ℕ) (at : List PieceData) → are_words at ≡ true → (c : List ℕ × ℕ) → AreRows (cell_facts n path at c)
cell_rows n path at h (c, v) = (
  record { words = are_words_append (id_pieces path) _ (id_words path) (behind at _ h refl); begins = refl; body = body_number false v; titled = refl },
  (record { words = are_words_append (id_pieces path) _ (id_words path) (behind at _ h refl); begins = refl; body = body_yes; titled = refl }, tt),
)

irq_line_rows : (n : ℕ) (path : List ℕ) (at : List PieceData) (e : EntryData) → are_words at ≡ true → AreRows (irq_lines n path at e)
irq_line_rows n path at e h = (plain_row n path _ _ (behind at _ h refl) body_yes, flat_hold IsRow (cell_facts n path at) (cell_rows n path at h) e.cells)

irq_rows : (n : ℕ) (path : List ℕ) (i : ℕ) (e : EntryData) → AreRows (irq_facts n path i e)
irq_rows n path i e =
    let named = λ (m : List ℕ). irq_lines n path (lit (codes "_IRQ_NAME_") ∷ form m ∷ []) e in
    both_hold IsRow (irq_lines n path (lit (codes "_IRQ_IDX_") ∷ num i ∷ []) e) (option_map_or named e.name [])
    (irq_line_rows n path (lit (codes "_IRQ_IDX_") ∷ num i ∷ []) e refl)
    (maybe_hold IsRow named (λ m. irq_line_rows n path (lit (codes "_IRQ_NAME_") ∷ form m ∷ []) e refl) e.name)

entry_rows : (n : ℕ) (path : List ℕ) (y : BoundNodeData) → AreRows (entry_facts n path y)
entry_rows n path y =
    let irqs = each (irq_facts n path) 0 y.irqs in
    let ranges = each (range_facts n path) 0 y.ranges in (
      plain_row n path _ _ refl (body_number false _),
      both_hold IsRow (each (reg_facts n path) 0 y.regs) _ (each_hold IsRow (reg_facts n path) (reg_rows n path) 0 y.regs) (
        plain_row n path _ _ refl (body_number false _),
        both_hold IsRow ranges _ (each_hold IsRow (range_facts n path) (range_rows n path) 0 y.ranges) (
          plain_row n path _ _ refl (body_number false _),
          each_hold IsRow (irq_facts n path) (irq_rows n path) 0 y.irqs,
        ),
      ),
    )

-- ---- properties

choice_rows : (n : ℕ) (path : List ℕ) (at : List PieceData) → are_words at ≡ true → (c : ℕ × List ℕ) → AreRows (choice_lines n path at c)
choice_rows n path at h (place, value) = (plain_row n path _ _ (behind at _ h refl) (body_number false place), (plain_row n path _ _ (behind at _ h refl) body_yes, tt))

item_row_rows : (n : ℕ) (path : List ℕ) (at : List PieceData) (item : PieceData) → are_words at ≡ true → IsBody false (item ∷ []) → AreRows (item_rows n path at item)
item_row_rows n path at item h is = (plain_row n path _ _ (behind at _ h refl) is, (plain_row n path _ _ (behind at _ h refl) body_yes, tt))

node_row_rows : (n : ℕ) (path : List ℕ) (at id : List PieceData) → are_words at ≡ true → IsBody false id → AreRows (node_rows n path at id)
node_row_rows n path at id h is = (
  plain_row n path _ _ (behind at _ h refl) is,
  (plain_row n path _ _ (behind at _ h refl) is, (plain_row n path _ _ (behind at _ h refl) body_yes, tt)),
)

pha_line_rows : (nodes : List NodeData) (n : ℕ) (path : List ℕ) (at : List PieceData) (e : EntryData) → are_words at ≡ true → AreRows (pha_lines nodes n path at e)
pha_line_rows nodes n path at e h = (
  plain_row n path _ _ (behind at _ h refl) body_yes,
  (plain_row n path _ _ (behind at _ h refl) (body_id_at nodes e.controller), flat_hold IsRow (cell_facts n path at) (cell_rows n path at h) e.cells),
)

pha_rows : (nodes : List NodeData) (n : ℕ) (path name : List ℕ) (i : ℕ) (e : Option EntryData) → AreRows (pha_facts nodes n path name i e)
pha_rows nodes n path name i None = (plain_row n path _ _ refl (body_number false 0), tt)
pha_rows nodes n path name i (Some e) =
    let called = λ (m : List ℕ). pha_lines nodes n path (of_prop name (lit (codes "_NAME_") ∷ form m ∷ [])) e in
    both_hold IsRow (pha_lines nodes n path (at_index name i) e) (option_map_or called e.name [])
    (pha_line_rows nodes n path (at_index name i) e refl)
    (maybe_hold IsRow called (λ m. pha_line_rows nodes n path (of_prop name (lit (codes "_NAME_") ∷ form m ∷ [])) e refl) e.name)

-- what an element shows is read
abbrev IsRead : Element → Type 0
IsRead (an_item item) = IsBody false (item ∷ [])
IsRead (a_node id) = Unit {0}
IsRead (an_entry e) = Unit {0}

abbrev AreRead : List Element → Type 0
AreRead [] = Unit {0}
AreRead (e ∷ es) = IsRead e × AreRead es

elem_rows : (nodes : List NodeData) (n : ℕ) (path name : List ℕ) (choices : List (ℕ × List ℕ)) (i : ℕ) (e : Element) → IsRead e
    → AreRows (elem_lines nodes n path name choices i e)
elem_rows nodes n path name choices i (an_item item) is =
    let choice = choice_lines n path (at_index name i) in
    both_hold IsRow (item_rows n path (at_index name i) item) (option_map_or choice (slice_get choices i) []) (item_row_rows n path (at_index name i) item refl is)
    (maybe_hold IsRow choice (choice_rows n path (at_index name i) refl) (slice_get choices i))
elem_rows nodes n path name choices i (a_node id) is = node_row_rows n path (at_index name i) (id_at nodes id) refl (body_id_at nodes id)
elem_rows nodes n path name choices i (an_entry e) is = pha_rows nodes n path name i e

all_elem_rows : (nodes : List NodeData) (n : ℕ) (path name : List ℕ) (choices : List (ℕ × List ℕ)) (i : ℕ) (es : List Element) → AreRead es
    → AreRows (each (elem_lines nodes n path name choices) i es)
all_elem_rows nodes n path name choices i [] h = tt
all_elem_rows nodes n path name choices i (e ∷ es) h =
    both_hold IsRow (elem_lines nodes n path name choices i e) (each (elem_lines nodes n path name choices) (i + 1) es)
    (elem_rows nodes n path name choices i e h.0) (all_elem_rows nodes n path name choices (i + 1) es h.1)

numbers_read : (ks : List ℕ) → AreRead (map an_item (map num ks))
numbers_read [] = tt
numbers_read (k ∷ ks) = (body_number false k, numbers_read ks)

strings_read : (ss : List (List ℕ)) → list_all is_bytes ss ≡ true → AreRead (map an_item (map str ss))
strings_read [] h = tt
strings_read (s ∷ ss) h = let p : (is_bytes s ≡ true) × (list_all is_bytes ss ≡ true) = and_parts _ _ h in (body_string false s p.0, strings_read ss p.1)

nodes_read : (ids : List ℕ) → AreRead (map a_node ids)
nodes_read [] = tt
nodes_read (id ∷ ids) = (tt, nodes_read ids)

entries_read : (es : List (Option EntryData)) → AreRead (map an_entry es)
entries_read [] = tt
entries_read (e ∷ es) = (tt, entries_read es)

node_read : (ty : PropType) (id : ℕ) → AreRead (elements ty (node_val id))
node_read type.Phandle id = (tt, tt)
node_read type.Boolean id = tt
node_read type.Int id = tt
node_read type.Array id = tt
node_read type.U8Array id = tt
node_read type.Str id = tt
node_read type.StrArray id = tt
node_read type.Phandles id = tt
node_read type.PhandleArray id = tt
node_read type.Path id = tt
node_read type.Compound id = tt

elements_read : (ty : PropType) (v : ValData) → list_all is_bytes (texts_of v) ≡ true → AreRead (elements ty v)
elements_read ty (bool_val b) h = tt
elements_read ty (int_val k) h = tt
elements_read ty (ints_val ks) h = numbers_read ks
elements_read ty (u8s_val ks) h = numbers_read ks
elements_read ty (str_val s) h = let p : (is_bytes s ≡ true) × (true ≡ true) = and_parts _ _ h in (body_string false s p.0, tt)
elements_read ty (strs_val ss) h = strings_read ss h
elements_read ty (node_val id) h = node_read ty id
elements_read ty (nodes_val ids) h = nodes_read ids
elements_read ty (entries_val es) h = entries_read es
elements_read ty compound_val h = tt

number_values : (ks : List ℕ) → AreValues (map num ks)
number_values [] = tt
number_values (k ∷ ks) = (number_value k, number_values ks)

string_values : (ss : List (List ℕ)) → list_all is_bytes ss ≡ true → AreValues (map str ss)
string_values [] h = tt
string_values (s ∷ ss) h = let p : (is_bytes s ≡ true) × (list_all is_bytes ss ≡ true) = and_parts _ _ h in (string_value s p.0, string_values ss p.1)

abbrev IsMaybeBody : Option (List PieceData) → Type 0
IsMaybeBody None = Unit {0}
IsMaybeBody (Some body) = IsBody false body

value_read : (nodes : List NodeData) (v : ValData) → list_all is_bytes (texts_of v) ≡ true → IsMaybeBody (value_body nodes v)
value_read nodes (bool_val b) h = body_number false _
value_read nodes (int_val k) h = body_number false k
value_read nodes (ints_val ks) h = body_braces false (map num ks) (number_values ks)
value_read nodes (u8s_val ks) h = body_braces false (map num ks) (number_values ks)
value_read nodes (str_val s) h = let p : (is_bytes s ≡ true) × (true ≡ true) = and_parts _ _ h in body_string false s p.0
value_read nodes (strs_val ss) h = body_braces false (map str ss) (string_values ss h)
value_read nodes (node_val id) h = body_id_at nodes id
value_read nodes (nodes_val ids) h = tt
value_read nodes (entries_val es) h = tt
value_read nodes compound_val h = tt

value_row : (n : ℕ) (path name : List ℕ) (o : Option (List PieceData)) → IsMaybeBody o → AreRows (there (option_map (λ body. plain n path (of_prop name []) body) o))
value_row n path name None h = tt
value_row n path name (Some body) h = (plain_row n path (of_prop name []) body refl h, tt)

visit_things : (path name : List ℕ) (places : List ℕ) → AreThings (map (elem_visit path name) places)
visit_things path name [] = tt
visit_things path name (i ∷ is) =
    ((elem_thing path name i, lined_append (id_pieces path) (lit (codes ", ") ∷ form name ∷ lit (codes ", ") ∷ num i ∷ []) (words_lined (id_pieces path) (id_words path)) refl), visit_things path name is)

count_rows : (n : ℕ) (path name : List ℕ) (count : ℕ) → AreRows (count_facts n path name count)
count_rows n path name count = (
  plain_row n path _ _ refl (body_number false count),
  walk_rows n path (of_prop name (lit (codes "_FOREACH_PROP_ELEM") ∷ [])) (map (elem_visit path name) (range_with_len 0 count)) refl (visit_things path name (range_with_len 0 count)),
)

shown_rows : (nodes : List NodeData) (n : ℕ) (path : List ℕ) (p : PropData) → has_bytes p ≡ true → AreRows (shown_facts nodes n path p)
shown_rows nodes n path p h =
    let choice = choice_lines n path (of_prop p.name []) in
    both_hold IsRow _ _ (value_row n path p.name (value_body nodes p.val) (value_read nodes p.val h))
    (both_hold IsRow (option_map_or choice (choice_of p.choices p.val) []) _ (maybe_hold IsRow choice (choice_rows n path (of_prop p.name []) refl) (choice_of p.choices p.val))
    (both_hold IsRow (elem_facts nodes n path p) _ (all_elem_rows nodes n path p.name (elem_choices p.choices p.val) 0 (elements p.ty p.val) (elements_read p.ty p.val h))
    (both_hold IsRow (option_map_or (count_facts n path p.name) (counted p) []) _ (maybe_hold IsRow (count_facts n path p.name) (count_rows n path p.name) (counted p))
    (plain_row n path (of_prop p.name (lit (codes "_EXISTS") ∷ [])) yes refl body_yes, tt))))

prop_rows : (nodes : List NodeData) (n : ℕ) (path : List ℕ) (p : PropData) → has_bytes p ≡ true → AreRows (prop_facts nodes n path p)
prop_rows nodes n path p h = elim (cases_Bool (is_shown p)) [ inl e ↦ rw e (shown_rows nodes n path p h) | inr e ↦ rw e tt ]

props_rows : (nodes : List NodeData) (n : ℕ) (path : List ℕ) (ps : List PropData) → list_all has_bytes ps ≡ true → AreRows (flat_map (prop_facts nodes n path) ps)
props_rows nodes n path [] h = tt
props_rows nodes n path (p ∷ ps) h =
    let parts : (has_bytes p ≡ true) × (list_all has_bytes ps ≡ true) = and_parts _ _ h in
    both_hold IsRow (prop_facts nodes n path p) (flat_map (prop_facts nodes n path) ps) (prop_rows nodes n path p parts.0) (props_rows nodes n path ps parts.1)

node_all_rows : (b : BoundData) (n : ℕ) (x : NodeData) (y : BoundNodeData) → is_bytes x.path ≡ true → is_bytes x.name ≡ true → list_all has_bytes y.props ≡ true
    → AreRows (node_facts b n x y)
node_all_rows b n x y path name values =
    let nodes = b.tree.nodes in
    let props = flat_map (prop_facts nodes n x.path) y.props in
    let entries = entry_facts n x.path y ++ props in
    let matches = match_facts nodes n x y ++ entries in
    let orders = order_facts n x.path (ords_at b.nodes n) y ++ matches in
    both_hold IsRow (path_facts nodes n x) (child_facts nodes n x ++ orders) (path_rows nodes n x path name)
    (both_hold IsRow (child_facts nodes n x) orders (children_rows nodes n x.path x.children)
    (both_hold IsRow (order_facts n x.path (ords_at b.nodes n) y) matches (order_rows n x.path (ords_at b.nodes n) y)
    (both_hold IsRow (match_facts nodes n x y) entries (match_rows nodes n x y)
    (both_hold IsRow (entry_facts n x.path y) props (entry_rows n x.path y) (props_rows nodes n x.path y.props values)))))

-- ---- the tree

tree_row : (owner : ℕ) (name : List PieceData) (ps : Params) (body : List PieceData) → are_words name ≡ true → begins_d name ≡ true → IsBody (is_variadic ps) body
    → IsRow (fact owner name ps body)
tree_row owner name ps body h b is = record { words = h; begins = b; body = is; titled = refl }

link_row : (nodes : List NodeData) (mark : List ℕ) (l : List ℕ × ℕ) → are_words (lit mark ∷ form l.0 ∷ []) ≡ true → begins_d (lit mark ∷ []) ≡ true → IsRow (link nodes mark l)
link_row nodes [] (w, id) h b = cc
link_row nodes (c ∷ t) (w, id) h b = record { words = h; begins = b; body = body_id_at nodes id; titled = refl }

label_rows : (nodes : List NodeData) (n : ℕ) (x : NodeData) → AreRows (label_facts nodes n x)
label_rows nodes n x = map_hold IsRow (λ label. link nodes (codes "DT_N_NODELABEL_") (label, n)) (λ label. link_row nodes (codes "DT_N_NODELABEL_") (label, n) refl refl) x.labels

chosen_rows : (nodes : List NodeData) (c : List ℕ × ℕ) → AreRows (chosen_facts nodes c)
chosen_rows nodes (w, id) = (link_row nodes (codes "DT_CHOSEN_") (w, id) refl refl, (tree_row id _ params.Plain yes refl refl body_yes, tt))

place_rows : (nodes : List NodeData) (compat : List ℕ) (i id : ℕ) → AreRows (place_fact nodes compat i id)
place_rows nodes compat i id = (tree_row id _ params.Plain (id_at nodes id) refl refl (body_id_at nodes id), tt)

number_things : (ks : List ℕ) → AreThings (map (λ k. num k ∷ []) ks)
unfolding spells
number_things [] = tt
number_things (k ∷ ks) = ((subst IsThing (sym (append-nil (decimal k))) (number_thing k), refl), number_things ks)

okay_rows : (nodes : List NodeData) (first : ℕ) (i : InstData) → AreRows (okay_facts nodes first i)
okay_rows nodes first i =
    let ids = take i.okay i.nodes in (
      tree_row first _ params.Plain yes refl refl body_yes,
      (
        tree_row first _ params.Plain _ refl refl (body_number false i.okay),
        (
          tree_row first _ params.Fn _ refl refl (body_visits params.Fn (map (id_at nodes) ids) (id_things nodes ids)),
          (
            tree_row first _ params.FnVargs _ refl refl (body_visits params.FnVargs (map (id_at nodes) ids) (id_things nodes ids)),
            (tree_row first _ params.Fn _ refl refl (body_visits params.Fn (map (λ k. num k ∷ []) (range_with_len 0 i.okay)) (number_things (range_with_len 0 i.okay))), tt),
          ),
        ),
      ),
    )

inst_rows : (nodes : List NodeData) (i : InstData) → AreRows (inst_facts nodes i)
inst_rows nodes i =
    let okay : AreRows (if nat_lt 0 i.okay then okay_facts nodes (unwrap_or (slice_get i.nodes 0) 0) i else []) =
    elim (cases_Bool (nat_lt 0 i.okay)) [ inl e ↦ rw e (okay_rows nodes (unwrap_or (slice_get i.nodes 0) 0) i) | inr e ↦ rw e tt ] in
    both_hold IsRow (each (place_fact nodes i.compat) 0 i.nodes) _ (each_hold IsRow (place_fact nodes i.compat) (place_rows nodes i.compat) 0 i.nodes) okay

helper_rows : (nodes : List NodeData) → AreRows (helper_facts nodes)
helper_rows nodes =
    let all = range_with_len 0 (length nodes) in (
      tree_row 0 _ params.Fn _ refl refl (body_visits params.Fn (map (id_at nodes) all) (id_things nodes all)),
      (tree_row 0 _ params.Fn _ refl refl (body_visits params.Fn (map (id_at nodes) (okay_of nodes all)) (id_things nodes (okay_of nodes all))), tt),
    )

tree_rows : (b : BoundData) → AreRows (tree_facts b)
tree_rows b =
    let nodes = b.tree.nodes in
    both_hold IsRow (map (link nodes (codes "DT_N_ALIAS_")) b.tree.aliases) _
    (map_hold IsRow (link nodes (codes "DT_N_ALIAS_")) (λ a. link_row nodes (codes "DT_N_ALIAS_") a refl refl) b.tree.aliases)
    (both_hold IsRow (each (label_facts nodes) 0 nodes) _ (each_hold IsRow (label_facts nodes) (label_rows nodes) 0 nodes)
    (both_hold IsRow (flat_map (chosen_facts nodes) b.tree.chosen) _ (flat_hold IsRow (chosen_facts nodes) (chosen_rows nodes) b.tree.chosen)
    (both_hold IsRow (flat_map (inst_facts nodes) b.insts) _ (flat_hold IsRow (inst_facts nodes) (inst_rows nodes) b.insts) (helper_rows nodes))))

-- ---- all

each_at : {A : Type 0} (P : FactData → Type 0) (f : ℕ → A → List FactData) (from : ℕ) (xs : List A)
    → ((k : ℕ) (x : A) → slice_get xs k ≡ Some x → Hold P (f (from + k) x)) → Hold P (each f from xs)
each_at P f from [] h = tt
each_at P f from (x ∷ xs) h =
    let first : Hold P (f from x) = subst (λ n. Hold P (f n x)) (add-zero from) (h 0 x refl) in
    both_hold P (f from x) (each f (from + 1) xs) first
    (each_at P f (from + 1) xs (λ k y e. subst (λ n. Hold P (f n y)) (later from k) (h (suc k) y e)))
  where
    later : (n k : ℕ) → n + suc k ≡ n + 1 + k
    later n k = omega arith

titled_node_rows : (b : BoundData) (n : ℕ) (x : NodeData) → IsWellFormed b.tree → HasBytes b → slice_get b.tree.nodes n ≡ Some x → AreRows (titled_node b n x)
titled_node_rows b n x w has there_ = by_node (slice_get b.nodes n) refl
  where
    by_node : (o : Option BoundNodeData) → slice_get b.nodes n ≡ o → AreRows (option_map_or (λ y. titled x.path (node_facts b n x y)) o [])
    by_node None e = tt
    by_node (Some y) e = titled_rows x.path (node_facts b n x y) (path_title b.tree n x w there_) (node_all_rows b n x y (path_bytes b.tree n x w there_) (name_bytes b.tree n x w there_) (has n y e))

pub facts_rows : (b : BoundData) → IsWellFormed b.tree → HasBytes b → AreRows (facts b)
facts_rows b w has =
    both_hold IsRow (each (titled_node b) 0 b.tree.nodes) _
    (each_at IsRow (titled_node b) 0 b.tree.nodes (λ k x e. subst (λ n. Hold IsRow (titled_node b n x)) (sym (zero-add k)) (titled_node_rows b k x w has e)))
    (titled_rows (codes "tree") (tree_facts b) refl (tree_rows b))

all_rows : (fs : List FactData) → AreRows fs → All IsRow fs
all_rows [] h = All-nil IsRow
all_rows (f ∷ fs) h = All-cons IsRow f fs h.0 (all_rows fs h.1)

-- each definition of a bound tree is a row
pub is_row : (b : BoundData) (f : FactData) → IsWellFormed b.tree → HasBytes b → Contains (facts b) f → IsRow f
is_row b f w has h = All-contains IsRow (facts b) f (all_rows (facts b) (facts_rows b w has)) h
