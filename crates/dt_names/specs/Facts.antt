-- The definitions of a bound tree, in order. This is the table of the header: one line a definition.
use Rattle.std.specs.Prelude.{◌==◌, ◌+◌, ◌&&◌, ◌||◌, ◌++◌, ℕ, Bool, true, false, not, List, [], ◌∷◌, Option, Some, None, codes, length, map, take, nat_lt, nat_eq, slice_get, unwrap_or, if◌then◌else◌}
use Rattle.std.specs.List.{flat_map, filter, range_with_len, ends_with, starts_with}
use Rattle.std.specs.Option.{option_map, option_map_or}
use Rattle.std.specs.Str.{bytes_eq}
use Rattle.edt_base.specs.BoundData.{BoundData}
use Rattle.edt_base.specs.BoundNodeData.{BoundNodeData, buses_on}
use Rattle.edt_base.specs.EntryData.{EntryData}
use Rattle.edt_base.specs.Nodes.{path_at, children_at, okay_of}
use Rattle.edt_base.specs.InstData.{InstData}
use Rattle.edt_base.specs.Ords.{OrdsData, ords_at}
use Rattle.edt_base.specs.NodeData.{NodeData}
use Rattle.edt_base.specs.PropData.{PropData}
use Rattle.edt_base.specs.ValData.{ValData, bool_val, int_val, ints_val, u8s_val, str_val, strs_val, node_val, nodes_val, entries_val}
use Rattle.edt_base.specs.declared.bound.PropType.{PropType}
use Rattle.edt_base.specs.declared.bound.PropType.TheVariants as type
use Rattle.edt_base.specs.declared.bound.Range.{Range}
use Rattle.edt_base.specs.declared.bound.Reg.{Reg}
use Rattle.dt_names.specs.Pieces.{PieceData, lit, form, str, num}
use Rattle.dt_names.specs.declared.piece.Params.{Params}
use Rattle.dt_names.specs.declared.piece.Params.TheVariants as params

-- a definition: the node that it belongs to, the comment that stands before it (of the first of a node and of the first
-- of the tree), whether it goes on about the entry that the one before it is on, its name, its parameters and its body;
-- a node's begins its name with the node's id, one of the tree has no id
pub record FactData : Type 0 where
  pub owner : ℕ
  pub heading : Option (List ℕ)
  pub goes_on : Bool
  pub base : List PieceData
  pub rest : List PieceData
  pub params : Params
  pub body : List PieceData

-- the name: the id and what is behind it
abbrev pub full_name : FactData → List PieceData
full_name f = f.base ++ f.rest

-- over a list with its places, from a number on
abbrev pub each : {A B : Type 0} → (ℕ → A → List B) → ℕ → List A → List B
each f n [] = []
each f n (x ∷ xs) = f n x ++ each f (n + 1) xs

-- what is there
abbrev pub there : {A : Type 0} → Option A → List A
there None = []
there (Some x) = x ∷ []

-- Ids, statuses and places

-- the text before the first `/`
abbrev pub name_first : List ℕ → List ℕ
name_first [] = []
name_first (c ∷ cs) = if c == 47 then [] else c ∷ name_first cs

abbrev pub name_pieces : List ℕ → List PieceData
name_pieces [] = []
name_pieces (c ∷ cs) = lit (codes "_S_") ∷ form (c ∷ cs) ∷ []

-- `_S_` and the name, for each name behind a `/`
abbrev pub names_pieces : List ℕ → List PieceData
names_pieces [] = []
names_pieces (c ∷ cs) = if c == 47 then name_pieces (name_first cs) ++ names_pieces cs else names_pieces cs

-- the id of the node of a path
abbrev pub id_pieces : List ℕ → List PieceData
id_pieces path = lit (codes "DT_N") ∷ names_pieces path

-- the id of the node at a place
abbrev pub id_at : List NodeData → ℕ → List PieceData
id_at nodes id = id_pieces (path_at nodes id)

-- how many children of a node come before a place
abbrev pub child_place : List NodeData → ℕ → ℕ → ℕ
child_place nodes up n = length (filter (λ c. nat_lt c n) (children_at nodes up))

-- Bodies

abbrev pub yes : List PieceData
yes = num 1 ∷ []

-- ordinals, each with a comma behind it
abbrev pub ords_body : List ℕ → List PieceData
ords_body [] = []
ords_body (o ∷ os) = num o ∷ lit (codes ",") ∷ flat_map (λ p. lit (codes " ") ∷ num p ∷ lit (codes ",") ∷ []) os

-- values in braces
abbrev pub braces : List PieceData → List PieceData
braces [] = lit (codes "{}") ∷ []
braces (v ∷ vs) = lit (codes "{") ∷ v ∷ (flat_map (λ w. lit (codes ", ") ∷ w ∷ []) vs ++ lit (codes "}") ∷ [])

-- what closes a visit, and what parts two
abbrev pub visit_end : Params → List ℕ
visit_end params.FnVargs = codes ", __VA_ARGS__)"
visit_end _ = codes ")"

abbrev pub between : Params → List ℕ
between params.FnSep = codes " DT_DEBRACKET_INTERNAL sep "
between _ = codes " "

abbrev pub visit : Params → List PieceData → List PieceData
visit ps thing = lit (codes "fn(") ∷ (thing ++ lit (visit_end ps) ∷ [])

-- a visit of each thing
abbrev pub visits : Params → List (List PieceData) → List PieceData
visits ps [] = []
visits ps (t ∷ ts) = visit ps t ++ flat_map (λ u. lit (between ps) ∷ visit ps u) ts

-- Definitions of a node

-- a definition of the tree, which belongs to a node
abbrev pub fact : ℕ → List PieceData → Params → List PieceData → FactData
fact owner name ps body =
    record { owner = owner; heading = None; goes_on = false; base = []; rest = name; params = ps; body = body }

-- a definition of the node n of a path: the id, and what follows it
abbrev pub of_node : ℕ → List ℕ → List PieceData → Params → List PieceData → FactData
of_node n path after ps body =
    record { owner = n; heading = None; goes_on = false; base = id_pieces path; rest = after; params = ps; body = body }

-- one without parameters
abbrev pub plain : ℕ → List ℕ → List PieceData → List PieceData → FactData
plain n path after body = of_node n path after params.Plain body

-- the same, which goes on about the entry of the one before it
abbrev pub going_on : FactData → FactData
going_on f = record f { goes_on = true }

-- the three walks of a name over things
abbrev pub walks : ℕ → List ℕ → List PieceData → List (List PieceData) → List FactData
walks n path after things =
    of_node n path after params.Fn (visits params.Fn things)
    ∷ of_node n path (after ++ lit (codes "_SEP") ∷ []) params.FnSep (visits params.FnSep things)
    ∷ of_node n path (after ++ lit (codes "_VARGS") ∷ []) params.FnVargs (visits params.FnVargs things)
    ∷ []

-- 1 and 2: the path, the name, the parent
abbrev pub path_facts : List NodeData → ℕ → NodeData → List FactData
path_facts nodes n x =
    plain n x.path (lit (codes "_PATH") ∷ []) (str x.path ∷ [])
    ∷ plain n x.path (lit (codes "_FULL_NAME") ∷ []) (str x.name ∷ [])
    ∷ (there (option_map (λ up. plain n x.path (lit (codes "_PARENT") ∷ []) (id_at nodes up)) x.parent)
    ++ there (option_map
    (λ up. plain n x.path (lit (codes "_CHILD_IDX") ∷ []) (num (child_place nodes up n) ∷ [])) x.parent))

-- 3 and 4: the children
abbrev pub child_rows : List NodeData → ℕ → List ℕ → List ℕ → List FactData
child_rows nodes n path children =
    plain n path (lit (codes "_CHILD_NUM") ∷ []) (num (length children) ∷ [])
    ∷ plain n path (lit (codes "_CHILD_NUM_STATUS_OKAY") ∷ []) (num (length (okay_of nodes children)) ∷ [])
    ∷ (walks n path (lit (codes "_FOREACH_CHILD") ∷ []) (map (id_at nodes) children)
    ++ walks n path (lit (codes "_FOREACH_CHILD_STATUS_OKAY") ∷ []) (map (id_at nodes) (okay_of nodes children)))

abbrev pub child_facts : List NodeData → ℕ → NodeData → List FactData
child_facts nodes n x = child_rows nodes n x.path x.children

-- 5: existence and order
abbrev pub order_facts : ℕ → List ℕ → OrdsData → BoundNodeData → List FactData
order_facts n path ords y =
    plain n path (lit (codes "_EXISTS") ∷ []) yes
    ∷ plain n path (lit (codes "_ORD") ∷ []) (num y.ord ∷ [])
    ∷ plain n path (lit (codes "_REQUIRES_ORDS") ∷ []) (ords_body ords.needs)
    ∷ plain n path (lit (codes "_SUPPORTS_ORDS") ∷ []) (ords_body ords.supports)
    ∷ []

-- a word behind a marker
abbrev pub marked : ℕ → List ℕ → List ℕ → List ℕ → FactData
marked n path mark word = plain n path (lit mark ∷ form word ∷ []) yes

-- 6 and 7: status, compatible strings, bus
abbrev pub match_facts : List NodeData → ℕ → NodeData → BoundNodeData → List FactData
match_facts nodes n x y =
    marked n x.path (codes "_STATUS_") x.status
    ∷ (map (marked n x.path (codes "_COMPAT_MATCHES_")) x.compats
    ++ (there (option_map (λ up. plain n x.path (lit (codes "_BUS") ∷ []) (id_at nodes up)) y.bus)
    ++ map (marked n x.path (codes "_BUS_")) (buses_on y.bus y.buses)))

-- 8: a register, by its place or its name
abbrev pub reg_lines : ℕ → List ℕ → List PieceData → Reg → List FactData
reg_lines n path at r =
    plain n path (at ++ lit (codes "_EXISTS") ∷ []) yes
    ∷ (there (option_map (λ a. plain n path (at ++ lit (codes "_VAL_ADDRESS") ∷ []) (num a ∷ [])) r.addr)
    ++ there (option_map (λ s. plain n path (at ++ lit (codes "_VAL_SIZE") ∷ []) (num s ∷ [])) r.size))

abbrev pub reg_facts : ℕ → List ℕ → ℕ → Reg → List FactData
reg_facts n path i r =
    reg_lines n path (lit (codes "_REG_IDX_") ∷ num i ∷ []) r
    ++ option_map_or (λ m. reg_lines n path (lit (codes "_REG_NAME_") ∷ form m ∷ []) r) r.name []

-- 9: a range
abbrev pub range_lines : ℕ → List ℕ → List PieceData → Range → List FactData
range_lines n path at r =
    plain n path (at ++ lit (codes "_EXISTS") ∷ []) yes
    ∷ plain n path (at ++ lit (codes "_VAL_CHILD_BUS_ADDRESS") ∷ []) (num r.child ∷ [])
    ∷ plain n path (at ++ lit (codes "_VAL_PARENT_BUS_ADDRESS") ∷ []) (num r.parent ∷ [])
    ∷ plain n path (at ++ lit (codes "_VAL_LENGTH") ∷ []) (num r.len ∷ [])
    ∷ []

abbrev pub range_facts : ℕ → List ℕ → ℕ → Range → List FactData
range_facts n path i r = range_lines n path (lit (codes "_RANGES_IDX_") ∷ num i ∷ []) r

-- the cells of an entry, by the entry's place or its name
abbrev pub cell_facts : ℕ → List ℕ → List PieceData → List ℕ × ℕ → List FactData
cell_facts n path at (c, v) =
    going_on (plain n path (at ++ (lit (codes "_VAL_") ∷ form c ∷ [])) (num v ∷ []))
    ∷ going_on (plain n path (at ++ (lit (codes "_VAL_") ∷ form c ∷ lit (codes "_EXISTS") ∷ [])) yes)
    ∷ []

-- 10: an interrupt
abbrev pub irq_lines : ℕ → List ℕ → List PieceData → EntryData → List FactData
irq_lines n path at e = plain n path (at ++ lit (codes "_EXISTS") ∷ []) yes ∷ flat_map (cell_facts n path at) e.cells

abbrev pub irq_facts : ℕ → List ℕ → ℕ → EntryData → List FactData
irq_facts n path i e =
    irq_lines n path (lit (codes "_IRQ_IDX_") ∷ num i ∷ []) e
    ++ option_map_or (λ m. irq_lines n path (lit (codes "_IRQ_NAME_") ∷ form m ∷ []) e) e.name []

-- 8 to 10: registers, ranges, interrupts
abbrev pub entry_facts : ℕ → List ℕ → BoundNodeData → List FactData
entry_facts n path y =
    plain n path (lit (codes "_REG_NUM") ∷ []) (num (length y.regs) ∷ [])
    ∷ (each (reg_facts n path) 0 y.regs
    ++ (plain n path (lit (codes "_RANGES_NUM") ∷ []) (num (length y.ranges) ∷ [])
    ∷ (each (range_facts n path) 0 y.ranges
    ++ (plain n path (lit (codes "_IRQ_NUM") ∷ []) (num (length y.irqs) ∷ [])
    ∷ each (irq_facts n path) 0 y.irqs))))

-- 11: properties

abbrev pub is_compound : PropType → Bool
is_compound type.Compound = true
is_compound _ = false

-- the property makes definitions
abbrev pub is_shown : PropData → Bool
is_shown p =
    not (starts_with nat_eq p.name (codes "#")) && not (ends_with nat_eq p.name (codes "-map")) && not
    (is_compound p.ty)

abbrev pub of_prop : List ℕ → List PieceData → List PieceData
of_prop name after = lit (codes "_P_") ∷ form name ∷ after

-- the value of a property, where it is one thing
abbrev pub value_body : List NodeData → ValData → Option (List PieceData)
value_body nodes (bool_val b) = Some (num (if b then 1 else 0) ∷ [])
value_body nodes (int_val k) = Some (num k ∷ [])
value_body nodes (str_val s) = Some (str s ∷ [])
value_body nodes (ints_val ks) = Some (braces (map num ks))
value_body nodes (u8s_val bs) = Some (braces (map num bs))
value_body nodes (strs_val ss) = Some (braces (map str ss))
value_body nodes (node_val id) = Some (id_at nodes id)
value_body nodes _ = None

-- the place in `enum` and the value's form, of an int or a string
abbrev pub choice_of : List (ℕ × List ℕ) → ValData → Option (ℕ × List ℕ)
choice_of choices (int_val k) = slice_get choices 0
choice_of choices (str_val s) = slice_get choices 0
choice_of choices _ = None

-- a choice's definitions, behind the property or one of its elements
abbrev pub choice_lines : ℕ → List ℕ → List PieceData → ℕ × List ℕ → List FactData
choice_lines n path at (place, value) =
    plain n path (at ++ lit (codes "_ENUM_IDX") ∷ []) (num place ∷ [])
    ∷ plain n path (at ++ (lit (codes "_ENUM_VAL_") ∷ form value ∷ lit (codes "_EXISTS") ∷ [])) yes
    ∷ []

abbrev pub at_index : List ℕ → ℕ → List PieceData
at_index name i = of_prop name (lit (codes "_IDX_") ∷ num i ∷ [])

-- an element that is a number or a string
abbrev pub item_rows : ℕ → List ℕ → List PieceData → PieceData → List FactData
item_rows n path at item = plain n path (at ++ []) (item ∷ []) ∷ plain n path (at
    ++ lit (codes "_EXISTS") ∷ []) yes ∷ []

-- an element on which `enum` may be tested
abbrev pub item_facts : ℕ → List ℕ → List ℕ → List (ℕ × List ℕ) → ℕ → PieceData → List FactData
item_facts n path name choices i item =
    item_rows n path (at_index name i) item
    ++ option_map_or (choice_lines n path (at_index name i)) (slice_get choices i) []

-- an element that is a node
abbrev pub node_rows : ℕ → List ℕ → List PieceData → List PieceData → List FactData
node_rows n path at id =
    plain n path (at ++ []) id
    ∷ plain n path (at ++ lit (codes "_PH") ∷ []) id
    ∷ plain n path (at ++ lit (codes "_EXISTS") ∷ []) yes
    ∷ []

abbrev pub node_lines : List NodeData → ℕ → List ℕ → List ℕ → ℕ → ℕ → List FactData
node_lines nodes n path name i id = node_rows n path (at_index name i) (id_at nodes id)

-- an entry of a phandle-array, by its place or its name
abbrev pub pha_lines : List NodeData → ℕ → List ℕ → List PieceData → EntryData → List FactData
pha_lines nodes n path at e =
    plain n path (at ++ lit (codes "_EXISTS") ∷ []) yes
    ∷ plain n path (at ++ lit (codes "_PH") ∷ []) (id_at nodes e.controller)
    ∷ flat_map (cell_facts n path at) e.cells

abbrev pub pha_facts : List NodeData → ℕ → List ℕ → List ℕ → ℕ → Option EntryData → List FactData
pha_facts nodes n path name i None = plain n path (at_index name i ++ lit (codes "_EXISTS") ∷ []) (num 0 ∷ []) ∷ []
pha_facts nodes n path name i (Some e) =
    pha_lines nodes n path (at_index name i) e
    ++ option_map_or (λ m. pha_lines nodes n path (of_prop name (lit (codes "_NAME_") ∷ form m ∷ [])) e) e.name []

-- an element: a number or a string, a node, or an entry of a phandle-array
pub data Element : Type 0 where
  an_item : PieceData → Element
  a_node : ℕ → Element
  an_entry : Option EntryData → Element

-- the elements of a value; a path is no element
abbrev pub elements : PropType → ValData → List Element
elements ty (str_val s) = an_item (str s) ∷ []
elements ty (ints_val ks) = map an_item (map num ks)
elements ty (u8s_val bs) = map an_item (map num bs)
elements ty (strs_val ss) = map an_item (map str ss)
elements type.Phandle (node_val id) = a_node id ∷ []
elements ty (nodes_val ids) = map a_node ids
elements ty (entries_val es) = map an_entry es
elements _ _ = []

-- the choices of the elements; that of a string stands behind the property
abbrev pub elem_choices : List (ℕ × List ℕ) → ValData → List (ℕ × List ℕ)
elem_choices choices (str_val s) = []
elem_choices choices _ = choices

-- an element by its place
abbrev pub elem_lines : List NodeData → ℕ → List ℕ → List ℕ → List (ℕ × List ℕ) → ℕ → Element → List FactData
elem_lines nodes n path name choices i (an_item item) = item_facts n path name choices i item
elem_lines nodes n path name choices i (a_node id) = node_lines nodes n path name i id
elem_lines nodes n path name choices i (an_entry e) = pha_facts nodes n path name i e

abbrev pub elem_facts : List NodeData → ℕ → List ℕ → PropData → List FactData
elem_facts nodes n path p = each (elem_lines nodes n path p.name (elem_choices p.choices p.val)) 0 (elements p.ty p.val)

-- how many elements a property has, where its type has elements
abbrev pub elem_count : PropType → ValData → Option ℕ
elem_count ty (str_val s) = Some 1
elem_count ty (ints_val ks) = Some (length ks)
elem_count ty (u8s_val bs) = Some (length bs)
elem_count ty (strs_val ss) = Some (length ss)
elem_count type.Phandle (node_val id) = Some 1
elem_count ty (nodes_val ids) = Some (length ids)
elem_count ty (entries_val es) = Some (length es)
elem_count _ _ = None

-- the properties whose elements are counted otherwise
abbrev pub is_uncounted : List ℕ → Bool
is_uncounted name = bytes_eq name (codes "reg") || bytes_eq name (codes "interrupts") || bytes_eq name (codes "ranges")
    || bytes_eq name (codes "dma-ranges")

-- an element as a walk visits it: the node, the property and the place
abbrev pub elem_visit : List ℕ → List ℕ → ℕ → List PieceData
elem_visit path name i = id_pieces path ++ lit (codes ", ") ∷ form name ∷ lit (codes ", ") ∷ num i ∷ []

abbrev pub count_facts : ℕ → List ℕ → List ℕ → ℕ → List FactData
count_facts n path name count =
    plain n path (of_prop name (lit (codes "_LEN") ∷ [])) (num count ∷ [])
    ∷ walks n path (of_prop name (lit (codes "_FOREACH_PROP_ELEM") ∷ []))
    (map (elem_visit path name) (range_with_len 0 count))

-- how many elements are counted
abbrev pub counted : PropData → Option ℕ
counted p = if is_uncounted p.name then None else elem_count p.ty p.val

-- the definitions of a property that makes some: its value with its choice, its elements, their number with the walks
-- over them, and that the property is there
abbrev pub shown_facts : List NodeData → ℕ → List ℕ → PropData → List FactData
shown_facts nodes n path p =
    there (option_map (λ body. plain n path (of_prop p.name []) body) (value_body nodes p.val))
    ++ (option_map_or (choice_lines n path (of_prop p.name [])) (choice_of p.choices p.val) []
    ++ (elem_facts nodes n path p
    ++ (option_map_or (count_facts n path p.name) (counted p) []
    ++ plain n path (of_prop p.name (lit (codes "_EXISTS") ∷ [])) yes ∷ [])))

abbrev pub prop_facts : List NodeData → ℕ → List ℕ → PropData → List FactData
prop_facts nodes n path p = if is_shown p then shown_facts nodes n path p else []

-- all definitions of a node
abbrev pub node_facts : BoundData → ℕ → NodeData → BoundNodeData → List FactData
node_facts b n x y =
    path_facts b.tree.nodes n x
    ++ (child_facts b.tree.nodes n x
    ++ (order_facts n x.path (ords_at b.nodes n) y
    ++ (match_facts b.tree.nodes n x y
    ++ (entry_facts n x.path y
    ++ flat_map (prop_facts b.tree.nodes n x.path) y.props))))

-- Definitions of the tree

-- a word's node
abbrev pub link : List NodeData → List ℕ → List ℕ × ℕ → FactData
link nodes mark (word, id) = fact id (lit mark ∷ form word ∷ []) params.Plain (id_at nodes id)

abbrev pub label_facts : List NodeData → ℕ → NodeData → List FactData
label_facts nodes n x = map (λ label. link nodes (codes "DT_N_NODELABEL_") (label, n)) x.labels

abbrev pub chosen_facts : List NodeData → List ℕ × ℕ → List FactData
chosen_facts nodes (word, id) =
    link nodes (codes "DT_CHOSEN_") (word, id)
    ∷ fact id (lit (codes "DT_CHOSEN_") ∷ form word ∷ lit (codes "_EXISTS") ∷ []) params.Plain yes
    ∷ []

-- an instance by its number
abbrev pub place_fact : List NodeData → List ℕ → ℕ → ℕ → List FactData
place_fact nodes compat i id =
    fact id (lit (codes "DT_N_INST_") ∷ num i ∷ lit (codes "_") ∷ form compat ∷ []) params.Plain (id_at nodes id) ∷ []

-- the okay instances of a compatible string, which come first
abbrev pub okay_facts : List NodeData → ℕ → InstData → List FactData
okay_facts nodes first i =
    fact first (lit (codes "DT_COMPAT_HAS_OKAY_") ∷ form i.compat ∷ []) params.Plain yes
    ∷ fact first (lit (codes "DT_N_INST_") ∷ form i.compat ∷ lit (codes "_NUM_OKAY") ∷ []) params.Plain
    (num i.okay ∷ [])
    ∷ fact first (lit (codes "DT_FOREACH_OKAY_") ∷ form i.compat ∷ []) params.Fn
    (visits params.Fn (map (id_at nodes) (take i.okay i.nodes)))
    ∷ fact first (lit (codes "DT_FOREACH_OKAY_VARGS_") ∷ form i.compat ∷ []) params.FnVargs
    (visits params.FnVargs (map (id_at nodes) (take i.okay i.nodes)))
    ∷ fact first (lit (codes "DT_FOREACH_OKAY_INST_") ∷ form i.compat ∷ []) params.Fn (visits params.Fn (map
    (λ k. num k ∷ []) (range_with_len 0 i.okay)))
    ∷ []

abbrev pub inst_facts : List NodeData → InstData → List FactData
inst_facts nodes i =
    each (place_fact nodes i.compat) 0 i.nodes
    ++ (if nat_lt 0 i.okay then okay_facts nodes (unwrap_or (slice_get i.nodes 0) 0) i else [])

-- walks over all nodes
abbrev pub helper_facts : List NodeData → List FactData
helper_facts nodes =
    fact 0 (lit (codes "DT_FOREACH_HELPER") ∷ []) params.Fn
    (visits params.Fn (map (id_at nodes) (range_with_len 0 (length nodes))))
    ∷ fact 0 (lit (codes "DT_FOREACH_OKAY_HELPER") ∷ []) params.Fn
    (visits params.Fn (map (id_at nodes) (okay_of nodes (range_with_len 0 (length nodes)))))
    ∷ []

abbrev pub tree_facts : BoundData → List FactData
tree_facts b =
    map (link b.tree.nodes (codes "DT_N_ALIAS_")) b.tree.aliases
    ++ (each (label_facts b.tree.nodes) 0 b.tree.nodes
    ++ (flat_map (chosen_facts b.tree.nodes) b.tree.chosen
    ++ (flat_map (inst_facts b.tree.nodes) b.insts
    ++ helper_facts b.tree.nodes)))

-- definitions with a comment before the first
abbrev pub titled : List ℕ → List FactData → List FactData
titled heading [] = []
titled heading (f ∷ fs) = record f { heading = Some heading } ∷ fs

abbrev pub titled_node : BoundData → ℕ → NodeData → List FactData
titled_node b n x = option_map_or (λ y. titled x.path (node_facts b n x y)) (slice_get b.nodes n) []

-- all definitions, in order
abbrev pub facts : BoundData → List FactData
facts b = each (titled_node b) 0 b.tree.nodes ++ titled (codes "tree") (tree_facts b)
