-- The names of a node's definitions begin with the node's id, and those of the tree's with none.
use Rattle.std.proofs.Common.{◌≡◌, ℕ, List, [], ◌∷◌, ◌++◌, Option, Some, None, refl, inl, inr, codes, map, option_map, if◌then◌else◌}
use Rattle.std.specs.Prelude.{slice_get, nat_lt, unwrap_or}
use Rattle.std.specs.List.{flat_map}
use Rattle.std.specs.Option.{option_map_or}
use Rattle.std.proofs.lemmas.Bool.{cases_Bool}
use Rattle.edt_base.specs.BoundData.{BoundData}
use Rattle.edt_base.specs.BoundNodeData.{BoundNodeData, buses_on}
use Rattle.edt_base.specs.EntryData.{EntryData}
use Rattle.edt_base.specs.InstData.{InstData}
use Rattle.edt_base.specs.Ords.{OrdsData, ords_at}
use Rattle.edt_base.specs.NodeData.{NodeData}
use Rattle.edt_base.specs.PropData.{PropData}
use Rattle.edt_base.specs.declared.bound.Range.{Range}
use Rattle.edt_base.specs.declared.bound.Reg.{Reg}
use Rattle.dt_names.specs.Facts.{FactData, each, there, id_pieces, id_at, plain, path_facts, child_rows, child_facts, order_facts, marked, match_facts, reg_lines, reg_facts, range_facts, cell_facts, irq_lines, irq_facts, entry_facts, of_prop, choice_lines, at_index, item_rows, item_facts, pha_lines, pha_facts, Element, an_item, a_node, an_entry, elem_lines, elem_choices, elements, counted, value_body, choice_of, child_place, count_facts, shown_facts, prop_facts, is_shown, link, label_facts, chosen_facts, place_fact, okay_facts, inst_facts, tree_facts, titled}
use Rattle.dt_names.specs.Pieces.{PieceData, lit, form, num}
use Rattle.dt_names.specs.Inner.Sections.{AreBased, head_facts, head_section, tree_section}
use Rattle.dt_names.proofs.Table.{Hold, both_hold, each_hold, flat_hold, map_hold, there_hold, maybe_hold}

abbrev pub IsBased : List PieceData → FactData → Type 0
IsBased base f = f.base ≡ base

held : (base : List PieceData) (fs : List FactData) → Hold (IsBased base) fs → AreBased base fs
held base [] h = tt
held base (f ∷ fs) h = (h.0, held base fs h.1)

titled_held : (base : List PieceData) (heading : List ℕ) (fs : List FactData) → Hold (IsBased base) fs → AreBased base (titled heading fs)
titled_held base heading [] h = tt
titled_held base heading (f ∷ fs) h = (h.0, held base fs h.1)

-- ---- before the properties

path_held : (nodes : List NodeData) (n : ℕ) (x : NodeData) → Hold (IsBased (id_pieces x.path)) (path_facts nodes n x)
path_held nodes n x =
    let P = IsBased (id_pieces x.path) in
    let parent = λ (up : ℕ). plain n x.path (lit (codes "_PARENT") ∷ []) (id_at nodes up) in
    let place = λ (up : ℕ). plain n x.path (lit (codes "_CHILD_IDX") ∷ []) (num (child_place nodes up n) ∷ []) in (
      refl,
      (
        refl,
        both_hold P (there (option_map parent x.parent)) (there (option_map place x.parent))
            (there_hold P parent (λ up. refl) x.parent) (there_hold P place (λ up. refl) x.parent),
      ),
    )

child_held : (nodes : List NodeData) (n : ℕ) (path : List ℕ) (children : List ℕ) → Hold (IsBased (id_pieces path)) (child_rows nodes n path children)
child_held nodes n path children = (refl, (refl, (refl, (refl, (refl, (refl, (refl, (refl, tt))))))))

order_held : (n : ℕ) (path : List ℕ) (ords : OrdsData) (y : BoundNodeData) → Hold (IsBased (id_pieces path)) (order_facts n path ords y)
order_held n path ords y = (refl, (refl, (refl, (refl, tt))))

match_held : (nodes : List NodeData) (n : ℕ) (x : NodeData) (y : BoundNodeData) → Hold (IsBased (id_pieces x.path)) (match_facts nodes n x y)
match_held nodes n x y =
    let P = IsBased (id_pieces x.path) in
    let compat = marked n x.path (codes "_COMPAT_MATCHES_") in
    let bus = λ (up : ℕ). plain n x.path (lit (codes "_BUS") ∷ []) (id_at nodes up) in
    let buses = marked n x.path (codes "_BUS_") in (
      refl,
      both_hold P (map compat x.compats) _ (map_hold P compat (λ c. refl) x.compats)
          (both_hold P (there (option_map bus y.bus)) (map buses (buses_on y.bus y.buses)) (there_hold P bus (λ up. refl) y.bus)
          (map_hold P buses (λ b. refl) (buses_on y.bus y.buses))),
    )

reg_lines_held : (n : ℕ) (path : List ℕ) (at : List PieceData) (r : Reg) → Hold (IsBased (id_pieces path)) (reg_lines n path at r)
reg_lines_held n path at r =
    let P = IsBased (id_pieces path) in
    let addr = λ (a : ℕ). plain n path (at ++ lit (codes "_VAL_ADDRESS") ∷ []) (num a ∷ []) in
    let size = λ (s : ℕ). plain n path (at ++ lit (codes "_VAL_SIZE") ∷ []) (num s ∷ []) in
    (refl, both_hold P (there (option_map addr r.addr)) (there (option_map size r.size)) (there_hold P addr (λ a. refl) r.addr) (there_hold P size (λ s. refl) r.size))

reg_held : (n : ℕ) (path : List ℕ) (i : ℕ) (r : Reg) → Hold (IsBased (id_pieces path)) (reg_facts n path i r)
reg_held n path i r =
    let P = IsBased (id_pieces path) in
    let named = λ (m : List ℕ). reg_lines n path (lit (codes "_REG_NAME_") ∷ form m ∷ []) r in
    both_hold P (reg_lines n path (lit (codes "_REG_IDX_") ∷ num i ∷ []) r) (option_map_or named r.name [])
    (reg_lines_held n path (lit (codes "_REG_IDX_") ∷ num i ∷ []) r)
    (maybe_hold P named (λ m. reg_lines_held n path (lit (codes "_REG_NAME_") ∷ form m ∷ []) r) r.name)

range_held : (n : ℕ) (path : List ℕ) (i : ℕ) (r : Range) → Hold (IsBased (id_pieces path)) (range_facts n path i r)
range_held n path i r = (refl, (refl, (refl, (refl, tt))))

cell_held : (n : ℕ) (path : List ℕ) (at : List PieceData) (c : List ℕ × ℕ) → Hold (IsBased (id_pieces path)) (cell_facts n path at c)
cell_held n path at (c, v) = (refl, (refl, tt))

irq_lines_held : (n : ℕ) (path : List ℕ) (at : List PieceData) (e : EntryData) → Hold (IsBased (id_pieces path)) (irq_lines n path at e)
irq_lines_held n path at e = (refl, flat_hold (IsBased (id_pieces path)) (cell_facts n path at) (cell_held n path at) e.cells)

irq_held : (n : ℕ) (path : List ℕ) (i : ℕ) (e : EntryData) → Hold (IsBased (id_pieces path)) (irq_facts n path i e)
irq_held n path i e =
    let P = IsBased (id_pieces path) in
    let named = λ (m : List ℕ). irq_lines n path (lit (codes "_IRQ_NAME_") ∷ form m ∷ []) e in
    both_hold P (irq_lines n path (lit (codes "_IRQ_IDX_") ∷ num i ∷ []) e) (option_map_or named e.name [])
    (irq_lines_held n path (lit (codes "_IRQ_IDX_") ∷ num i ∷ []) e)
    (maybe_hold P named (λ m. irq_lines_held n path (lit (codes "_IRQ_NAME_") ∷ form m ∷ []) e) e.name)

entries_held : (n : ℕ) (path : List ℕ) (y : BoundNodeData) → Hold (IsBased (id_pieces path)) (entry_facts n path y)
entries_held n path y =
    let P = IsBased (id_pieces path) in (
      refl,
      both_hold P (each (reg_facts n path) 0 y.regs) _ (each_hold P (reg_facts n path) (reg_held n path) 0 y.regs) (
        refl,
        both_hold P (each (range_facts n path) 0 y.ranges) _ (each_hold P (range_facts n path) (range_held n path) 0 y.ranges)
            (refl, each_hold P (irq_facts n path) (irq_held n path) 0 y.irqs),
      ),
    )

head_held : (b : BoundData) (n : ℕ) (x : NodeData) (y : BoundNodeData) → Hold (IsBased (id_pieces x.path)) (head_facts b n x y)
head_held b n x y =
    let P = IsBased (id_pieces x.path) in
    let nodes = b.tree.nodes in
    let entries = entry_facts n x.path y in
    let matches = match_facts nodes n x y ++ entries in
    let orders = order_facts n x.path (ords_at b.nodes n) y ++ matches in
    both_hold P (path_facts nodes n x) (child_facts nodes n x ++ orders) (path_held nodes n x)
    (both_hold P (child_facts nodes n x) orders (child_held nodes n x.path x.children)
    (both_hold P (order_facts n x.path (ords_at b.nodes n) y) matches (order_held n x.path (ords_at b.nodes n) y)
    (both_hold P (match_facts nodes n x y) entries (match_held nodes n x y) (entries_held n x.path y))))

maybe_based : (base : List PieceData) {A : Type 0} (f : A → List FactData) → ((x : A) → AreBased base (f x)) → (o : Option A) → AreBased base (option_map_or f o [])
maybe_based base f h None = tt
maybe_based base f h (Some x) = h x

pub head_based : (b : BoundData) (n : ℕ) (x : NodeData) → AreBased (id_pieces x.path) (head_section b n x)
head_based b n x =
    maybe_based (id_pieces x.path) (λ (y : BoundNodeData). titled x.path (head_facts b n x y))
    (λ y. titled_held (id_pieces x.path) x.path (head_facts b n x y) (head_held b n x y)) (slice_get b.nodes n)

-- ---- on a property

choice_held : (n : ℕ) (path : List ℕ) (at : List PieceData) (c : ℕ × List ℕ) → Hold (IsBased (id_pieces path)) (choice_lines n path at c)
choice_held n path at (place, value) = (refl, (refl, tt))

item_held : (n : ℕ) (path name : List ℕ) (choices : List (ℕ × List ℕ)) (i : ℕ) (item : PieceData) → Hold (IsBased (id_pieces path)) (item_facts n path name choices i item)
item_held n path name choices i item =
    let P = IsBased (id_pieces path) in
    both_hold P (item_rows n path (at_index name i) item) (option_map_or (choice_lines n path (at_index name i)) (slice_get choices i) []) (refl, (refl, tt))
    (maybe_hold P (choice_lines n path (at_index name i)) (choice_held n path (at_index name i)) (slice_get choices i))

lines_held : (nodes : List NodeData) (n : ℕ) (path : List ℕ) (at : List PieceData) (e : EntryData) → Hold (IsBased (id_pieces path)) (pha_lines nodes n path at e)
lines_held nodes n path at e = (refl, (refl, flat_hold (IsBased (id_pieces path)) (cell_facts n path at) (cell_held n path at) e.cells))

entry_held : (nodes : List NodeData) (n : ℕ) (path name : List ℕ) (i : ℕ) (e : Option EntryData) → Hold (IsBased (id_pieces path)) (pha_facts nodes n path name i e)
entry_held nodes n path name i None = (refl, tt)
entry_held nodes n path name i (Some e) =
    let P = IsBased (id_pieces path) in
    let named = λ (m : List ℕ). pha_lines nodes n path (of_prop name (lit (codes "_NAME_") ∷ form m ∷ [])) e in
    both_hold P (pha_lines nodes n path (at_index name i) e) (option_map_or named e.name []) (lines_held nodes n path (at_index name i) e)
    (maybe_hold P named (λ m. lines_held nodes n path (of_prop name (lit (codes "_NAME_") ∷ form m ∷ [])) e) e.name)

element_held : (nodes : List NodeData) (n : ℕ) (path name : List ℕ) (choices : List (ℕ × List ℕ)) (i : ℕ) (e : Element) → Hold (IsBased (id_pieces path)) (elem_lines nodes n path name choices i e)
element_held nodes n path name choices i (an_item item) = item_held n path name choices i item
element_held nodes n path name choices i (a_node id) = (refl, (refl, (refl, tt)))
element_held nodes n path name choices i (an_entry e) = entry_held nodes n path name i e

count_held : (n : ℕ) (path name : List ℕ) (count : ℕ) → Hold (IsBased (id_pieces path)) (count_facts n path name count)
count_held n path name count = (refl, (refl, (refl, (refl, tt))))

shown_held : (nodes : List NodeData) (n : ℕ) (path : List ℕ) (p : PropData) → Hold (IsBased (id_pieces path)) (shown_facts nodes n path p)
shown_held nodes n path p =
    let P = IsBased (id_pieces path) in
    let value = λ (body : List PieceData). plain n path (of_prop p.name []) body in
    let choice = choice_lines n path (of_prop p.name []) in
    let element = elem_lines nodes n path p.name (elem_choices p.choices p.val) in
    both_hold P (there (option_map value (value_body nodes p.val))) _ (there_hold P value (λ body. refl) (value_body nodes p.val))
    (both_hold P (option_map_or choice (choice_of p.choices p.val) []) _ (maybe_hold P choice (choice_held n path (of_prop p.name [])) (choice_of p.choices p.val))
    (both_hold P (each element 0 (elements p.ty p.val)) _ (each_hold P element (element_held nodes n path p.name (elem_choices p.choices p.val)) 0 (elements p.ty p.val))
    (both_hold P (option_map_or (count_facts n path p.name) (counted p) []) _ (maybe_hold P (count_facts n path p.name) (count_held n path p.name) (counted p)) (refl, tt))))

pub prop_based : (nodes : List NodeData) (n : ℕ) (path : List ℕ) (p : PropData) → AreBased (id_pieces path) (prop_facts nodes n path p)
prop_based nodes n path p = elim (cases_Bool (is_shown p)) [ inl e ↦ rw e (held (id_pieces path) (shown_facts nodes n path p) (shown_held nodes n path p)) | inr e ↦ rw e tt ]

-- ---- of the tree

chosen_held : (nodes : List NodeData) (c : List ℕ × ℕ) → Hold (IsBased []) (chosen_facts nodes c)
chosen_held nodes (w, id) = (refl, (refl, tt))

link_held : (nodes : List NodeData) (mark : List ℕ) (a : List ℕ × ℕ) → IsBased [] (link nodes mark a)
link_held nodes mark (w, id) = refl

labels_held : (nodes : List NodeData) (n : ℕ) (x : NodeData) → Hold (IsBased []) (label_facts nodes n x)
labels_held nodes n x = map_hold (IsBased []) (λ label. link nodes (codes "DT_N_NODELABEL_") (label, n)) (λ label. refl) x.labels

okay_held : (nodes : List NodeData) (first : ℕ) (i : InstData) → Hold (IsBased []) (okay_facts nodes first i)
okay_held nodes first i = (refl, (refl, (refl, (refl, (refl, tt)))))

inst_held : (nodes : List NodeData) (i : InstData) → Hold (IsBased []) (inst_facts nodes i)
inst_held nodes i =
    let okay : Hold (IsBased []) (if nat_lt 0 i.okay then okay_facts nodes (unwrap_or (slice_get i.nodes 0) 0) i else []) =
    elim (cases_Bool (nat_lt 0 i.okay)) [ inl e ↦ rw e (okay_held nodes (unwrap_or (slice_get i.nodes 0) 0) i) | inr e ↦ rw e tt ] in
    both_hold (IsBased []) (each (place_fact nodes i.compat) 0 i.nodes) _ (each_hold (IsBased []) (place_fact nodes i.compat) (λ k id. (refl, tt)) 0 i.nodes) okay

tree_held : (b : BoundData) → Hold (IsBased []) (tree_facts b)
tree_held b =
    let P = IsBased [] in
    let nodes = b.tree.nodes in
    both_hold P (map (link nodes (codes "DT_N_ALIAS_")) b.tree.aliases) _ (map_hold P (link nodes (codes "DT_N_ALIAS_")) (link_held nodes (codes "DT_N_ALIAS_")) b.tree.aliases)
    (both_hold P (each (label_facts nodes) 0 nodes) _ (each_hold P (label_facts nodes) (labels_held nodes) 0 nodes)
    (both_hold P (flat_map (chosen_facts nodes) b.tree.chosen) _ (flat_hold P (chosen_facts nodes) (chosen_held nodes) b.tree.chosen)
    (both_hold P (flat_map (inst_facts nodes) b.insts) _ (flat_hold P (inst_facts nodes) (inst_held nodes) b.insts) (refl, (refl, tt)))))

pub tree_based : (b : BoundData) → AreBased [] (tree_section b)
tree_based b = titled_held [] (codes "tree") (tree_facts b) (tree_held b)
