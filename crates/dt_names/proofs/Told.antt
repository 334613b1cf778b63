-- Each definition's name is told by its spelling, and its parts give its four texts.
use Rattle.std.proofs.Common.{◌≡◌, ℕ, Bool, true, false, not, List, [], ◌∷◌, ◌++◌, ◌&&◌, Option, Some, None, length, map, refl, sym, ap, ◌∙◌, inl, inr, codes, if◌then◌else◌, option_map}
use Rattle.std.specs.Prelude.{slice_get, nat_lt, unwrap_or}
use Rattle.std.specs.List.{flat_map, All, Contains, range_with_len}
use Rattle.std.specs.Option.{option_map_or}
use Rattle.std.specs.Str.{bytes_eq}
use Rattle.std.proofs.lemmas.Bool.{cases_Bool, and_parts}
use Rattle.std.proofs.lemmas.List.Elements.{All-nil, All-cons, All-contains}
use Rattle.edt_base.specs.BoundData.{BoundData}
use Rattle.edt_base.specs.BoundNodeData.{BoundNodeData}
use Rattle.edt_base.specs.EntryData.{EntryData}
use Rattle.edt_base.specs.InstData.{InstData}
use Rattle.edt_base.specs.Ords.{OrdsData, ords_at}
use Rattle.edt_base.specs.NodeData.{NodeData}
use Rattle.edt_base.specs.PropData.{PropData}
use Rattle.edt_base.specs.declared.bound.Range.{Range}
use Rattle.edt_base.specs.declared.bound.Reg.{Reg}
use Rattle.dt_names.specs.Facts.{FactData, each, there, id_at, plain, walks, path_facts, child_rows, child_facts, order_facts, match_facts, reg_lines, reg_facts, range_facts, cell_facts, irq_lines, irq_facts, entry_facts, of_prop, choice_lines, at_index, item_rows, item_facts, node_lines, pha_lines, pha_facts, Element, an_item, a_node, an_entry, elem_lines, elem_choices, elements, counted, value_body, choice_of, elem_visit, yes, count_facts, shown_facts, prop_facts, is_shown, node_facts, link, label_facts, chosen_facts, place_fact, okay_facts, inst_facts, helper_facts, tree_facts, titled, titled_node, facts, full_name}
use Rattle.edt_base.specs.Nodes.{okay_of}
use Rattle.dt_names.specs.Names.{name_parts, NamesAreTold}
use Rattle.dt_names.specs.Pieces.{PieceData, lit, form, num}
use Rattle.dt_names.proofs.Cut.{IsCut, is_own, is_paired, follows_id, cut_node, cut_tree}
use Rattle.dt_names.proofs.Spelling.{within, behind, is_good, is_instance, told, IsTold, told_marked, told_instance}
use Rattle.dt_names.proofs.Table.{Hold, both_hold, each_hold, flat_hold, map_hold, there_hold, maybe_hold}

-- a definition's name is told by its spelling, and its parts give its texts
abbrev HasTexts : FactData → Type 0
HasTexts f = IsCut f.base f.rest

abbrev HaveTexts : List FactData → Type 0
HaveTexts fs = Hold HasTexts fs

titled_told : (heading : List ℕ) (fs : List FactData) → HaveTexts fs → HaveTexts (titled heading fs)
titled_told heading [] h = tt
titled_told heading (f ∷ fs) h = h

-- what may stand behind a word or number of a name
abbrev is_tail : List PieceData → Bool
is_tail rest = is_good behind rest && is_paired rest

-- a marker and a word or number behind an id, where nothing else is behind them and where something is
more_form : (m w : List ℕ) (rest : List PieceData) → follows_id (lit m ∷ form w ∷ []) ≡ true → is_tail rest ≡ true → follows_id (lit m ∷ form w ∷ rest) ≡ true
more_form m w rest h g =
    let p : (is_good behind rest ≡ true) × (is_paired rest ≡ true) = and_parts _ _ g in
    elim (cases_Bool (bytes_eq m (codes "_P_"))) [ inl e ↦ rw (p.0, e, p.1) (rw e at h) | inr e ↦ rw (p.0, e) (rw e at h) ]

more_num : (m : List ℕ) (i : ℕ) (rest : List PieceData) → follows_id (lit m ∷ num i ∷ []) ≡ true → is_tail rest ≡ true → follows_id (lit m ∷ num i ∷ rest) ≡ true
more_num m i rest h g = let p : (is_good behind rest ≡ true) × (is_paired rest ≡ true) = and_parts _ _ g in rw p.0 h

-- a name of the tree that is no instance
cut_mark : (t : List ℕ) (ps : List PieceData) → is_own (lit t ∷ ps) ≡ true → (is_good within (lit t ∷ ps) && not (is_instance (name_parts (lit t ∷ ps)))) ≡ true → IsCut [] (lit t ∷ ps)
cut_mark t ps own h = cut_tree t ps own (told_marked t ps h)

-- ---- the table

walks_told : (n : ℕ) (path : List ℕ) (after : List PieceData) (things : List (List PieceData)) → follows_id after ≡ true
    → follows_id (after ++ lit (codes "_SEP") ∷ []) ≡ true → follows_id (after ++ lit (codes "_VARGS") ∷ []) ≡ true → HaveTexts (walks n path after things)
walks_told n path after things a b c = (cut_node path _ a, (cut_node path _ b, (cut_node path _ c, tt)))

path_told : (nodes : List NodeData) (n : ℕ) (x : NodeData) → HaveTexts (path_facts nodes n x)
path_told nodes n x = (
  cut_node x.path _ refl,
  (
    cut_node x.path _ refl,
    both_hold HasTexts _ _ (there_hold HasTexts _ (λ up. cut_node x.path _ refl) x.parent) (there_hold HasTexts _ (λ up. cut_node x.path _ refl) x.parent),
  ),
)

child_told : (nodes : List NodeData) (n : ℕ) (path : List ℕ) (children : List ℕ) → HaveTexts (child_rows nodes n path children)
child_told nodes n path children = (
  cut_node path _ refl,
  (
    cut_node path _ refl,
    let all = map (id_at nodes) children in
        let okay = map (id_at nodes) (okay_of nodes children) in
        both_hold HasTexts (walks n path (lit (codes "_FOREACH_CHILD") ∷ []) all) (walks n path (lit (codes "_FOREACH_CHILD_STATUS_OKAY") ∷ []) okay)
        (walks_told n path (lit (codes "_FOREACH_CHILD") ∷ []) all refl refl refl)
        (walks_told n path (lit (codes "_FOREACH_CHILD_STATUS_OKAY") ∷ []) okay refl refl refl),
  ),
)

order_told : (n : ℕ) (path : List ℕ) (ords : OrdsData) (y : BoundNodeData) → HaveTexts (order_facts n path ords y)
order_told n path ords y = (cut_node path _ refl, (cut_node path _ refl, (cut_node path _ refl, (cut_node path _ refl, tt))))

match_told : (nodes : List NodeData) (n : ℕ) (x : NodeData) (y : BoundNodeData) → HaveTexts (match_facts nodes n x y)
match_told nodes n x y = (
  cut_node x.path _ refl,
  both_hold HasTexts _ _ (map_hold HasTexts _ (λ c. cut_node x.path _ refl) x.compats)
      (both_hold HasTexts _ _ (there_hold HasTexts _ (λ up. cut_node x.path _ refl) y.bus) (map_hold HasTexts _ (λ b. cut_node x.path _ refl) _)),
)

-- what may follow these pieces of a name may follow the id with them
abbrev pub IsAt : List PieceData → Type 0
IsAt at = (rest : List PieceData) → is_tail rest ≡ true → follows_id (at ++ rest) ≡ true

at_num : (m : List ℕ) (i : ℕ) → follows_id (lit m ∷ num i ∷ []) ≡ true → IsAt (lit m ∷ num i ∷ [])
at_num m i h rest g = more_num m i rest h g

at_form : (m w : List ℕ) → follows_id (lit m ∷ form w ∷ []) ≡ true → IsAt (lit m ∷ form w ∷ [])
at_form m w h rest g = more_form m w rest h g

reg_lines_told : (n : ℕ) (path : List ℕ) (at : List PieceData) (r : Reg) → IsAt at → HaveTexts (reg_lines n path at r)
reg_lines_told n path at r h = (
  cut_node path _ (h _ refl),
  both_hold HasTexts _ _ (there_hold HasTexts _ (λ a. cut_node path _ (h _ refl)) r.addr) (there_hold HasTexts _ (λ s. cut_node path _ (h _ refl)) r.size),
)

reg_told : (n : ℕ) (path : List ℕ) (i : ℕ) (r : Reg) → HaveTexts (reg_facts n path i r)
reg_told n path i r =
    let named = λ (m : List ℕ). reg_lines n path (lit (codes "_REG_NAME_") ∷ form m ∷ []) r in
    both_hold HasTexts (reg_lines n path (lit (codes "_REG_IDX_") ∷ num i ∷ []) r) (option_map_or named r.name [])
    (reg_lines_told n path (lit (codes "_REG_IDX_") ∷ num i ∷ []) r (at_num (codes "_REG_IDX_") i refl))
    (maybe_hold HasTexts named (λ m. reg_lines_told n path (lit (codes "_REG_NAME_") ∷ form m ∷ []) r (at_form (codes "_REG_NAME_") m refl)) r.name)

range_told : (n : ℕ) (path : List ℕ) (i : ℕ) (r : Range) → HaveTexts (range_facts n path i r)
range_told n path i r = (cut_node path _ refl, (cut_node path _ refl, (cut_node path _ refl, (cut_node path _ refl, tt))))

cell_told : (n : ℕ) (path : List ℕ) (at : List PieceData) → IsAt at → (c : List ℕ × ℕ) → HaveTexts (cell_facts n path at c)
cell_told n path at h (c, v) = (cut_node path _ (h _ refl), (cut_node path _ (h _ refl), tt))

irq_lines_told : (n : ℕ) (path : List ℕ) (at : List PieceData) (e : EntryData) → IsAt at → HaveTexts (irq_lines n path at e)
irq_lines_told n path at e h = (cut_node path (at ++ lit (codes "_EXISTS") ∷ []) (h (lit (codes "_EXISTS") ∷ []) refl), flat_hold HasTexts (cell_facts n path at) (cell_told n path at h) e.cells)

irq_told : (n : ℕ) (path : List ℕ) (i : ℕ) (e : EntryData) → HaveTexts (irq_facts n path i e)
irq_told n path i e =
    let named = λ (m : List ℕ). irq_lines n path (lit (codes "_IRQ_NAME_") ∷ form m ∷ []) e in
    both_hold HasTexts (irq_lines n path (lit (codes "_IRQ_IDX_") ∷ num i ∷ []) e) (option_map_or named e.name [])
    (irq_lines_told n path (lit (codes "_IRQ_IDX_") ∷ num i ∷ []) e (at_num (codes "_IRQ_IDX_") i refl))
    (maybe_hold HasTexts named (λ m. irq_lines_told n path (lit (codes "_IRQ_NAME_") ∷ form m ∷ []) e (at_form (codes "_IRQ_NAME_") m refl)) e.name)

entries_told : (n : ℕ) (path : List ℕ) (y : BoundNodeData) → HaveTexts (entry_facts n path y)
entries_told n path y =
    let irqs : HaveTexts (plain n path (lit (codes "_IRQ_NUM") ∷ []) (num (length y.irqs) ∷ []) ∷ each (irq_facts n path) 0 y.irqs) =
    (cut_node path (lit (codes "_IRQ_NUM") ∷ []) refl, each_hold HasTexts (irq_facts n path) (irq_told n path) 0 y.irqs) in
    let ranges : HaveTexts (plain n path (lit (codes "_RANGES_NUM") ∷ []) (num (length y.ranges) ∷ []) ∷ (each (range_facts n path) 0 y.ranges
    ++ (plain n path (lit (codes "_IRQ_NUM") ∷ []) (num (length y.irqs) ∷ []) ∷ each (irq_facts n path) 0 y.irqs))) =
    (cut_node path (lit (codes "_RANGES_NUM") ∷ []) refl, both_hold HasTexts (each (range_facts n path) 0 y.ranges) _ (each_hold HasTexts (range_facts n path) (range_told n path) 0 y.ranges) irqs) in
    (cut_node path (lit (codes "_REG_NUM") ∷ []) refl, both_hold HasTexts (each (reg_facts n path) 0 y.regs) _ (each_hold HasTexts (reg_facts n path) (reg_told n path) 0 y.regs) ranges)

-- behind a property
good_pair : (b c : Bool) → (b && c) ≡ true → (b && true) ≡ true
good_pair true c h = refl
good_pair false c h = absurd (cc)

at_prop : (name : List ℕ) (after : List PieceData) → ((rest : List PieceData) → is_tail rest ≡ true → is_tail (after ++ rest) ≡ true) → IsAt (of_prop name after)
at_prop name after h rest g = more_form (codes "_P_") name (after ++ rest) refl (h rest g)

at_elem : (name : List ℕ) (i : ℕ) → IsAt (at_index name i)
at_elem name i = at_prop name (lit (codes "_IDX_") ∷ num i ∷ []) (λ rest g. good_pair _ _ g)

at_name : (name m : List ℕ) → IsAt (of_prop name (lit (codes "_NAME_") ∷ form m ∷ []))
at_name name m = at_prop name (lit (codes "_NAME_") ∷ form m ∷ []) (λ rest g. good_pair _ _ g)

at_whole : (name : List ℕ) → IsAt (of_prop name [])
at_whole name = at_prop name [] (λ rest g. g)

choice_told : (n : ℕ) (path : List ℕ) (at : List PieceData) → IsAt at → (c : ℕ × List ℕ) → HaveTexts (choice_lines n path at c)
choice_told n path at h (place, value) = (cut_node path _ (h _ refl), (cut_node path _ (h _ refl), tt))

item_told : (n : ℕ) (path name : List ℕ) (choices : List (ℕ × List ℕ)) (i : ℕ) (item : PieceData) → HaveTexts (item_facts n path name choices i item)
item_told n path name choices i item =
    let rows : HaveTexts (item_rows n path (at_index name i) item) = (
      cut_node path (at_index name i ++ []) (at_elem name i [] refl),
      (cut_node path (at_index name i ++ lit (codes "_EXISTS") ∷ []) (at_elem name i (lit (codes "_EXISTS") ∷ []) refl), tt),
    ) in
    both_hold HasTexts (item_rows n path (at_index name i) item) (option_map_or (choice_lines n path (at_index name i)) (slice_get choices i) []) rows
    (maybe_hold HasTexts (choice_lines n path (at_index name i)) (choice_told n path (at_index name i) (at_elem name i)) (slice_get choices i))

node_told : (nodes : List NodeData) (n : ℕ) (path name : List ℕ) (i id : ℕ) → HaveTexts (node_lines nodes n path name i id)
node_told nodes n path name i id = (
  cut_node path (at_index name i ++ []) (at_elem name i [] refl),
  (
    cut_node path (at_index name i ++ lit (codes "_PH") ∷ []) (at_elem name i (lit (codes "_PH") ∷ []) refl),
    (cut_node path (at_index name i ++ lit (codes "_EXISTS") ∷ []) (at_elem name i (lit (codes "_EXISTS") ∷ []) refl), tt),
  ),
)

pha_lines_told : (nodes : List NodeData) (n : ℕ) (path : List ℕ) (at : List PieceData) (e : EntryData) → IsAt at → HaveTexts (pha_lines nodes n path at e)
pha_lines_told nodes n path at e h = (
  cut_node path (at ++ lit (codes "_EXISTS") ∷ []) (h (lit (codes "_EXISTS") ∷ []) refl),
  (cut_node path (at ++ lit (codes "_PH") ∷ []) (h (lit (codes "_PH") ∷ []) refl), flat_hold HasTexts (cell_facts n path at) (cell_told n path at h) e.cells),
)

pha_told : (nodes : List NodeData) (n : ℕ) (path name : List ℕ) (i : ℕ) (e : Option EntryData) → HaveTexts (pha_facts nodes n path name i e)
pha_told nodes n path name i None = (cut_node path (at_index name i ++ lit (codes "_EXISTS") ∷ []) (at_elem name i (lit (codes "_EXISTS") ∷ []) refl), tt)
pha_told nodes n path name i (Some e) =
    let named = λ (m : List ℕ). pha_lines nodes n path (of_prop name (lit (codes "_NAME_") ∷ form m ∷ [])) e in
    both_hold HasTexts (pha_lines nodes n path (at_index name i) e) (option_map_or named e.name [])
    (pha_lines_told nodes n path (at_index name i) e (at_elem name i))
    (maybe_hold HasTexts named (λ m. pha_lines_told nodes n path (of_prop name (lit (codes "_NAME_") ∷ form m ∷ [])) e (at_name name m)) e.name)

elem_told : (nodes : List NodeData) (n : ℕ) (path name : List ℕ) (choices : List (ℕ × List ℕ)) (i : ℕ) (e : Element) → HaveTexts (elem_lines nodes n path name choices i e)
elem_told nodes n path name choices i (an_item item) = item_told n path name choices i item
elem_told nodes n path name choices i (a_node id) = node_told nodes n path name i id
elem_told nodes n path name choices i (an_entry e) = pha_told nodes n path name i e

count_told : (n : ℕ) (path name : List ℕ) (count : ℕ) → HaveTexts (count_facts n path name count)
count_told n path name count = (
  cut_node path (of_prop name (lit (codes "_LEN") ∷ [])) refl,
  walks_told n path (of_prop name (lit (codes "_FOREACH_PROP_ELEM") ∷ [])) (map (elem_visit path name) (range_with_len 0 count)) refl refl refl,
)

shown_told : (nodes : List NodeData) (n : ℕ) (path : List ℕ) (p : PropData) → HaveTexts (shown_facts nodes n path p)
shown_told nodes n path p =
    let value = λ (body : List PieceData). plain n path (of_prop p.name []) body in
    let choice = choice_lines n path (of_prop p.name []) in
    let element = elem_lines nodes n path p.name (elem_choices p.choices p.val) in
    let last : HaveTexts (plain n path (of_prop p.name (lit (codes "_EXISTS") ∷ [])) yes ∷ []) = (cut_node path (of_prop p.name (lit (codes "_EXISTS") ∷ [])) refl, tt) in
    both_hold HasTexts (there (option_map value (value_body nodes p.val))) _
    (there_hold HasTexts value (λ body. cut_node path (of_prop p.name []) refl) (value_body nodes p.val))
    (both_hold HasTexts (option_map_or choice (choice_of p.choices p.val) []) _
    (maybe_hold HasTexts choice (choice_told n path (of_prop p.name []) (at_whole p.name)) (choice_of p.choices p.val))
    (both_hold HasTexts (each element 0 (elements p.ty p.val)) _
    (each_hold HasTexts element (elem_told nodes n path p.name (elem_choices p.choices p.val)) 0 (elements p.ty p.val))
    (both_hold HasTexts (option_map_or (count_facts n path p.name) (counted p) []) _ (maybe_hold HasTexts (count_facts n path p.name) (count_told n path p.name) (counted p)) last)))

prop_told : (nodes : List NodeData) (n : ℕ) (path : List ℕ) (p : PropData) → HaveTexts (prop_facts nodes n path p)
prop_told nodes n path p = elim (cases_Bool (is_shown p)) [ inl e ↦ rw e (shown_told nodes n path p) | inr e ↦ rw e tt ]

node_facts_told : (b : BoundData) (n : ℕ) (x : NodeData) (y : BoundNodeData) → HaveTexts (node_facts b n x y)
node_facts_told b n x y =
    let nodes = b.tree.nodes in
    let props = flat_map (prop_facts nodes n x.path) y.props in
    let entries = entry_facts n x.path y ++ props in
    let matches = match_facts nodes n x y ++ entries in
    let orders = order_facts n x.path (ords_at b.nodes n) y ++ matches in
    both_hold HasTexts (path_facts nodes n x) (child_facts nodes n x ++ orders) (path_told nodes n x)
    (both_hold HasTexts (child_facts nodes n x) orders (child_told nodes n x.path x.children)
    (both_hold HasTexts (order_facts n x.path (ords_at b.nodes n) y) matches (order_told n x.path (ords_at b.nodes n) y)
    (both_hold HasTexts (match_facts nodes n x y) entries (match_told nodes n x y)
    (both_hold HasTexts (entry_facts n x.path y) props (entries_told n x.path y) (flat_hold HasTexts (prop_facts nodes n x.path) (prop_told nodes n x.path) y.props)))))

chosen_told : (nodes : List NodeData) (c : List ℕ × ℕ) → HaveTexts (chosen_facts nodes c)
chosen_told nodes (w, id) = (cut_mark _ _ refl refl, (cut_mark _ _ refl refl, tt))

alias_told : (nodes : List NodeData) (a : List ℕ × ℕ) → HasTexts (link nodes (codes "DT_N_ALIAS_") a)
alias_told nodes (w, id) = cut_mark _ _ refl refl

labels_told : (nodes : List NodeData) (n : ℕ) (x : NodeData) → HaveTexts (label_facts nodes n x)
labels_told nodes n x = map_hold HasTexts (λ label. link nodes (codes "DT_N_NODELABEL_") (label, n)) (λ label. cut_mark _ _ refl refl) x.labels

okay_told : (nodes : List NodeData) (first : ℕ) (i : InstData) → HaveTexts (okay_facts nodes first i)
okay_told nodes first i = (cut_mark _ _ refl refl, (cut_mark _ _ refl refl, (cut_mark _ _ refl refl, (cut_mark _ _ refl refl, (cut_mark _ _ refl refl, tt)))))

inst_told : (nodes : List NodeData) (i : InstData) → HaveTexts (inst_facts nodes i)
inst_told nodes i =
    let okay : HaveTexts (if nat_lt 0 i.okay then okay_facts nodes (unwrap_or (slice_get i.nodes 0) 0) i else []) =
    elim (cases_Bool (nat_lt 0 i.okay)) [ inl e ↦ rw e (okay_told nodes (unwrap_or (slice_get i.nodes 0) 0) i) | inr e ↦ rw e tt ] in
    both_hold HasTexts (each (place_fact nodes i.compat) 0 i.nodes) _ (each_hold HasTexts (place_fact nodes i.compat) (λ k id. (cut_tree (codes "DT_N_INST_") (num k ∷ lit (codes "_") ∷ form i.compat ∷ []) refl (told_instance k i.compat), tt)) 0 i.nodes) okay

tree_told : (b : BoundData) → HaveTexts (tree_facts b)
tree_told b =
    let helpers : HaveTexts (helper_facts b.tree.nodes) = (cut_mark _ _ refl refl, (cut_mark _ _ refl refl, tt)) in
    both_hold HasTexts (map (link b.tree.nodes (codes "DT_N_ALIAS_")) b.tree.aliases) _ (map_hold HasTexts (link b.tree.nodes (codes "DT_N_ALIAS_")) (alias_told b.tree.nodes) b.tree.aliases)
    (both_hold HasTexts (each (label_facts b.tree.nodes) 0 b.tree.nodes) _ (each_hold HasTexts (label_facts b.tree.nodes) (labels_told b.tree.nodes) 0 b.tree.nodes)
    (both_hold HasTexts (flat_map (chosen_facts b.tree.nodes) b.tree.chosen) _ (flat_hold HasTexts (chosen_facts b.tree.nodes) (chosen_told b.tree.nodes) b.tree.chosen)
    (both_hold HasTexts (flat_map (inst_facts b.tree.nodes) b.insts) _ (flat_hold HasTexts (inst_facts b.tree.nodes) (inst_told b.tree.nodes) b.insts) helpers)))

titled_node_told : (b : BoundData) (n : ℕ) (x : NodeData) → HaveTexts (titled_node b n x)
titled_node_told b n x = maybe_hold HasTexts (λ (y : BoundNodeData). titled x.path (node_facts b n x y)) (λ y. titled_told x.path (node_facts b n x y) (node_facts_told b n x y)) (slice_get b.nodes n)

facts_told : (b : BoundData) → HaveTexts (facts b)
facts_told b = both_hold HasTexts (each (titled_node b) 0 b.tree.nodes) _ (each_hold HasTexts (titled_node b) (titled_node_told b) 0 b.tree.nodes) (titled_told (codes "tree") (tree_facts b) (tree_told b))

-- ---- the law

all_cut : (fs : List FactData) → HaveTexts fs → All HasTexts fs
all_cut [] h = All-nil HasTexts
all_cut (f ∷ fs) h = All-cons HasTexts f fs h.0 (all_cut fs h.1)

pub is_cut : (b : BoundData) (f : FactData) → Contains (facts b) f → IsCut f.base f.rest
is_cut b f h = All-contains HasTexts (facts b) f (all_cut (facts b) (facts_told b)) h

is_told : (b : BoundData) (f : FactData) → Contains (facts b) f → IsTold (full_name f)
is_told b f h = let c = is_cut b f h in c.0

pub names_told : NamesAreTold
names_told b c f g p q e = sym (is_told b f p) ∙ ap told e ∙ is_told c g q
