-- Each definition that goes on has the entry of the one before it: the definitions of cells stand behind one on their entry.
use Rattle.std.proofs.Common.{◌≡◌, ◌+◌, ℕ, false, List, [], ◌∷◌, ◌++◌, Option, Some, None, refl, sym, subst, inl, inr, codes, map, take, option_map, length, if◌then◌else◌}
use Rattle.std.specs.Prelude.{slice_get, nat_lt, unwrap_or}
use Rattle.std.specs.List.{flat_map}
use Rattle.std.specs.Option.{option_map_or}
use Rattle.std.proofs.lemmas.Bool.{cases_Bool}
use Rattle.edt_base.specs.BoundData.{BoundData}
use Rattle.edt_base.specs.BoundNodeData.{BoundNodeData, buses_on}
use Rattle.edt_base.specs.EntryData.{EntryData}
use Rattle.edt_base.specs.InstData.{InstData}
use Rattle.edt_base.specs.Ords.{ords_at}
use Rattle.edt_base.specs.NodeData.{NodeData}
use Rattle.edt_base.specs.PropData.{PropData}
use Rattle.edt_base.specs.declared.bound.Reg.{Reg}
use Rattle.dt_names.specs.Facts.{FactData, each, there, id_at, plain, path_facts, child_facts, order_facts, marked, match_facts, reg_lines, reg_facts, range_facts, cell_facts, irq_lines, irq_facts, entry_facts, of_prop, choice_lines, at_index, item_rows, item_facts, pha_lines, pha_facts, yes, Element, an_item, a_node, an_entry, node_lines, elem_lines, elem_choices, elements, counted, value_body, choice_of, child_place, count_facts, shown_facts, prop_facts, is_shown, link, label_facts, chosen_facts, place_fact, okay_facts, inst_facts, tree_facts, titled}
use Rattle.dt_names.specs.Inner.Keys.{GoOn, GoOnFrom, behind_prop, texts_of}
use Rattle.dt_names.specs.Pieces.{PieceData, lit, form, num, spells}
use Rattle.dt_names.specs.Inner.Sections.{head_facts, head_section, tree_section}
use Rattle.dt_names.proofs.Table.{Hold, both_hold, each_hold, flat_hold, map_hold, there_hold, maybe_hold}

-- ---- lists of definitions

-- a definition that doesn't go on, before others
begun : (f : FactData) (fs : List FactData) → f.goes_on ≡ false → GoOnFrom (texts_of f).entry fs → GoOn (f ∷ fs)
begun f fs begins more = λ e. (λ goes. absurd (cc), more)

first_goes : (f : FactData) (fs : List FactData) → f.goes_on ≡ false → GoOn fs → GoOn (f ∷ fs)
first_goes f fs begins h = begun f fs begins (h (texts_of f).entry)

behind : (e : List ℕ) (fs gs : List FactData) → GoOnFrom e fs → GoOn gs → GoOnFrom e (fs ++ gs)
behind e [] gs h k = k e
behind e (f ∷ fs) gs h k = (h.0, behind (texts_of f).entry fs gs h.1 k)

both_go : (fs gs : List FactData) → GoOn fs → GoOn gs → GoOn (fs ++ gs)
both_go fs gs h k = λ e. behind e fs gs (h e) k

each_go : {A : Type 0} (f : ℕ → A → List FactData) → ((n : ℕ) (x : A) → GoOn (f n x)) → (n : ℕ) (xs : List A) → GoOn (each f n xs)
each_go f h n [] = λ e. tt
each_go f h n (x ∷ xs) = both_go (f n x) (each f (n + 1) xs) (h n x) (each_go f h (n + 1) xs)

maybe_goes : {A : Type 0} (f : A → List FactData) → ((x : A) → GoOn (f x)) → (o : Option A) → GoOn (option_map_or f o [])
maybe_goes f h None = λ e. tt
maybe_goes f h (Some x) = h x

-- none of these goes on
abbrev Begins : FactData → Type 0
Begins f = f.goes_on ≡ false

beginners : (fs : List FactData) → Hold Begins fs → GoOn fs
beginners [] h = λ e. tt
beginners (f ∷ fs) h = begun f fs h.0 (beginners fs h.1 (texts_of f).entry)

-- all of these are on one entry
abbrev IsOn : List ℕ → FactData → Type 0
IsOn e f = (texts_of f).entry ≡ e

on_entry : (e : List ℕ) (fs : List FactData) → Hold (IsOn e) fs → GoOnFrom e fs
on_entry e [] h = tt
on_entry e (f ∷ fs) h = (λ yes. h.0, subst (λ x. GoOnFrom x fs) (sym h.0) (on_entry e fs h.1))

behind_one : (e : List ℕ) (f : FactData) (fs : List FactData) → IsOn e f → Hold (IsOn e) fs → GoOnFrom (texts_of f).entry fs
behind_one e f fs is h = subst (λ x. GoOnFrom x fs) (sym is) (on_entry e fs h)

titled_goes : (heading : List ℕ) (fs : List FactData) → GoOn fs → GoOn (titled heading fs)
titled_goes heading [] h = h
titled_goes heading (f ∷ fs) h = h

-- ---- entries

-- what tells the entry of a name that begins so, behind the id
abbrev Tells : List PieceData → List ℕ → Type 0
Tells at e = (rest : List PieceData) → spells (take 2 (behind_prop (at ++ rest))) ≡ e

cell_on : (n : ℕ) (path : List ℕ) (at : List PieceData) (e : List ℕ) → Tells at e → (c : List ℕ × ℕ) → Hold (IsOn e) (cell_facts n path at c)
cell_on n path at e h (c, v) = (h _, (h _, tt))

cells_on : (n : ℕ) (path : List ℕ) (at : List PieceData) (e : List ℕ) → Tells at e → (cells : List (List ℕ × ℕ)) → Hold (IsOn e) (flat_map (cell_facts n path at) cells)
cells_on n path at e h cells = flat_hold (IsOn e) (cell_facts n path at) (cell_on n path at e h) cells

irq_lines_go : (n : ℕ) (path : List ℕ) (at : List PieceData) (e : List ℕ) → Tells at e → (irq : EntryData) → GoOn (irq_lines n path at irq)
irq_lines_go n path at e h irq =
    let first = plain n path (at ++ lit (codes "_EXISTS") ∷ []) yes in
    let cells = flat_map (cell_facts n path at) irq.cells in
    begun first cells refl (behind_one e first cells (h (lit (codes "_EXISTS") ∷ [])) (cells_on n path at e h irq.cells))

irq_goes : (n : ℕ) (path : List ℕ) (i : ℕ) (irq : EntryData) → GoOn (irq_facts n path i irq)
irq_goes n path i irq =
    let named = λ (m : List ℕ). irq_lines n path (lit (codes "_IRQ_NAME_") ∷ form m ∷ []) irq in
    both_go (irq_lines n path (lit (codes "_IRQ_IDX_") ∷ num i ∷ []) irq) (option_map_or named irq.name [])
    (irq_lines_go n path (lit (codes "_IRQ_IDX_") ∷ num i ∷ []) _ (λ rest. refl) irq)
    (maybe_goes named (λ m. irq_lines_go n path (lit (codes "_IRQ_NAME_") ∷ form m ∷ []) _ (λ rest. refl) irq) irq.name)

pha_lines_go : (nodes : List NodeData) (n : ℕ) (path : List ℕ) (at : List PieceData) (e : List ℕ) → Tells at e → (x : EntryData) → GoOn (pha_lines nodes n path at x)
pha_lines_go nodes n path at e h x =
    let first = plain n path (at ++ lit (codes "_EXISTS") ∷ []) yes in
    let second = plain n path (at ++ lit (codes "_PH") ∷ []) (id_at nodes x.controller) in
    let cells = flat_map (cell_facts n path at) x.cells in
    let on : GoOnFrom (texts_of second).entry cells = behind_one e second cells (h (lit (codes "_PH") ∷ [])) (cells_on n path at e h x.cells) in
    begun first (second ∷ cells) refl (begun second cells refl on (texts_of first).entry)

pha_goes : (nodes : List NodeData) (n : ℕ) (path name : List ℕ) (i : ℕ) (x : Option EntryData) → GoOn (pha_facts nodes n path name i x)
pha_goes nodes n path name i None = begun (plain n path (at_index name i ++ lit (codes "_EXISTS") ∷ []) (num 0 ∷ [])) [] refl tt
pha_goes nodes n path name i (Some x) =
    let named = λ (m : List ℕ). pha_lines nodes n path (of_prop name (lit (codes "_NAME_") ∷ form m ∷ [])) x in
    both_go (pha_lines nodes n path (at_index name i) x) (option_map_or named x.name [])
    (pha_lines_go nodes n path (at_index name i) _ (λ rest. refl) x)
    (maybe_goes named (λ m. pha_lines_go nodes n path (of_prop name (lit (codes "_NAME_") ∷ form m ∷ [])) _ (λ rest. refl) x) x.name)

-- ---- before the properties

path_begin : (nodes : List NodeData) (n : ℕ) (x : NodeData) → Hold Begins (path_facts nodes n x)
path_begin nodes n x =
    let parent = λ (up : ℕ). plain n x.path (lit (codes "_PARENT") ∷ []) (id_at nodes up) in
    let place = λ (up : ℕ). plain n x.path (lit (codes "_CHILD_IDX") ∷ []) (num (child_place nodes up n) ∷ []) in (
      refl,
      (
        refl,
        both_hold Begins (there (option_map parent x.parent)) (there (option_map place x.parent))
            (there_hold Begins parent (λ up. refl) x.parent) (there_hold Begins place (λ up. refl) x.parent),
      ),
    )

match_begin : (nodes : List NodeData) (n : ℕ) (x : NodeData) (y : BoundNodeData) → Hold Begins (match_facts nodes n x y)
match_begin nodes n x y =
    let compat = marked n x.path (codes "_COMPAT_MATCHES_") in
    let bus = λ (up : ℕ). plain n x.path (lit (codes "_BUS") ∷ []) (id_at nodes up) in
    let buses = marked n x.path (codes "_BUS_") in (
      refl,
      both_hold Begins (map compat x.compats) _ (map_hold Begins compat (λ c. refl) x.compats)
          (both_hold Begins (there (option_map bus y.bus)) (map buses (buses_on y.bus y.buses)) (there_hold Begins bus (λ up. refl) y.bus)
          (map_hold Begins buses (λ b. refl) (buses_on y.bus y.buses))),
    )

reg_lines_begin : (n : ℕ) (path : List ℕ) (at : List PieceData) (r : Reg) → Hold Begins (reg_lines n path at r)
reg_lines_begin n path at r =
    let addr = λ (a : ℕ). plain n path (at ++ lit (codes "_VAL_ADDRESS") ∷ []) (num a ∷ []) in
    let size = λ (s : ℕ). plain n path (at ++ lit (codes "_VAL_SIZE") ∷ []) (num s ∷ []) in
    (refl, both_hold Begins (there (option_map addr r.addr)) (there (option_map size r.size)) (there_hold Begins addr (λ a. refl) r.addr) (there_hold Begins size (λ s. refl) r.size))

reg_begin : (n : ℕ) (path : List ℕ) (i : ℕ) (r : Reg) → Hold Begins (reg_facts n path i r)
reg_begin n path i r =
    let named = λ (m : List ℕ). reg_lines n path (lit (codes "_REG_NAME_") ∷ form m ∷ []) r in
    both_hold Begins (reg_lines n path (lit (codes "_REG_IDX_") ∷ num i ∷ []) r) (option_map_or named r.name [])
    (reg_lines_begin n path (lit (codes "_REG_IDX_") ∷ num i ∷ []) r)
    (maybe_hold Begins named (λ m. reg_lines_begin n path (lit (codes "_REG_NAME_") ∷ form m ∷ []) r) r.name)

entries_go : (n : ℕ) (path : List ℕ) (y : BoundNodeData) → GoOn (entry_facts n path y)
entries_go n path y =
    let regs = each (reg_facts n path) 0 y.regs in
    let ranges = each (range_facts n path) 0 y.ranges in
    let irqs = each (irq_facts n path) 0 y.irqs in
    let reg_num = plain n path (lit (codes "_REG_NUM") ∷ []) (num (length y.regs) ∷ []) in
    let range_num = plain n path (lit (codes "_RANGES_NUM") ∷ []) (num (length y.ranges) ∷ []) in
    let irq_num = plain n path (lit (codes "_IRQ_NUM") ∷ []) (num (length y.irqs) ∷ []) in
    first_goes reg_num _ refl (both_go regs _ (beginners regs (each_hold Begins (reg_facts n path) (reg_begin n path) 0 y.regs))
    (first_goes range_num _ refl (both_go ranges _ (beginners ranges (each_hold Begins (range_facts n path) (λ i r. (refl, (refl, (refl, (refl, tt))))) 0 y.ranges))
    (first_goes irq_num irqs refl (each_go (irq_facts n path) (irq_goes n path) 0 y.irqs)))))

head_goes : (b : BoundData) (n : ℕ) (x : NodeData) (y : BoundNodeData) → GoOn (head_facts b n x y)
head_goes b n x y =
    let nodes = b.tree.nodes in
    let entries = entry_facts n x.path y in
    let matches = match_facts nodes n x y ++ entries in
    let orders = order_facts n x.path (ords_at b.nodes n) y ++ matches in
    both_go (path_facts nodes n x) (child_facts nodes n x ++ orders) (beginners (path_facts nodes n x) (path_begin nodes n x))
    (both_go (child_facts nodes n x) orders (beginners (child_facts nodes n x) (refl, (refl, (refl, (refl, (refl, (refl, (refl, (refl, tt)))))))))
    (both_go (order_facts n x.path (ords_at b.nodes n) y) matches (beginners (order_facts n x.path (ords_at b.nodes n) y) (refl, (refl, (refl, (refl, tt)))))
    (both_go (match_facts nodes n x y) entries (beginners (match_facts nodes n x y) (match_begin nodes n x y)) (entries_go n x.path y))))

pub head_goes_on : (b : BoundData) (n : ℕ) (x : NodeData) → GoOn (head_section b n x)
head_goes_on b n x =
    maybe_goes (λ (y : BoundNodeData). titled x.path (head_facts b n x y)) (λ y. titled_goes x.path (head_facts b n x y) (head_goes b n x y)) (slice_get b.nodes n)

-- ---- on a property

choice_begin : (n : ℕ) (path : List ℕ) (at : List PieceData) (c : ℕ × List ℕ) → Hold Begins (choice_lines n path at c)
choice_begin n path at (place, value) = (refl, (refl, tt))

item_begin : (n : ℕ) (path name : List ℕ) (choices : List (ℕ × List ℕ)) (i : ℕ) (item : PieceData) → Hold Begins (item_facts n path name choices i item)
item_begin n path name choices i item =
    both_hold Begins (item_rows n path (at_index name i) item) (option_map_or (choice_lines n path (at_index name i)) (slice_get choices i) []) (refl, (refl, tt))
    (maybe_hold Begins (choice_lines n path (at_index name i)) (choice_begin n path (at_index name i)) (slice_get choices i))

element_goes : (nodes : List NodeData) (n : ℕ) (path name : List ℕ) (choices : List (ℕ × List ℕ)) (i : ℕ) (e : Element) → GoOn (elem_lines nodes n path name choices i e)
element_goes nodes n path name choices i (an_item item) = beginners (item_facts n path name choices i item) (item_begin n path name choices i item)
element_goes nodes n path name choices i (a_node id) = beginners (node_lines nodes n path name i id) (refl, (refl, (refl, tt)))
element_goes nodes n path name choices i (an_entry x) = pha_goes nodes n path name i x

count_begin : (n : ℕ) (path name : List ℕ) (count : ℕ) → Hold Begins (count_facts n path name count)
count_begin n path name count = (refl, (refl, (refl, (refl, tt))))

shown_goes : (nodes : List NodeData) (n : ℕ) (path : List ℕ) (p : PropData) → GoOn (shown_facts nodes n path p)
shown_goes nodes n path p =
    let value = λ (body : List PieceData). plain n path (of_prop p.name []) body in
    let choice = choice_lines n path (of_prop p.name []) in
    let element = elem_lines nodes n path p.name (elem_choices p.choices p.val) in
    let values = there (option_map value (value_body nodes p.val)) in
    let chosen = option_map_or choice (choice_of p.choices p.val) [] in
    let counts = option_map_or (count_facts n path p.name) (counted p) [] in
    both_go values _ (beginners values (there_hold Begins value (λ body. refl) (value_body nodes p.val)))
    (both_go chosen _ (beginners chosen (maybe_hold Begins choice (choice_begin n path (of_prop p.name [])) (choice_of p.choices p.val)))
    (both_go (each element 0 (elements p.ty p.val)) _ (each_go element (element_goes nodes n path p.name (elem_choices p.choices p.val)) 0 (elements p.ty p.val))
    (both_go counts _ (beginners counts (maybe_hold Begins (count_facts n path p.name) (count_begin n path p.name) (counted p))) (begun (plain n path (of_prop p.name (lit (codes "_EXISTS") ∷ [])) yes) [] refl tt))))

pub props_go_on : (nodes : List NodeData) (n : ℕ) (path : List ℕ) (p : PropData) → GoOn (prop_facts nodes n path p)
props_go_on nodes n path p = elim (cases_Bool (is_shown p)) [ inl e ↦ rw e (shown_goes nodes n path p) | inr e ↦ rw e (λ entry. tt) ]

-- ---- of the tree

chosen_begin : (nodes : List NodeData) (c : List ℕ × ℕ) → Hold Begins (chosen_facts nodes c)
chosen_begin nodes (w, id) = (refl, (refl, tt))

link_begins : (nodes : List NodeData) (mark : List ℕ) (a : List ℕ × ℕ) → Begins (link nodes mark a)
link_begins nodes mark (w, id) = refl

labels_begin : (nodes : List NodeData) (n : ℕ) (x : NodeData) → Hold Begins (label_facts nodes n x)
labels_begin nodes n x = map_hold Begins (λ label. link nodes (codes "DT_N_NODELABEL_") (label, n)) (λ label. refl) x.labels

okay_begin : (nodes : List NodeData) (first : ℕ) (i : InstData) → Hold Begins (okay_facts nodes first i)
okay_begin nodes first i = (refl, (refl, (refl, (refl, (refl, tt)))))

inst_begin : (nodes : List NodeData) (i : InstData) → Hold Begins (inst_facts nodes i)
inst_begin nodes i =
    let okay : Hold Begins (if nat_lt 0 i.okay then okay_facts nodes (unwrap_or (slice_get i.nodes 0) 0) i else []) =
    elim (cases_Bool (nat_lt 0 i.okay)) [ inl e ↦ rw e (okay_begin nodes (unwrap_or (slice_get i.nodes 0) 0) i) | inr e ↦ rw e tt ] in
    both_hold Begins (each (place_fact nodes i.compat) 0 i.nodes) _ (each_hold Begins (place_fact nodes i.compat) (λ k id. (refl, tt)) 0 i.nodes) okay

tree_begins : (b : BoundData) → Hold Begins (tree_facts b)
tree_begins b =
    let nodes = b.tree.nodes in
    both_hold Begins (map (link nodes (codes "DT_N_ALIAS_")) b.tree.aliases) _ (map_hold Begins (link nodes (codes "DT_N_ALIAS_")) (link_begins nodes (codes "DT_N_ALIAS_")) b.tree.aliases)
    (both_hold Begins (each (label_facts nodes) 0 nodes) _ (each_hold Begins (label_facts nodes) (labels_begin nodes) 0 nodes)
    (both_hold Begins (flat_map (chosen_facts nodes) b.tree.chosen) _ (flat_hold Begins (chosen_facts nodes) (chosen_begin nodes) b.tree.chosen)
    (both_hold Begins (flat_map (inst_facts nodes) b.insts) _ (flat_hold Begins (inst_facts nodes) (inst_begin nodes) b.insts) (refl, (refl, tt)))))

pub tree_goes_on : (b : BoundData) → GoOn (tree_section b)
tree_goes_on b = titled_goes (codes "tree") (tree_facts b) (beginners (tree_facts b) (tree_begins b))
