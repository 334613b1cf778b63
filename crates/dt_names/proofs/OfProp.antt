-- The definitions of a property speak of it.
use Rattle.std.proofs.Common.{◌≡◌, ℕ, List, [], ◌∷◌, Option, Some, None, refl, inl, inr, codes, drop, option_map}
use Rattle.std.specs.Prelude.{slice_get}
use Rattle.std.specs.Option.{option_map_or}
use Rattle.std.proofs.lemmas.Bool.{cases_Bool}
use Rattle.edt_base.specs.EntryData.{EntryData}
use Rattle.edt_base.specs.NodeData.{NodeData}
use Rattle.edt_base.specs.PropData.{PropData}
use Rattle.dt_names.specs.Facts.{FactData, each, there, plain, cell_facts, of_prop, choice_lines, at_index, item_rows, item_facts, pha_lines, pha_facts, Element, an_item, a_node, an_entry, elem_lines, elem_choices, elements, counted, value_body, choice_of, count_facts, shown_facts, prop_facts, is_shown}
use Rattle.dt_names.specs.Inner.Keys.{AreOfProp, PropertiesNameThem}
use Rattle.dt_names.specs.Pieces.{PieceData, lit, form, num}
use Rattle.dt_names.proofs.Table.{Hold, both_hold, each_hold, flat_hold, there_hold, maybe_hold}

abbrev pub IsOfProp : List ℕ → FactData → Type 0
IsOfProp name f = f.rest ≡ lit (codes "_P_") ∷ form name ∷ drop 2 f.rest

choice_of_prop : (n : ℕ) (path name : List ℕ) (after : List PieceData) (c : ℕ × List ℕ) → Hold (IsOfProp name) (choice_lines n path (of_prop name after) c)
choice_of_prop n path name after (place, value) = (refl, (refl, tt))

cell_of_prop : (n : ℕ) (path name : List ℕ) (after : List PieceData) (c : List ℕ × ℕ) → Hold (IsOfProp name) (cell_facts n path (of_prop name after) c)
cell_of_prop n path name after (c, v) = (refl, (refl, tt))

item_of_prop : (n : ℕ) (path name : List ℕ) (choices : List (ℕ × List ℕ)) (i : ℕ) (item : PieceData) → Hold (IsOfProp name) (item_facts n path name choices i item)
item_of_prop n path name choices i item =
    both_hold (IsOfProp name) (item_rows n path (at_index name i) item) (option_map_or (choice_lines n path (at_index name i)) (slice_get choices i) []) (refl, (refl, tt))
    (maybe_hold (IsOfProp name) (choice_lines n path (at_index name i)) (choice_of_prop n path name (lit (codes "_IDX_") ∷ num i ∷ [])) (slice_get choices i))

lines_of_prop : (nodes : List NodeData) (n : ℕ) (path name : List ℕ) (after : List PieceData) (e : EntryData) → Hold (IsOfProp name) (pha_lines nodes n path (of_prop name after) e)
lines_of_prop nodes n path name after e = (refl, (refl, flat_hold (IsOfProp name) (cell_facts n path (of_prop name after)) (cell_of_prop n path name after) e.cells))

entry_of_prop : (nodes : List NodeData) (n : ℕ) (path name : List ℕ) (i : ℕ) (e : Option EntryData) → Hold (IsOfProp name) (pha_facts nodes n path name i e)
entry_of_prop nodes n path name i None = (refl, tt)
entry_of_prop nodes n path name i (Some e) =
    let named = λ (m : List ℕ). pha_lines nodes n path (of_prop name (lit (codes "_NAME_") ∷ form m ∷ [])) e in
    both_hold (IsOfProp name) (pha_lines nodes n path (at_index name i) e) (option_map_or named e.name [])
    (lines_of_prop nodes n path name (lit (codes "_IDX_") ∷ num i ∷ []) e)
    (maybe_hold (IsOfProp name) named (λ m. lines_of_prop nodes n path name (lit (codes "_NAME_") ∷ form m ∷ []) e) e.name)

element_of_prop : (nodes : List NodeData) (n : ℕ) (path name : List ℕ) (choices : List (ℕ × List ℕ)) (i : ℕ) (e : Element) → Hold (IsOfProp name) (elem_lines nodes n path name choices i e)
element_of_prop nodes n path name choices i (an_item item) = item_of_prop n path name choices i item
element_of_prop nodes n path name choices i (a_node id) = (refl, (refl, (refl, tt)))
element_of_prop nodes n path name choices i (an_entry e) = entry_of_prop nodes n path name i e

count_of_prop : (n : ℕ) (path name : List ℕ) (count : ℕ) → Hold (IsOfProp name) (count_facts n path name count)
count_of_prop n path name count = (refl, (refl, (refl, (refl, tt))))

shown_hold : (nodes : List NodeData) (n : ℕ) (path : List ℕ) (p : PropData) → Hold (IsOfProp p.name) (shown_facts nodes n path p)
shown_hold nodes n path p =
    let P = IsOfProp p.name in
    let value = λ (body : List PieceData). plain n path (of_prop p.name []) body in
    let choice = choice_lines n path (of_prop p.name []) in
    let element = elem_lines nodes n path p.name (elem_choices p.choices p.val) in
    both_hold P (there (option_map value (value_body nodes p.val))) _ (there_hold P value (λ body. refl) (value_body nodes p.val))
    (both_hold P (option_map_or choice (choice_of p.choices p.val) []) _ (maybe_hold P choice (choice_of_prop n path p.name []) (choice_of p.choices p.val))
    (both_hold P (each element 0 (elements p.ty p.val)) _ (each_hold P element (element_of_prop nodes n path p.name (elem_choices p.choices p.val)) 0 (elements p.ty p.val))
    (both_hold P (option_map_or (count_facts n path p.name) (counted p) []) _ (maybe_hold P (count_facts n path p.name) (count_of_prop n path p.name) (counted p)) (refl, tt))))

held : (name : List ℕ) (fs : List FactData) → Hold (IsOfProp name) fs → AreOfProp name fs
held name [] h = tt
held name (f ∷ fs) h = (h.0, held name fs h.1)

pub shown_of_prop : (nodes : List NodeData) (n : ℕ) (path : List ℕ) (p : PropData) → AreOfProp p.name (shown_facts nodes n path p)
shown_of_prop nodes n path p = held p.name (shown_facts nodes n path p) (shown_hold nodes n path p)

pub props_of_prop : (nodes : List NodeData) (n : ℕ) (path : List ℕ) (p : PropData) → AreOfProp p.name (prop_facts nodes n path p)
props_of_prop nodes n path p = elim (cases_Bool (is_shown p)) [ inl e ↦ rw e (shown_of_prop nodes n path p) | inr e ↦ rw e tt ]

pub properties_named : PropertiesNameThem
properties_named nodes n path p = (shown_of_prop nodes n path p, props_of_prop nodes n path p)
