-- Groups of the table that the code makes in one piece.
use Rattle.std.specs.Prelude.{◌++◌, ℕ, List, [], ◌∷◌, codes, length}
use Rattle.std.specs.Option.{option_map, option_map_or}
use Rattle.edt_base.specs.EntryData.{EntryData}
use Rattle.edt_base.specs.NodeData.{NodeData}
use Rattle.edt_base.specs.PropData.{PropData}
use Rattle.edt_base.specs.declared.bound.Range.{Range}
use Rattle.dt_names.specs.Facts.{FactData, there, plain, yes, of_prop, value_body, choice_lines, choice_of, each, elem_lines, elem_choices, elements, count_facts, counted, range_facts, irq_facts}
use Rattle.dt_names.specs.Pieces.{lit, num}

-- the definitions of a property that makes some, under a name
abbrev pub shown_as : List NodeData → ℕ → List ℕ → List ℕ → PropData → List FactData
shown_as nodes n path name p =
    there (option_map (λ body. plain n path (of_prop name []) body) (value_body nodes p.val))
    ++ (option_map_or (choice_lines n path (of_prop name [])) (choice_of p.choices p.val) []
    ++ (each (elem_lines nodes n path name (elem_choices p.choices p.val)) 0 (elements p.ty p.val)
    ++ (option_map_or (count_facts n path name) (counted p) []
    ++ plain n path (of_prop name (lit (codes "_EXISTS") ∷ [])) yes ∷ [])))

-- the ranges and interrupts of a node, the later of its resources
abbrev pub range_irq_facts : ℕ → List ℕ → List Range → List EntryData → List FactData
range_irq_facts n path ranges irqs =
    plain n path (lit (codes "_RANGES_NUM") ∷ []) (num (length ranges) ∷ [])
    ∷ (each (range_facts n path) 0 ranges
    ++ (plain n path (lit (codes "_IRQ_NUM") ∷ []) (num (length irqs) ∷ [])
    ∷ each (irq_facts n path) 0 irqs))
