-- Interrupts, one after another.
use Rattle.std.proofs.Common.{◌≡◌, ◌∙◌, ◌∷◌, ◌++◌, ◌+◌, ◌<◌, [], ℕ, Bool, true, List, Option, Result, Ok, Err, codes, is_some, length, refl, sym, ap, subst, append_assoc, All, append-nil, length-append, if◌then◌else◌}
use Rattle.std.proofs.lemmas.List.Elements.{All-append, All-cons, All-nil, All-tail}
use Rattle.edt_base.specs.EntryData.{EntryData}
use Rattle.edt_base.specs.NodeData.{NodeData}
use Rattle.edt_base.specs.Nodes.{prop_at}
use Rattle.edt_base.specs.Values.{entry_name}
use Rattle.edt_base.specs.declared.fault.Rule.{Rule}
use Rattle.edt_base.specs.declared.fault.Rule.TheVariants as rule
use Rattle.edt_base.specs.declared.node.Part.{Part}
use Rattle.bind_merge.specs.LibraryData.{LibData}
use Rattle.pha_nexus.specs.Naming.{and_rest, cell_names, with_names}
use Rattle.pha_nexus.specs.Passing.{Hop}
use Rattle.irq_map.specs.Gic.{counted, counted_by, is_gic, rise_at}
use Rattle.irq_map.specs.Interrupts.{irq_at, irq_of, irqs_from}
use Rattle.irq_map.specs.Written.{interrupt}

-- ---- an interrupt at its controller

pub at_controller : (nodes : List NodeData) (lib : LibData) (space : List ℕ) (name : Option (List ℕ)) (hop : Hop) (entry : EntryData) → space ≡ interrupt
    → is_some (prop_at nodes hop.node (codes "interrupt-controller")) ≡ true → with_names hop name (cell_names nodes lib space hop.node) ≡ Ok entry
    → entry.controller ≡ hop.node → irq_at nodes lib name hop ≡ counted_by entry (rise_at (is_gic nodes entry.controller) entry.cells)
at_controller nodes lib space name hop entry same there named at =
    let here : with_names hop name (cell_names nodes lib interrupt hop.node) ≡ Ok entry =
    subst (λ (s : List ℕ). with_names hop name (cell_names nodes lib s hop.node) ≡ Ok entry) same named in
    ap (λ (t : Bool). if t then counted (is_gic nodes hop.node) (with_names hop name (cell_names nodes lib interrupt hop.node)) else Err rule.V31) there
    ∙ (ap (counted (is_gic nodes hop.node)) here
    ∙ ap (λ (node : ℕ). counted_by entry (rise_at (is_gic nodes node) entry.cells)) (sym at))

-- ---- the nodes of specifiers and of interrupts are there

abbrev pub IsBelow : ℕ → Hop → Type 0
IsBelow count s = s.node < count

abbrev pub IsIrqBelow : ℕ → EntryData → Type 0
IsIrqBelow count irq = irq.controller < count

pub all_after : (count : ℕ) (left next : List Hop) (hop : Hop) → left ≡ hop ∷ next → All (IsBelow count) left → All (IsBelow count) next
all_after count left next hop e all = All-tail (IsBelow count) hop next (subst (All (IsBelow count)) e all)

pub all_irqs : (count : ℕ) (items more : List EntryData) (irq : EntryData) → All (IsIrqBelow count) items → irq.controller < count
    → more ≡ items ++ irq ∷ [] → All (IsIrqBelow count) more
all_irqs count items more irq all there e = subst (All (IsIrqBelow count)) (sym e)
    (All-append (IsIrqBelow count) items (irq ∷ []) all (All-cons (IsIrqBelow count) irq [] there (All-nil (IsIrqBelow count))))

-- ---- one after another

abbrev pub joined : List EntryData → Result (List EntryData) Rule → Result (List EntryData) Rule
joined before (Err broken) = Err broken
joined before (Ok rest) = Ok (before ++ rest)

joined_next : (before : List EntryData) (x : EntryData) (r : Result (List EntryData) Rule) → joined before (and_rest (Ok x) r) ≡ joined (before ++ x ∷ []) r
joined_next before x (Err b) = refl
joined_next before x (Ok xs) = ap (λ ys. Ok ys) (sym (append_assoc before (x ∷ []) xs))

step : (nodes : List NodeData) (lib : LibData) (unit : Option (List ℕ)) (parts : List Part) (at : ℕ) (left next : List Hop) (hop : Hop) (name : Option (List ℕ)) (q : Result EntryData Rule)
    → left ≡ hop ∷ next → name ≡ entry_name parts at → irq_of nodes lib unit name hop ≡ q
    → irqs_from nodes lib unit parts at left ≡ and_rest q (irqs_from nodes lib unit parts (at + 1) next)
step nodes lib unit parts at left next hop name q l n e =
    ap (irqs_from nodes lib unit parts at) l
    ∙ ap (λ (r : Result EntryData Rule). and_rest r (irqs_from nodes lib unit parts (at + 1) next))
    (ap (λ (m : Option (List ℕ)). irq_of nodes lib unit m hop) (sym n) ∙ e)

pub irq_read : (nodes : List NodeData) (lib : LibData) (unit : Option (List ℕ)) (parts : List Part) (all left next : List Hop) (hop : Hop) (name : Option (List ℕ)) (items more : List EntryData) (irq : EntryData)
    → left ≡ hop ∷ next → name ≡ entry_name parts (length items) → irq_of nodes lib unit name hop ≡ Ok irq → more ≡ items ++ irq ∷ []
    → joined items (irqs_from nodes lib unit parts (length items) left) ≡ irqs_from nodes lib unit parts 0 all
    → joined more (irqs_from nodes lib unit parts (length more) next) ≡ irqs_from nodes lib unit parts 0 all
irq_read nodes lib unit parts all left next hop name items more irq l n e m inv =
    let len : length more ≡ length items + 1 = ap length m ∙ length-append items (irq ∷ []) in
    ap (λ (k : ℕ). joined more (irqs_from nodes lib unit parts k next)) len
    ∙ (ap (λ (xs : List EntryData). joined xs (irqs_from nodes lib unit parts (length items + 1) next)) m
    ∙ (sym (joined_next items irq (irqs_from nodes lib unit parts (length items + 1) next))
    ∙ (ap (joined items) (sym (step nodes lib unit parts (length items) left next hop name (Ok irq) l n e)) ∙ inv)))
