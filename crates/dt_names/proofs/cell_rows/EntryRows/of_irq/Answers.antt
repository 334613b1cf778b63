use Rattle.std.proofs.Common.{◌≡◌, ◌++◌, ◌∷◌, [], ℕ, List, Option, Some, sym, ap, codes, ◌∙◌}
use Rattle.std.specs.Option.{option_map_or}
use Rattle.edt_base.specs.EntryData.{EntryData}
use Rattle.edt_base.specs.Nodes.{path_at}
use Rattle.dt_names.specs.Facts.{FactData, irq_lines, irq_facts}
use Rattle.dt_names.specs.Pieces.{lit, form, num}
use Rattle.dt_names.proofs.cell_rows.EntryRows.of_irq.Goals as goal

-- the definitions of an interrupt that has a name
named_irq : (n : ℕ) (path : List ℕ) (i : ℕ) (e : EntryData) (m : List ℕ) (one two : List FactData) → e.name ≡ Some m
    → one ≡ irq_lines n path (lit (codes "_IRQ_IDX_") ∷ num i ∷ []) e → two ≡ irq_lines n path (lit (codes "_IRQ_NAME_") ∷ form m ∷ []) e → one ++ two ≡ irq_facts n path i e
named_irq n path i e m one two name first second =
    let named = λ (w : List ℕ). irq_lines n path (lit (codes "_IRQ_NAME_") ∷ form w ∷ []) e in
    let all = λ (o : Option (List ℕ)). irq_lines n path (lit (codes "_IRQ_IDX_") ∷ num i ∷ []) e ++ option_map_or named o [] in
    let same : all (Some m) ≡ all e.name = ap all (sym name) in
    ap (λ l. l ++ two) first ∙ (ap (λ l. irq_lines n path (lit (codes "_IRQ_IDX_") ∷ num i ∷ []) e ++ l) second ∙ same)

pub returns-in-Some : goal.returns-in-Some
returns-in-Some c =
    named_irq c.args.n (path_at c.args.bound.now.tree.nodes c.args.n) c.args.i c.args.irq.now c.in-Some.name.now c.of_irq-indexed.result c.of_irq.result
    (sym c.in-Some.ensures) c.of_irq-indexed.ensures
    (c.of_irq.ensures ∙ ap (λ w. irq_lines c.args.n (path_at c.args.bound.now.tree.nodes c.args.n) (lit (codes "_IRQ_NAME_") ∷ form w ∷ []) c.args.irq.now) c.new.ensures)
