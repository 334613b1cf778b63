use Rattle.std.proofs.Common.{◌≡◌, ℕ, List, [], ◌∷◌, ◌++◌, refl, sym, ◌∙◌, append_assoc, length, arith}
use Rattle.std.specs.List.{flat_map}
use Rattle.edt_base.specs.Nodes.{path_at}
use Rattle.dt_names.specs.Facts.{FactData, cell_facts}
use Rattle.dt_names.specs.Inner.Rows.{at_pieces}
use Rattle.dt_names.proofs.cell_rows.CellRows.next.Goals as goal

no_cells : (cells : List (List ℕ × ℕ)) → length cells ≡ 0 → cells ≡ []
no_cells [] e = refl
no_cells (cell ∷ rest) e = absurd (omega arith)

-- a narrow cell's definitions come next
narrow_next : (F : List ℕ × ℕ → List FactData) (now before exists after : List FactData) (cells rest : List (List ℕ × ℕ)) (cell : List ℕ × ℕ) (fact : FactData)
    → before ++ (flat_map F cells ++ after) ≡ now → before ≡ [] → cells ≡ cell ∷ rest → fact ∷ exists ≡ F cell → now ≡ fact ∷ (exists ++ (flat_map F rest ++ after))
narrow_next F now before exists after cells rest cell fact view none parts two = sym view ∙ rw (none, parts, ← two) (simp append_assoc)

-- where no narrow cell is left, a wide cell's do
wide_next : (F : List ℕ × ℕ → List FactData) (now before exists : List FactData) (narrow cells rest : List (List ℕ × ℕ)) (cell : List ℕ × ℕ) (fact : FactData)
    → before ++ (flat_map F narrow ++ flat_map F cells) ≡ now → before ≡ [] → narrow ≡ [] → cells ≡ cell ∷ rest → fact ∷ exists ≡ F cell
    → now ≡ fact ∷ (exists ++ (flat_map F narrow ++ flat_map F rest))
wide_next F now before exists narrow cells rest cell fact view none past parts two = sym view ∙ rw (none, past, parts, ← two) refl

pub returns-in-Some : goal.returns-in-Some
returns-in-Some c =
    let F = cell_facts c.self.inside.owner (path_at c.self.inside.bound.now.tree.nodes c.self.inside.owner) (at_pieces c.self.inside.at) in
    let two : c.new.result ∷ c.new-self-inside.result ≡ F c.in-Some.cell.now =
    rw (c.new.ensures, c.new-self-inside.ensures, c.of_cell-value.ensures, c.of_cell-exists.ensures, c.as_bytes-name.ensures.value, c.as_str.ensures) refl in
    narrow_next F c.args.self.now c.self.inside.exists c.new-self-inside.result (flat_map F c.self.inside.wide.now) c.self.inside.narrow.now c.in-Some.rest.now
    c.in-Some.cell.now c.new.result c.self.view_is c.if-next.ensures.0 c.in-Some.ensures.cases.0 two

pub returns : goal.returns
returns c =
    let F = cell_facts c.self.inside.owner (path_at c.self.inside.bound.now.tree.nodes c.self.inside.owner) (at_pieces c.self.inside.at) in
    let two : c.new-2.result ∷ c.new-self-inside-2.result ≡ F c.in-Some-split_first.cell.now =
    rw (c.new-2.ensures, c.new-self-inside-2.ensures, c.of_cell-value-2.ensures, c.of_cell-exists-2.ensures, c.as_bytes-name-2.ensures.value, c.as_str-2.ensures) refl in
    wide_next F c.args.self.now c.self.inside.exists c.new-self-inside-2.result c.self.inside.narrow.now c.self.inside.wide.now c.in-Some-split_first.rest.now
    c.in-Some-split_first.cell.now c.new-2.result c.self.view_is c.if-next.ensures.0 (no_cells c.self.inside.narrow.now c.in_default.ensures.cases) c.in-Some-split_first.ensures.cases.0 two
