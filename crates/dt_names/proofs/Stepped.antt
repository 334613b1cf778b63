-- What the walk over the sections leaves at each step.
use Rattle.std.proofs.Common.{◌≡◌, ℕ, ◌+◌, Bool, true, List, [], ◌∷◌, ◌++◌, Option, Some, None, refl, sym, ap, ◌∙◌, append_assoc, map, drop, if◌then◌else◌}
use Rattle.edt_base.specs.BoundData.{BoundData}
use Rattle.edt_base.specs.Nodes.{path_at}
use Rattle.edt_base.specs.NodeData.{NodeData}
use Rattle.edt_base.specs.PropData.{PropData}
use Rattle.dt_names.specs.Facts.{FactData, each, id_at, prop_facts}
use Rattle.dt_names.specs.Inner.Parts.{IsSplit, node_base, props_left, props_of}
use Rattle.dt_names.specs.Inner.Sections.{head_section, node_sections, props_at, tree_section}
use Rattle.dt_names.specs.Inner.Standing.{StandsAt}
use Rattle.dt_names.specs.declared.sections.NodeLeft.{NodeLeft}

-- no property is left
pub past_props : (nodes : List NodeData) (o : Option NodeLeft) → props_of o ≡ [] → props_left nodes o ≡ []
past_props nodes None e = refl
past_props nodes (Some n) e = ap (map (prop_facts nodes n.owner (path_at nodes n.owner))) e

-- the sections from a property on
pub prop_first : (nodes : List NodeData) (o : Option NodeLeft) (p : PropData) (after : NodeLeft) (rows : List FactData) (tail : List (List FactData))
    → IsSplit o p after → rows ≡ prop_facts nodes after.owner (path_at nodes after.owner) p → props_left nodes o ++ tail ≡ rows ∷ (props_left nodes (Some after) ++ tail)
prop_first nodes None p after rows tail h is = absurd (cc)
prop_first nodes (Some n) p after rows tail h is =
    let F = λ (k : ℕ). prop_facts nodes k (path_at nodes k) in
    let same : n.owner ≡ after.owner = cc in
    ap (λ ps. map (F n.owner) ps ++ tail) h.1
    ∙ (ap (λ k. map (F k) (p ∷ after.props.now) ++ tail) same ∙ ap (λ r. r ∷ (map (F after.owner) after.props.now ++ tail)) (sym is))

-- the id stays
pub prop_base : (nodes : List NodeData) (o : Option NodeLeft) (p : PropData) (after : NodeLeft) → IsSplit o p after → node_base nodes o ≡ id_at nodes after.owner
prop_base nodes None p after h = absurd (cc)
prop_base nodes (Some n) p after h = let same : n.owner ≡ after.owner = cc in ap (id_at nodes) same

-- the sections from a node on
pub node_first : (b : BoundData) (i : ℕ) (x : NodeData) (before tail : List (List FactData)) (rows : List FactData) (props : List PropData)
    → before ≡ [] → StandsAt b.tree.nodes i x → rows ≡ head_section b i x → props ≡ props_at b i
    → before ++ (each (node_sections b) i (drop i b.tree.nodes) ++ tail)
    ≡ rows ∷ (map (prop_facts b.tree.nodes i (path_at b.tree.nodes i)) props ++ (each (node_sections b) (i + 1) (drop (i + 1) b.tree.nodes) ++ tail))
node_first b i x before tail rows props none stands is same =
    let nodes = b.tree.nodes in
    let later = each (node_sections b) (i + 1) (drop (i + 1) nodes) in
    ap (λ d. d ++ (each (node_sections b) i (drop i nodes) ++ tail)) none
    ∙ (ap (λ l. each (node_sections b) i l ++ tail) stands.rest
    ∙ (append_assoc (node_sections b i x) later tail
    ∙ (ap (λ path. head_section b i x ∷ (map (prop_facts nodes i path) (props_at b i) ++ (later ++ tail))) (sym stands.path)
    ∙ (ap (λ r. r ∷ (map (prop_facts nodes i (path_at nodes i)) (props_at b i) ++ (later ++ tail))) (sym is)
    ∙ ap (λ ps. rows ∷ (map (prop_facts nodes i (path_at nodes i)) ps ++ (later ++ tail))) (sym same)))))

-- the last section
pub tree_last : (b : BoundData) (i : ℕ) (more : Bool) (before : List (List FactData)) (rows : List FactData)
    → before ≡ [] → drop i b.tree.nodes ≡ [] → more ≡ true → rows ≡ tree_section b
    → before ++ (each (node_sections b) i (drop i b.tree.nodes) ++ (if more then tree_section b ∷ [] else [])) ≡ rows ∷ (each (node_sections b) i (drop i b.tree.nodes) ++ [])
tree_last b i more before rows none past there is = rw (none, past, there, is) refl
