-- The sections, one behind the other, are all definitions.
use Rattle.std.proofs.Common.{◌≡◌, ℕ, ◌+◌, List, [], ◌∷◌, ◌++◌, Option, Some, None, refl, sym, ap, ◌∙◌, append_assoc, map}
use Rattle.std.specs.Prelude.{slice_get}
use Rattle.std.specs.List.{flat_map}
use Rattle.std.specs.Option.{option_map_or}
use Rattle.std.proofs.lemmas.List.{append-nil}
use Rattle.edt_base.specs.BoundData.{BoundData}
use Rattle.edt_base.specs.BoundNodeData.{BoundNodeData}
use Rattle.edt_base.specs.NodeData.{NodeData}
use Rattle.dt_names.specs.Facts.{FactData, each, prop_facts, node_facts, titled, titled_node, facts}
use Rattle.dt_names.specs.Inner.Sections.{head_facts, node_sections, tree_section, sections, joined}
use Rattle.dt_names.proofs.Parted.{node_parts}

joined-append : (a b : List (List FactData)) → joined (a ++ b) ≡ joined a ++ joined b
joined-append [] b = refl
joined-append (x ∷ xs) b = ap (λ l. x ++ l) (joined-append xs b) ∙ sym (append_assoc x (joined xs) (joined b))

joined-map : {A : Type 0} (f : A → List FactData) (xs : List A) → joined (map f xs) ≡ flat_map f xs
joined-map f [] = refl
joined-map f (x ∷ xs) = ap (λ l. f x ++ l) (joined-map f xs)

node_cases : (b : BoundData) (n : ℕ) (x : NodeData) (o : Option BoundNodeData)
    → option_map_or (λ (y : BoundNodeData). titled x.path (head_facts b n x y)) o []
    ++ joined (map (prop_facts b.tree.nodes n x.path) (option_map_or (λ (y : BoundNodeData). y.props) o []))
    ≡ option_map_or (λ (y : BoundNodeData). titled x.path (node_facts b n x y)) o []
node_cases b n x None = refl
node_cases b n x (Some y) = ap (λ l. titled x.path (head_facts b n x y) ++ l) (joined-map (prop_facts b.tree.nodes n x.path) y.props) ∙ node_parts b n x y

node_joined : (b : BoundData) (n : ℕ) (x : NodeData) → joined (node_sections b n x) ≡ titled_node b n x
node_joined b n x = node_cases b n x (slice_get b.nodes n)

nodes_joined : (b : BoundData) (n : ℕ) (xs : List NodeData) → joined (each (node_sections b) n xs) ≡ each (titled_node b) n xs
nodes_joined b n [] = refl
nodes_joined b n (x ∷ xs) =
    joined-append (node_sections b n x) (each (node_sections b) (n + 1) xs)
    ∙ (ap (λ l. l ++ joined (each (node_sections b) (n + 1) xs)) (node_joined b n x) ∙ ap (λ l. titled_node b n x ++ l) (nodes_joined b (n + 1) xs))

pub facts_sectioned : (b : BoundData) → joined (sections b) ≡ facts b
facts_sectioned b =
    joined-append (each (node_sections b) 0 b.tree.nodes) (tree_section b ∷ [])
    ∙ (ap (λ l. l ++ (tree_section b ++ [])) (nodes_joined b 0 b.tree.nodes) ∙ ap (λ l. each (titled_node b) 0 b.tree.nodes ++ l) (append-nil (tree_section b)))
