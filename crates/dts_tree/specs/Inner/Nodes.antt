-- The nodes as the code makes them. No part of what is promised.
use Rattle.std.specs.Prelude.{◌≡◌, ◌<◌, ◌++◌, ◌^◌, ℕ, List, [], ◌∷◌, Option, Some, None, IfSome, find, slice_set}
use Rattle.std.specs.Prelude.{slice_index_or}
use Rattle.edt_base.specs.NodeData.{NodeData}
use Rattle.edt_base.specs.declared.node.Part.{Part}
use Rattle.dts_tree.specs.Drafts.{DraftData}
use Rattle.dts_tree.specs.Final.{node_of}
use Rattle.dts_tree.specs.Rules.{dangles, first_bad_phandle}
use Rattle.dts_tree.specs.Inner.DraftRules.{AreDrafts}

-- one child more in the list of its parent
abbrev pub with_child : List (List ℕ) → Option ℕ → ℕ → List (List ℕ)
with_child lists None id = lists
with_child lists (Some parent) id = slice_set lists parent (slice_index_or lists parent [] ++ id ∷ [])

-- the nodes of drafts, with their properties and their children
abbrev pub nodes_from : List DraftData → List (List (List ℕ × List Part)) → List (List ℕ) → List NodeData
nodes_from [] props kids = []
nodes_from (d ∷ ds) [] kids = []
nodes_from (d ∷ ds) (p ∷ ps) [] = []
nodes_from (d ∷ ds) (p ∷ ps) (k ∷ ks) = node_of d p k ∷ nodes_from ds ps ks

-- the place of a parent fits an id
abbrev pub HasLowParent : DraftData → Type 0
HasLowParent d = IfSome d.parent (λ p. p < 2 ^ 32)

-- drafts whose references and phandles are good
pub record AreNumbered (ds : List DraftData) : Type 0 where
  pub drafts : AreDrafts ds
  pub referred : find dangles ds ≡ None
  pub numbered : first_bad_phandle [] ds ≡ None
