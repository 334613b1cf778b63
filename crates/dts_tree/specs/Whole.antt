-- The nodes that are there in preorder, all of them or those that are kept.
use Rattle.std.specs.Prelude.{ℕ, zero, suc, Bool, true, ◌&&◌, not, List, [], ◌∷◌, length, filter}
use Rattle.std.specs.List.{list_any, filter_map, flat_map}
use Rattle.dts_parse.specs.StmtData.{PartData, Plain, Cells, Path}
use Rattle.dts_parse.specs.declared.script.RawCell.{RawCell}
use Rattle.dts_parse.specs.declared.script.RawCell.TheVariants as cell
use Rattle.dts_parse.specs.declared.script.Target.{Target}
use Rattle.dts_tree.specs.Places.{Place, place_eq}
use Rattle.dts_tree.specs.Deeds.{Deed}
use Rattle.dts_tree.specs.Live.{children, props, value, is_marked, node_of}
use Rattle.dts_tree.specs.Reading.{Before, live}

-- a thing and all below it, each before what is below it, down to so many levels
abbrev pub walk : {X : Type 0} → ℕ → (X → List X) → X → List X
walk zero below x = []
walk (suc levels) below x = x ∷ flat_map (walk levels below) (below x)

-- the root and, level by level, those of each node's children that are kept; there are no more levels than deeds
abbrev pub kept_children : List Deed → (Place → Bool) → Place → List Place
kept_children us keep p = filter keep (children us p)

abbrev pub preorder : Before → (Place → Bool) → List Place
preorder b keep = walk (suc (length b.deeds)) (kept_children (live b) keep) []

abbrev pub always : Place → Bool
always p = true

-- all nodes that are there
abbrev pub whole : Before → List Place
whole b = preorder b always

-- ---- dropping

abbrev pub cell_targets : List RawCell → List Target
cell_targets [] = []
cell_targets (cell.Num n ∷ rest) = cell_targets rest
cell_targets (cell.Ref t ∷ rest) = t ∷ cell_targets rest

abbrev pub part_targets : PartData → List Target
part_targets (Plain p) = []
part_targets (Cells cells) = cell_targets cells
part_targets (Path t) = t ∷ []

-- the references in a node's values
abbrev pub node_targets : List Deed → Place → List Target
node_targets us p = flat_map (λ q. flat_map part_targets (value us q)) (props us p)

-- the nodes that references in values name
abbrev pub wanted : Before → List Place
wanted b = filter_map (node_of (live b)) (flat_map (node_targets (live b)) (whole b))

-- the node isn't marked, or some reference names it; the marked ones that none names are left out, with all below them
abbrev pub stays : Before → Place → Bool
stays b p = not (is_marked (live b) p && not (list_any (place_eq p) (wanted b)))

-- the nodes of the final tree
abbrev pub kept : Before → List Place
kept b = preorder b (stays b)
