-- The nodes of the final tree as drafts: references in values are read, and values aren't bytes yet.
use Rattle.std.specs.Prelude.{ℕ, List, [], ◌∷◌, Option, None, map, position}
use Rattle.std.specs.Option.{option_and_then}
use Rattle.edt_base.specs.declared.node.Part.{Part}
use Rattle.dts_parse.specs.StmtData.{PartData, Plain, Cells, Path}
use Rattle.dts_parse.specs.declared.script.RawCell.{RawCell}
use Rattle.dts_parse.specs.declared.script.RawCell.TheVariants as cell
use Rattle.dts_parse.specs.declared.script.Target.{Target}
use Rattle.dts_tree.specs.declared.draft.DraftCell.{DraftCell}
use Rattle.dts_tree.specs.declared.draft.DraftCell.TheVariants as draft
use Rattle.dts_tree.specs.Places.{Place, place_eq, name_of, path_text}
use Rattle.dts_tree.specs.Deeds.{Deed}
use Rattle.dts_tree.specs.Live.{props, value, labels, node_of}
use Rattle.dts_tree.specs.Reading.{Before, live}
use Rattle.dts_tree.specs.Whole.{kept}

-- a part: bytes as they were written, cells, or the path of a node; a reference is the place of a node among the
-- drafts, or none
pub data DraftPartData : Type 0 where
  Ready : Part → DraftPartData
  Mixed : List DraftCell → DraftPartData
  PathTo : Option ℕ → DraftPartData

pub record DraftData : Type 0 where
  pub name : List ℕ
  pub path : List ℕ
  pub parent : Option ℕ
  pub labels : List (List ℕ)
  pub props : List (List ℕ × List DraftPartData)

-- a node's place among the kept ones
abbrev pub number_in : List Place → Place → Option ℕ
number_in ps p = position (place_eq p) ps

abbrev pub number_of : List Deed → List Place → Target → Option ℕ
number_of us ps t = option_and_then (number_in ps) (node_of us t)

abbrev pub cell_draft : List Deed → List Place → RawCell → DraftCell
cell_draft us ps (cell.Num n) = draft.Num n
cell_draft us ps (cell.Ref t) = draft.Ref (number_of us ps t)

abbrev pub part_draft : List Deed → List Place → PartData → DraftPartData
part_draft us ps (Plain p) = Ready p
part_draft us ps (Cells cells) = Mixed (map (cell_draft us ps) cells)
part_draft us ps (Path t) = PathTo (number_of us ps t)

abbrev pub prop_draft : List Deed → List Place → Place → List ℕ × List DraftPartData
prop_draft us ps q = (name_of q, map (part_draft us ps) (value us q))

abbrev pub parent_number : List Place → Place → Option ℕ
parent_number ps [] = None
parent_number ps (s ∷ p) = number_in ps p

abbrev pub node_draft : List Deed → List Place → Place → DraftData
node_draft us ps p =
    record {
      name = name_of p;
      path = path_text p;
      parent = parent_number ps p;
      labels = labels us p;
      props = map (prop_draft us ps) (props us p);
    }

abbrev pub drafts_of : List Deed → List Place → List DraftData
drafts_of us ps = map (node_draft us ps) ps

abbrev pub drafts : Before → List DraftData
drafts b = drafts_of (live b) (kept b)
