-- Deeds: what statements do, each with the place that it speaks of, and which of them a later deletion covers.
use Rattle.std.specs.Prelude.{Bool, true, false, ◌&&◌, ◌||◌, List, [], ◌∷◌, if◌then◌else◌}
use Rattle.std.specs.List.{list_any}
use Rattle.dts_parse.specs.StmtData.{ActData, Open, Close, Label, Assign, DelProp, DelNode, Omit}
use Rattle.dts_tree.specs.Places.{Place, is_within}

-- a statement's act, and the place that it speaks of: the node that it opens, labels, marks or deletes, or the
-- property that it writes or deletes
pub record Deed : Type 0 where
  pub at : Place
  pub act : ActData

abbrev pub deed : Place → ActData → Deed
deed at act = record { at = at; act = act }

abbrev pub deletes : ActData → Bool
deletes (Open t) = false
deletes Close = false
deletes (Label l) = false
deletes (Assign n v) = false
deletes (DelProp n) = true
deletes (DelNode t) = true
deletes (Omit t) = false

-- the first deed covers the second where it comes later: it deletes the place of the second, or a node above it
abbrev pub covers : Deed → Deed → Bool
covers d e = deletes d.act && is_within d.at e.at

-- of deeds in order, those that are no deletions and that no later one covers
abbrev pub uncovered : List Deed → List Deed
uncovered [] = []
uncovered (e ∷ later) =
    if deletes e.act || list_any (λ d. covers d e) later then uncovered later else e ∷ uncovered later
