-- The nodes that are left as drafts, or the first rule that all nodes break, from what the code gathered. No part of
-- what is promised.
use Rattle.std.specs.Prelude.{ℕ, ◌+◌, Bool, true, false, List, [], ◌∷◌, Option, Some, None, Result, Ok, Err, length, map, replicate, codes, nat_eq, slice_index_or, slice_set, if◌then◌else◌}
use Rattle.std.specs.Option.{option_and_then}
use Rattle.edt_base.specs.declared.fault.Fault.{Fault}
use Rattle.edt_base.specs.declared.fault.Rule.TheVariants as rule
use Rattle.dts_parse.specs.StmtData.{PartData, Plain, Cells, Path}
use Rattle.dts_parse.specs.declared.script.RawCell.{RawCell}
use Rattle.dts_parse.specs.declared.script.RawCell.TheVariants as cell
use Rattle.dts_parse.specs.declared.script.Target.{Target}
use Rattle.dts_tree.specs.declared.draft.DraftCell.{DraftCell}
use Rattle.dts_tree.specs.declared.draft.DraftCell.TheVariants as draft
use Rattle.dts_tree.specs.declared.spot.Spot.{Spot}
use Rattle.dts_tree.specs.Inner.Machine.{ReaderData, named_slot}
use Rattle.dts_tree.specs.Inner.Grown.{GrownData, grown_of, value_at, labels_at, kids_of, alive_list, below_in, order_of, lens_of, slot_name, slot_parent, text_of, slots_too_many, first_large_slot, shared_from, wanted_from, stays_list}
use Rattle.dts_tree.specs.Drafts.{DraftPartData, DraftData, Ready, Mixed, PathTo}
use Rattle.dts_tree.specs.Outcome.{at_path}

-- of each slot its place among these
abbrev pub placed_from : List (Option ℕ) → ℕ → List ℕ → List (Option ℕ)
placed_from places first [] = places
placed_from places first (i ∷ is) = placed_from (slice_set places i (Some first)) (first + 1) is

abbrev pub places_of : ℕ → List ℕ → List (Option ℕ)
places_of n slots = placed_from (replicate n None) 0 slots

abbrev pub placed_at : List (Option ℕ) → ℕ → Option ℕ
placed_at places i = slice_index_or places i None

abbrev pub slot_number : ReaderData → List (Option ℕ) → Target → Option ℕ
slot_number r places t = option_and_then (placed_at places) (named_slot r t)

abbrev pub slot_cell : ReaderData → List (Option ℕ) → RawCell → DraftCell
slot_cell r places (cell.Num n) = draft.Num n
slot_cell r places (cell.Ref t) = draft.Ref (slot_number r places t)

abbrev pub slot_part : ReaderData → List (Option ℕ) → PartData → DraftPartData
slot_part r places (Plain p) = Ready p
slot_part r places (Cells cells) = Mixed (map (slot_cell r places) cells)
slot_part r places (Path t) = PathTo (slot_number r places t)

abbrev pub slot_prop : ReaderData → GrownData → List (Option ℕ) → ℕ → List ℕ × List DraftPartData
slot_prop r g places q = (slot_name r.arena.spots q, map (slot_part r places) (value_at g q))

abbrev pub or_slash : List ℕ → List ℕ
or_slash [] = codes "/"
or_slash (b ∷ rest) = b ∷ rest

abbrev pub node_name : List Spot → ℕ → List ℕ
node_name spots i = if nat_eq i 0 then codes "/" else slot_name spots i

abbrev pub node_parent : List Spot → List (Option ℕ) → ℕ → Option ℕ
node_parent spots places i = if nat_eq i 0 then None else placed_at places (slot_parent spots i)

abbrev pub slot_draft : ReaderData → GrownData → List (List ℕ) → List (Option ℕ) → ℕ → DraftData
slot_draft r g props places i = record {
  name = node_name r.arena.spots i;
  path = or_slash (text_of r.arena.spots i);
  parent = node_parent r.arena.spots places i;
  labels = labels_at g i;
  props = map (slot_prop r g places) (below_in props i);
}

abbrev pub slot_drafts : ReaderData → GrownData → List (List ℕ) → List ℕ → List DraftData
slot_drafts r g props slots = map (slot_draft r g props (places_of (length r.arena.spots) slots)) slots

-- ---- all of it

abbrev pub keep_of : ReaderData → List Bool
keep_of r = alive_list r.arena.gone

abbrev pub whole_slots : ReaderData → List ℕ
whole_slots r = order_of (kids_of r.arena.spots (keep_of r) true)

abbrev pub prop_lists : ReaderData → List (List ℕ)
prop_lists r = kids_of r.arena.spots (keep_of r) false

abbrev pub wanted_slots : ReaderData → List Bool
wanted_slots r = wanted_from r (grown_of r) (prop_lists r) (replicate (length r.arena.spots) false) (whole_slots r)

abbrev pub staying : ReaderData → List Bool
staying r = stays_list (keep_of r) (grown_of r).marks (wanted_slots r)

abbrev pub kept_slots : ReaderData → List ℕ
kept_slots r = order_of (kids_of r.arena.spots (staying r) true)

abbrev pub drafts_left : ReaderData → List DraftData
drafts_left r = slot_drafts r (grown_of r) (prop_lists r) (kept_slots r)

abbrev pub text_path : ReaderData → ℕ → List ℕ
text_path r i = or_slash (text_of r.arena.spots i)

abbrev pub shared_or : ReaderData → Option ℕ → Result (List DraftData) Fault
shared_or r None = Ok (drafts_left r)
shared_or r (Some i) = Err (at_path rule.S4 (text_path r i))

abbrev pub large_or : ReaderData → Option ℕ → Result (List DraftData) Fault
large_or r None = shared_or r (shared_from (grown_of r) [] (whole_slots r))
large_or r (Some i) = Err (at_path rule.L8 (text_path r i))

abbrev pub many_or : ReaderData → Bool → Result (List DraftData) Fault
many_or r true = Err (at_path rule.L7 (codes "/"))
many_or r false = large_or r (first_large_slot r (grown_of r) (lens_of r.arena.spots) (prop_lists r) (whole_slots r))

abbrev pub left_of : ReaderData → Result (List DraftData) Fault
left_of r = many_or r (slots_too_many (whole_slots r) (lens_of r.arena.spots))
