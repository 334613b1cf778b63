-- What the code gathers once all statements are carried out. No part of what is promised.
use Rattle.std.specs.Prelude.{◌≡◌, ◌<◌, ℕ, zero, suc, ◌+◌, ◌*◌, ◌-◌, ◌^◌, Bool, true, false, ◌&&◌, ◌||◌, not, List, [], ◌∷◌, ◌++◌, Option, Some, None, length, map, min, max, sum_by, find, fold, nat_eq, nat_lt, replicate, slice_get, slice_index_or, slice_set, codes, if◌then◌else◌}
use Rattle.std.specs.Option.{option_map_or}
use Rattle.std.specs.List.{list_any, list_all, range_with_len}
use Rattle.std.specs.Str.{bytes_eq}
use Rattle.dts_parse.specs.StmtData.{ActData, PartData, Plain, Cells, Path, Open, Close, Label, Assign, DelProp, DelNode, Omit}
use Rattle.dts_parse.specs.declared.script.Target.{Target}
use Rattle.dts_tree.specs.declared.spot.Spot.{Spot}
use Rattle.dts_tree.specs.Places.{step_name}
use Rattle.dts_tree.specs.Live.{with_new}
use Rattle.dts_tree.specs.Inner.Arena.{is_gone, pushed}
use Rattle.dts_tree.specs.Inner.Slots.{is_node}
use Rattle.dts_tree.specs.Whole.{walk, part_targets}
use Rattle.dts_tree.specs.Inner.Machine.{EventData, ReaderData, named_slot}

-- ---- the last of a stack that is there

abbrev pub last_alive : List Bool → Option ℕ → List ℕ → Option ℕ
last_alive gone o [] = o
last_alive gone o (i ∷ is) = last_alive gone (if is_gone gone i then o else Some i) is

-- ---- what each slot has

pub record GrownData : Type 0 where
  pub values : List (List PartData)
  pub marks : List Bool
  pub labels : List (List (List ℕ))

abbrev pub no_grown : ℕ → GrownData
no_grown n = record { values = replicate n []; marks = replicate n false; labels = replicate n [] }

abbrev pub with_label_at : GrownData → ℕ → List ℕ → GrownData
with_label_at g i l = record g { labels = slice_set g.labels i (with_new bytes_eq (slice_index_or g.labels i []) l) }

abbrev pub with_value_at : GrownData → ℕ → List PartData → GrownData
with_value_at g i v = record g { values = slice_set g.values i v }

abbrev pub with_mark_at : GrownData → ℕ → GrownData
with_mark_at g i = record g { marks = slice_set g.marks i true }

abbrev pub with_act : GrownData → ℕ → ActData → GrownData
with_act g i (Open t) = g
with_act g i Close = g
with_act g i (Label l) = with_label_at g i l
with_act g i (Assign n v) = with_value_at g i v
with_act g i (DelProp n) = g
with_act g i (DelNode t) = g
with_act g i (Omit t) = with_mark_at g i

abbrev pub taken : List Bool → GrownData → EventData → GrownData
taken gone g e = if is_gone gone e.slot then g else with_act g e.slot e.act

abbrev pub grown_from : List Bool → GrownData → List EventData → GrownData
grown_from gone g [] = g
grown_from gone g (e ∷ es) = grown_from gone (taken gone g e) es

abbrev pub grown_of : ReaderData → GrownData
grown_of r = grown_from r.arena.gone (no_grown (length r.arena.spots)) r.events

-- ---- what stands below what

abbrev pub is_kid : List Bool → Bool → ℕ → Spot → Bool
is_kid keep node i s = slice_index_or keep i false && (nat_lt 0 i && (if is_node s then node else not node))

abbrev pub with_kid : List Bool → Bool → List (List ℕ) → ℕ → Spot → List (List ℕ)
with_kid keep node ls i s = if is_kid keep node i s then pushed ls s.parent i else ls

abbrev pub kids_from : List Bool → Bool → ℕ → List (List ℕ) → List Spot → List (List ℕ)
kids_from keep node first ls [] = ls
kids_from keep node first ls (s ∷ ss) = kids_from keep node (first + 1) (with_kid keep node ls first s) ss

abbrev pub kids_of : List Spot → List Bool → Bool → List (List ℕ)
kids_of spots keep node = kids_from keep node 0 (replicate (length spots) []) spots

abbrev pub alive_list : List Bool → List Bool
alive_list gone = map not gone

abbrev pub below_in : List (List ℕ) → ℕ → List ℕ
below_in lists i = slice_index_or lists i []

-- each list has greater slots than its place, and all are there
pub record AreRising (lists : List (List ℕ)) : Type 0 where
  pub above : (i : ℕ) → list_all (nat_lt i) (below_in lists i) ≡ true
  pub within : (i : ℕ) → list_all (λ c. nat_lt c (length lists)) (below_in lists i) ≡ true

abbrev pub order_of : List (List ℕ) → List ℕ
order_of lists = walk (length lists) (below_in lists) 0

-- each parent stands before what stands in it
pub record ParentsRise (spots : List Spot) : Type 0 where
  pub some : 0 < length spots
  pub before : (i : ℕ) (s : Spot) → slice_get spots i ≡ Some s → 0 < i → s.parent < i

-- ---- lengths and texts of paths

abbrev pub most : ℕ
most = 2 ^ 64 - 1

abbrev pub next_len : List ℕ → Spot → ℕ
next_len lens s =
    option_map_or (λ len. min (min (len + length (step_name s.step)) most + 1) most) (slice_get lens s.parent) 0

abbrev pub lens_from : List ℕ → List Spot → List ℕ
lens_from lens [] = lens
lens_from lens (s ∷ ss) = lens_from (lens ++ next_len lens s ∷ []) ss

abbrev pub lens_of : List Spot → List ℕ
lens_of spots = lens_from [] spots

abbrev pub len_at : List ℕ → ℕ → ℕ
len_at lens i = max (slice_index_or lens i 1) 1

abbrev pub slot_name : List Spot → ℕ → List ℕ
slot_name spots i = option_map_or (λ (s : Spot). step_name s.step) (slice_get spots i) []

abbrev pub slot_parent : List Spot → ℕ → ℕ
slot_parent spots i = option_map_or (λ (s : Spot). s.parent) (slice_get spots i) 0

-- the text of a path by the slots above, at most so many; the root's is empty
abbrev pub with_slash : List Spot → List ℕ → ℕ → List ℕ
with_slash spots text i = text ++ codes "/" ++ slot_name spots i

abbrev pub slot_text : ℕ → List Spot → ℕ → List ℕ
slot_text zero spots i = []
slot_text (suc n) spots i = if nat_eq i 0 then [] else with_slash spots (slot_text n spots (slot_parent spots i)) i

abbrev pub text_of : List Spot → ℕ → List ℕ
text_of spots i = slot_text (length spots) spots i

-- ---- sizes

abbrev pub total_len : List ℕ → List ℕ → ℕ
total_len lens slots = min (sum_by (len_at lens) slots) most

abbrev pub slots_too_many : List ℕ → List ℕ → Bool
slots_too_many slots lens = nat_lt 65535 (length slots) || nat_lt 16777216 (total_len lens slots)

abbrev pub path_size : List ℕ → Option ℕ → ℕ
path_size lens None = 0
path_size lens (Some i) = min (len_at lens i + 1) most

abbrev pub slot_part_size : ReaderData → List ℕ → PartData → ℕ
slot_part_size r lens (Plain p) = length p.bytes
slot_part_size r lens (Cells cells) = min (length cells * 4) most
slot_part_size r lens (Path t) = path_size lens (named_slot r t)

abbrev pub size_from : ReaderData → List ℕ → ℕ → List PartData → ℕ
size_from r lens all [] = all
size_from r lens all (p ∷ ps) = size_from r lens (min (all + slot_part_size r lens p) most) ps

abbrev pub value_at : GrownData → ℕ → List PartData
value_at g i = slice_index_or g.values i []

abbrev pub labels_at : GrownData → ℕ → List (List ℕ)
labels_at g i = slice_index_or g.labels i []

abbrev pub has_large : ReaderData → GrownData → List ℕ → List ℕ → Bool
has_large r g lens props = list_any (λ q. nat_lt 65536 (size_from r lens 0 (value_at g q))) props

abbrev pub first_large_slot : ReaderData → GrownData → List ℕ → List (List ℕ) → List ℕ → Option ℕ
first_large_slot r g lens props slots = find (λ i. has_large r g lens (below_in props i)) slots

-- ---- labels

abbrev pub any_seen : List (List ℕ) → List (List ℕ) → Bool
any_seen seen ls = list_any (λ l. list_any (bytes_eq l) seen) ls

abbrev pub shared_from : GrownData → List (List ℕ) → List ℕ → Option ℕ
shared_from g seen [] = None
shared_from g seen (i ∷ is) =
    if any_seen seen (labels_at g i) then Some i else shared_from g (fold (with_new bytes_eq) seen (labels_at g i)) is

-- ---- dropping

abbrev pub wants : ReaderData → List Bool → Target → List Bool
wants r marks t = option_map_or (λ i. slice_set marks i true) (named_slot r t) marks

abbrev pub wanted_parts : ReaderData → List Bool → List PartData → List Bool
wanted_parts r marks [] = marks
wanted_parts r marks (p ∷ ps) = wanted_parts r (fold (wants r) marks (part_targets p)) ps

abbrev pub wanted_by : ReaderData → GrownData → List Bool → ℕ → List Bool
wanted_by r g marks q = wanted_parts r marks (value_at g q)

abbrev pub wanted_from : ReaderData → GrownData → List (List ℕ) → List Bool → List ℕ → List Bool
wanted_from r g props marks [] = marks
wanted_from r g props marks (i ∷ is) = wanted_from r g props (fold (wanted_by r g) marks (below_in props i)) is

-- whether a slot stays: it was kept, and isn't marked or is wanted
abbrev pub stays_at : List Bool → List Bool → List Bool → ℕ → Bool
stays_at keep marks wanted i =
    slice_index_or keep i false && not (slice_index_or marks i false && not (slice_index_or wanted i false))

abbrev pub stays_list : List Bool → List Bool → List Bool → List Bool
stays_list keep marks wanted = map (stays_at keep marks wanted) (range_with_len 0 (length keep))
