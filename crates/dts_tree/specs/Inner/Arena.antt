-- How the code keeps nodes and properties: a list of slots, each with what stands in it. No part of what is promised.
use Rattle.std.specs.Prelude.{ℕ, zero, suc, ◌+◌, ◌-◌, Bool, true, false, not, List, [], ◌∷◌, ◌++◌, Option, Some, None, length, fold, sum_by, slice_get, slice_index_or, slice_set, take, nat_eq, if◌then◌else◌}
use Rattle.std.specs.Option.{option_and_then}
use Rattle.std.specs.List.{slice_split}
use Rattle.std.specs.Map.{lookup}
use Rattle.std.specs.BTreeMap.{insert_entry, is_at}
use Rattle.std.specs.Ordering.{nat_cmp}
use Rattle.std.specs.Cmp.Lexicographic.{slice_cmp}
use Rattle.dts_tree.specs.declared.spot.Step.{Step}
use Rattle.dts_tree.specs.declared.spot.Step.TheVariants.{Child, Prop}
use Rattle.dts_tree.specs.declared.spot.Spot.{Spot}

-- where steps led last, by name
pub record LeadsData : Type 0 where
  pub children : List (List ℕ × ℕ)
  pub props : List (List ℕ × ℕ)

pub record ArenaData : Type 0 where
  pub spots : List Spot
  pub gone : List Bool
  pub below : List (List ℕ)
  pub leads : List LeadsData

-- what a sorted list has under a name
abbrev pub named : List ℕ → List (List ℕ × ℕ) → Option ℕ
named name es = lookup (is_at (slice_cmp nat_cmp name)) es

abbrev pub with_name : List (List ℕ × ℕ) → List ℕ → ℕ → List (List ℕ × ℕ)
with_name es name id = insert_entry (slice_cmp nat_cmp) es name id

abbrev pub lead_of : LeadsData → Step → Option ℕ
lead_of l (Child n) = named n l.children
lead_of l (Prop n) = named n l.props

abbrev pub with_lead : LeadsData → Step → ℕ → LeadsData
with_lead l (Child n) id = record l { children = with_name l.children n id }
with_lead l (Prop n) id = record l { props = with_name l.props n id }

abbrev pub no_leads : LeadsData
no_leads = record { children = []; props = [] }

-- a slot that was taken away; all past the last are
abbrev pub is_gone : List Bool → ℕ → Bool
is_gone gone i = slice_index_or gone i true

abbrev pub is_alive : List Bool → ℕ → Bool
is_alive gone i = not (is_gone gone i)

abbrev pub there : List Bool → ℕ → Option ℕ
there gone i = if is_gone gone i then None else Some i

abbrev pub child_of : ArenaData → ℕ → Step → Option ℕ
child_of a at step = option_and_then (λ l. option_and_then (there a.gone) (lead_of l step)) (slice_get a.leads at)

abbrev pub spot : Step → ℕ → Spot
spot step parent = record { step = step; parent = parent }

abbrev pub pushed : List (List ℕ) → ℕ → ℕ → List (List ℕ)
pushed xs i y = slice_set xs i (slice_index_or xs i [] ++ y ∷ [])

abbrev pub leading : List LeadsData → ℕ → Step → ℕ → List LeadsData
leading ls i step id = slice_set ls i (with_lead (slice_index_or ls i no_leads) step id)

-- one slot more
abbrev pub grown : ArenaData → Step → ℕ → ArenaData
grown a step parent = record {
  spots = a.spots ++ spot step parent ∷ [];
  gone = a.gone ++ false ∷ [];
  below = a.below ++ [] ∷ [];
  leads = a.leads ++ no_leads ∷ [];
}

-- the same, where the node in which it stands knows of it
abbrev pub added : ArenaData → ℕ → Step → ArenaData
added a at step = grown (record a {
  below = pushed a.below at (length a.spots);
  leads = leading a.leads at step (length a.spots);
}) step at

abbrev pub root_arena : ArenaData
root_arena = grown (record { spots = []; gone = []; below = []; leads = [] }) (Child []) 0

-- the slot of a step from a node, begun where it isn't there
abbrev pub entered_at : ArenaData → ℕ → Step → Option ℕ → ArenaData
entered_at a at step None = added a at step
entered_at a at step (Some id) = a

abbrev pub slot_at : ArenaData → Option ℕ → ℕ
slot_at a None = length a.spots
slot_at a (Some id) = id

abbrev pub entered : ArenaData → ℕ → Step → ArenaData
entered a at step = entered_at a at step (child_of a at step)

abbrev pub entered_slot : ArenaData → ℕ → Step → ℕ
entered_slot a at step = slot_at a (child_of a at step)

-- ---- a node of a path

abbrev pub down : ArenaData → Option ℕ → List ℕ → Option ℕ
down a at [] = at
down a at (b ∷ rest) = option_and_then (λ i. child_of a i (Child (b ∷ rest))) at

abbrev pub at_names : ArenaData → List (List ℕ) → Option ℕ
at_names a names = fold (down a) (Some 0) names

abbrev pub at_path : ArenaData → List ℕ → Option ℕ
at_path a text = at_names a (slice_split (λ b. nat_eq b 47) text)

-- ---- taking away

-- one slot is taken away; what stands in it waits for the same
abbrev pub left_at : ArenaData → ℕ → ArenaData
left_at a id = record a { gone = slice_set a.gone id true; below = slice_set a.below id [] }

abbrev pub last_slot : {X : Type 0} → List X → Option X
last_slot xs = slice_get xs (length xs - 1)

abbrev pub but_last : {X : Type 0} → List X → List X
but_last xs = take (length xs - 1) xs

abbrev pub sweep : ℕ → ArenaData → List ℕ → ArenaData
sweep zero a waiting = a
sweep (suc n) a waiting =
    elim (last_slot waiting) [
      | None ↦ a
      | Some id ↦ sweep n (left_at a id) (but_last waiting
          ++ slice_index_or a.below id [])
    ]

-- how many turns it takes
abbrev pub work : ArenaData → List ℕ → ℕ
work a waiting = length waiting + sum_by (λ (l : List ℕ). length l) a.below

abbrev pub removed : ArenaData → ℕ → ArenaData
removed a first = sweep (work a (first ∷ [])) a (first ∷ [])
