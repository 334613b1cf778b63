-- How the code carries statements out. No part of what is promised.
use Rattle.std.specs.Prelude.{ℕ, ◌+◌, Bool, List, [], ◌∷◌, ◌++◌, Option, Some, None, Result, Ok, Err, length, filter, slice_index_or, slice_set, nat_eq, unwrap_or, ⊤, ◌≡◌, if◌then◌else◌}
use Rattle.std.specs.List.{list_any}
use Rattle.dts_parse.specs.StmtData.{ActData, StmtData, Open, Close, Label, Assign, DelProp, DelNode, Omit}
use Rattle.dts_parse.specs.declared.script.Target.{Target}
use Rattle.dts_parse.specs.declared.script.Target.TheVariants as target
use Rattle.dts_tree.specs.declared.spot.Step.{Step}
use Rattle.dts_tree.specs.declared.spot.Step.TheVariants.{Child, Prop}
use Rattle.dts_tree.specs.Inner.Arena.{ArenaData, named, with_name, is_alive, child_of, entered, entered_slot, at_path, removed, root_arena, last_slot, but_last, pushed}
use Rattle.dts_tree.specs.Live.{last_of}
use Rattle.dts_tree.specs.Reading.{Unnamed}
use Rattle.dts_tree.specs.declared.stop.Stop.{Stop}
use Rattle.dts_tree.specs.declared.stop.Stop.TheVariants as stop

-- a statement with the slot that it speaks of
pub record EventData : Type 0 where
  pub slot : ℕ
  pub act : ActData

abbrev pub event : ℕ → ActData → EventData
event slot act = record { slot = slot; act = act }

-- each label's number, and by number the slots that it was put on
pub record LabelsData : Type 0 where
  pub numbers : List (List ℕ × ℕ)
  pub stacks : List (List ℕ)

pub record ReaderData : Type 0 where
  pub arena : ArenaData
  pub events : List EventData
  pub labels : LabelsData
  pub within : List ℕ

abbrev pub no_labels : LabelsData
no_labels = record { numbers = []; stacks = [] }

abbrev pub reader_start : ReaderData
reader_start = record { arena = root_arena; events = []; labels = no_labels; within = [] }

-- ---- labels

abbrev pub put_at : LabelsData → List ℕ → ℕ → Option ℕ → LabelsData
put_at l label slot None =
    record { numbers = with_name l.numbers label (length l.stacks); stacks = l.stacks ++ (slot ∷ []) ∷ [] }
put_at l label slot (Some n) = record l { stacks = pushed l.stacks n slot }

abbrev pub with_label : LabelsData → List ℕ → ℕ → LabelsData
with_label l label slot = put_at l label slot (named label l.numbers)

-- without those behind the last that is there
abbrev pub trimmed : List Bool → List ℕ → List ℕ
trimmed gone [] = []
trimmed gone (i ∷ is) = if list_any (is_alive gone) (i ∷ is) then i ∷ trimmed gone is else []

abbrev pub alive_in : List Bool → List ℕ → List ℕ
alive_in gone is = filter (is_alive gone) is

abbrev pub stack_at : LabelsData → Option ℕ → List ℕ
stack_at l None = []
stack_at l (Some n) = slice_index_or l.stacks n []

abbrev pub stack_of : LabelsData → List ℕ → List ℕ
stack_of l label = stack_at l (named label l.numbers)

abbrev pub trimmed_at : List Bool → LabelsData → Option ℕ → LabelsData
trimmed_at gone l None = l
trimmed_at gone l (Some n) = record l { stacks = slice_set l.stacks n (trimmed gone (slice_index_or l.stacks n [])) }

abbrev pub labels_after : List Bool → LabelsData → List ℕ → LabelsData
labels_after gone l label = trimmed_at gone l (named label l.numbers)

-- ---- references

abbrev pub named_slot : ReaderData → Target → Option ℕ
named_slot r target.Root = Some 0
named_slot r (target.Child n) = None
named_slot r (target.ByLabel l) = last_of (alive_in r.arena.gone (stack_of r.labels l))
named_slot r (target.ByPath t) = at_path r.arena t

-- what looking it up leaves
abbrev pub looked_up : ReaderData → Target → ReaderData
looked_up r target.Root = r
looked_up r (target.Child n) = r
looked_up r (target.ByLabel l) = record r { labels = labels_after r.arena.gone r.labels l }
looked_up r (target.ByPath t) = r

-- ---- statements

abbrev pub here_slot : ReaderData → ℕ
here_slot r = unwrap_or (last_slot r.within) 0

abbrev pub noted : ReaderData → ℕ → ActData → ReaderData
noted r slot act = record r { events = r.events ++ event slot act ∷ [] }

-- the slot of a step from the innermost node, begun where it isn't there, and the statement that speaks of it
abbrev pub entering : ReaderData → Step → ActData → ReaderData
entering r step act = record r {
  arena = entered r.arena (here_slot r) step;
  events = r.events ++ event (entered_slot r.arena (here_slot r) step) act ∷ [];
}

abbrev pub opened : ReaderData → List ℕ → ActData → ReaderData
opened r n act =
    record (entering r (Child n) act) { within = r.within ++ entered_slot r.arena (here_slot r) (Child n) ∷ [] }

abbrev pub opened_at : ReaderData → ℕ → ReaderData → Option ℕ → ActData → Result ReaderData ℕ
opened_at r at left None act = Err at
opened_at r at left (Some slot) act = Ok (record (noted left slot act) { within = slot ∷ [] })

abbrev pub opening_slot : ReaderData → ℕ → ActData → Target → Result ReaderData ℕ
opening_slot r at act (target.Child n) = Ok (opened r n act)
opening_slot r at act target.Root = opened_at r at (looked_up r target.Root) (named_slot r target.Root) act
opening_slot r at act (target.ByLabel l) =
    opened_at r at (looked_up r (target.ByLabel l)) (named_slot r (target.ByLabel l)) act
opening_slot r at act (target.ByPath t) =
    opened_at r at (looked_up r (target.ByPath t)) (named_slot r (target.ByPath t)) act

-- without a slot and all below it; without anything where it is the root
abbrev pub without : ReaderData → ℕ → ReaderData
without r slot =
    if nat_eq slot 0 then record r { arena = root_arena; events = []; labels = no_labels }
    else record r { arena = removed r.arena slot }

abbrev pub without_child : ReaderData → Option ℕ → ReaderData
without_child r None = r
without_child r (Some slot) = record r { arena = removed r.arena slot }

abbrev pub without_at : ℕ → ReaderData → Option ℕ → Result ReaderData ℕ
without_at at left None = Err at
without_at at left (Some slot) = Ok (without (record left { within = [] }) slot)

abbrev pub deleting_slot : ReaderData → ℕ → Target → Result ReaderData ℕ
deleting_slot r at (target.Child n) = Ok (without_child r (child_of r.arena (here_slot r) (Child n)))
deleting_slot r at target.Root = without_at at (looked_up r target.Root) (named_slot r target.Root)
deleting_slot r at (target.ByLabel l) = without_at at (looked_up r (target.ByLabel l)) (named_slot r (target.ByLabel l))
deleting_slot r at (target.ByPath t) = without_at at (looked_up r (target.ByPath t)) (named_slot r (target.ByPath t))

abbrev pub noted_child : ReaderData → Option ℕ → ActData → ReaderData
noted_child r None act = r
noted_child r (Some slot) act = noted r slot act

abbrev pub noted_at : ℕ → ReaderData → Option ℕ → ActData → Result ReaderData ℕ
noted_at at left None act = Err at
noted_at at left (Some slot) act = Ok (noted (record left { within = [] }) slot act)

abbrev pub marking_slot : ReaderData → ℕ → ActData → Target → Result ReaderData ℕ
marking_slot r at act (target.Child n) = Ok (noted_child r (child_of r.arena (here_slot r) (Child n)) act)
marking_slot r at act target.Root = noted_at at (looked_up r target.Root) (named_slot r target.Root) act
marking_slot r at act (target.ByLabel l) =
    noted_at at (looked_up r (target.ByLabel l)) (named_slot r (target.ByLabel l)) act
marking_slot r at act (target.ByPath t) =
    noted_at at (looked_up r (target.ByPath t)) (named_slot r (target.ByPath t)) act

abbrev pub labelling : ReaderData → List ℕ → ActData → ReaderData
labelling r l act = record (noted r (here_slot r) act) { labels = with_label r.labels l (here_slot r) }

-- a statement is carried out, or the byte of a reference that names no node
abbrev pub carried : ReaderData → ℕ → ActData → Result ReaderData ℕ
carried r at (Open t) = opening_slot r at (Open t) t
carried r at Close = Ok (record r { within = but_last r.within })
carried r at (Label l) = Ok (labelling r l (Label l))
carried r at (Assign n v) = Ok (entering r (Prop n) (Assign n v))
carried r at (DelProp n) = Ok (without_child r (child_of r.arena (here_slot r) (Prop n)))
carried r at (DelNode t) = deleting_slot r at t
carried r at (Omit t) = marking_slot r at (Omit t) t

abbrev pub carried_on : ReaderData → List StmtData → Result ReaderData ℕ
carried_on r [] = Ok r
carried_on r (s ∷ rest) = elim (carried r s.at s.act) [ Ok next ↦ carried_on next rest | Err at ↦ Err at ]

-- the answer of a call that carries statements out, where this is wanted
abbrev pub Steps : {T : Type 0} → Result ReaderData ℕ → ReaderData → Result T Stop → Type 0
Steps wanted new (Ok x) = wanted ≡ Ok new
Steps wanted new (Err (stop.Unnamed at)) = wanted ≡ Err at
Steps wanted new (Err (stop.Memory e)) = ⊤

-- the slot of a reference that stands at a byte, or the byte
abbrev pub Finds : Option ℕ → ℕ → Result ℕ Stop → Type 0
Finds wanted at (Ok slot) = wanted ≡ Some slot
Finds wanted at (Err (stop.Unnamed byte)) = (wanted ≡ None) × (byte ≡ at)
Finds wanted at (Err (stop.Memory e)) = ⊤

-- the statements of all sources, the first of which has this place among them
abbrev pub carried_all : ℕ → ReaderData → List (List StmtData) → Result ReaderData Unnamed
carried_all first r [] = Ok r
carried_all first r (s ∷ rest) =
    elim (carried_on (record r { within = [] }) s)
    [ Ok next ↦ carried_all (first + 1) next rest | Err at ↦ Err (record { source = first; at = at }) ]
