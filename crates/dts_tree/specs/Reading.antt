-- What statements do one after another, and the first reference of a statement that names no node.
use Rattle.std.specs.Prelude.{ℕ, ◌+◌, List, [], ◌∷◌, ◌++◌, Option, Some, None, Result, Ok, Err, ◌-◌, length, slice_get, take, unwrap_or, if◌then◌else◌}
use Rattle.dts_parse.specs.StmtData.{ActData, StmtData, Open, Close, Label, Assign, DelProp, DelNode, Omit}
use Rattle.dts_parse.specs.declared.script.Target.{Target}
use Rattle.dts_parse.specs.declared.script.Target.TheVariants as target
use Rattle.dts_tree.specs.declared.spot.Step.TheVariants.{Child, Prop}
use Rattle.dts_tree.specs.Places.{Place}
use Rattle.dts_tree.specs.Deeds.{Deed, deed, uncovered}
use Rattle.dts_tree.specs.Live.{is_there, node_of}

-- what stands before a statement: the deeds of all before it, and the nodes that are open, the innermost last
pub record Before : Type 0 where
  pub deeds : List Deed
  pub within : List Place

abbrev pub live : Before → List Deed
live b = uncovered b.deeds

-- the innermost open node, the root where none is open
abbrev pub here : Before → Place
here b = unwrap_or (slice_get b.within (length b.within - 1)) []

abbrev pub closed : List Place → List Place
closed within = take (length within - 1) within

-- one deed more
abbrev pub done : Before → Place → ActData → Before
done b p act = record b { deeds = b.deeds ++ deed p act ∷ [] }

-- the same where the place is there: what isn't there can't be deleted or marked
abbrev pub done_if_there : Before → Place → ActData → Before
done_if_there b p act = if is_there (live b) p then done b p act else b

-- one deed more at the node of a reference, which stands outside of all openings, and what is open then
abbrev pub done_at : Before → ℕ → ActData → Option Place → (Place → List Place) → Result Before ℕ
done_at b at act None within = Err at
done_at b at act (Some p) within = Ok (record { deeds = b.deeds ++ deed p act ∷ []; within = within p })

abbrev pub opening : Before → ℕ → ActData → Target → Result Before ℕ
opening b at act (target.Child n) =
    Ok (record { deeds = b.deeds ++ deed (Child n ∷ here b) act ∷ []; within = b.within ++ (Child n ∷ here b) ∷ [] })
opening b at act target.Root = done_at b at act (node_of (live b) target.Root) (λ p. p ∷ [])
opening b at act (target.ByLabel l) = done_at b at act (node_of (live b) (target.ByLabel l)) (λ p. p ∷ [])
opening b at act (target.ByPath t) = done_at b at act (node_of (live b) (target.ByPath t)) (λ p. p ∷ [])

-- the same of a deletion or a mark, which leaves open what is open inside an opening, and nothing outside
abbrev pub naming : Before → ℕ → ActData → Target → Result Before ℕ
naming b at act (target.Child n) = Ok (done_if_there b (Child n ∷ here b) act)
naming b at act target.Root = done_at b at act (node_of (live b) target.Root) (λ _. [])
naming b at act (target.ByLabel l) = done_at b at act (node_of (live b) (target.ByLabel l)) (λ _. [])
naming b at act (target.ByPath t) = done_at b at act (node_of (live b) (target.ByPath t)) (λ _. [])

-- behind a statement, or the byte of a reference that names no node
abbrev pub after : Before → ℕ → ActData → Result Before ℕ
after b at (Open t) = opening b at (Open t) t
after b at Close = Ok (record b { within = closed b.within })
after b at (Label l) = Ok (done b (here b) (Label l))
after b at (Assign n v) = Ok (done b (Prop n ∷ here b) (Assign n v))
after b at (DelProp n) = Ok (done_if_there b (Prop n ∷ here b) (DelProp n))
after b at (DelNode t) = naming b at (DelNode t) t
after b at (Omit t) = naming b at (Omit t) t

-- behind a source's statements
abbrev pub read_on : Before → List StmtData → Result Before ℕ
read_on b [] = Ok b
read_on b (s ∷ rest) = elim (after b s.at s.act) [ Ok next ↦ read_on next rest | Err at ↦ Err at ]

-- at the first statement of all
abbrev pub start : Before
start = record { deeds = []; within = [] }

-- a reference of a statement that names no node: the place of its source, and its byte
pub record Unnamed : Type 0 where
  pub source : ℕ
  pub at : ℕ

-- behind the statements of all sources, the first of which has this place among them
abbrev pub read_all : ℕ → Before → List (List StmtData) → Result Before Unnamed
read_all first b [] = Ok b
read_all first b (s ∷ rest) =
    elim (read_on (record b { within = [] }) s)
    [ Ok next ↦ read_all (first + 1) next rest | Err at ↦ Err (record { source = first; at = at }) ]
