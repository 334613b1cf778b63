-- Which binding a node has, and on which bus it is (Zephyr 3.7, "Devicetree bindings syntax": `compatible`,
-- `child-binding`, `bus`, `on-bus`).
use Rattle.std.specs.Prelude.{◌≡◌, ◌+◌, ℕ, zero, suc, List, [], ◌∷◌, Option, Some, None, is_some, length, map, option_and_then, option_map, slice_get, unwrap_or, if◌then◌else◌}
use Rattle.std.specs.List.{range_with_len}
use Rattle.std.specs.Option.{option_map_or}
use Rattle.edt_base.specs.NodeData.{NodeData}
use Rattle.edt_base.specs.TreeData.{ancestors}
use Rattle.bind_merge.specs.Levels.{LevelTable}
use Rattle.bind_merge.specs.LibraryData.{LibData, levels_of}
use Rattle.bind_merge.specs.Matching.{find_in}
use Rattle.bind_merge.specs.Options.{or_else}
use Rattle.bind_merge.specs.ViewData.{buses_in, child_in}

-- what is at a place of a list, where there is such a place
abbrev pub there : {X : Type 0} → Option (Option X) → Option X
there None = None
there (Some x) = x

-- Bindings

-- a binding: the file of a matching binding, and how many child-bindings down in it
abbrev pub Binding : Type 0
Binding = ℕ × ℕ

-- the child-binding so many steps down, where there is one
abbrev pub steps_down : ℕ → List LevelTable → Option (List LevelTable)
steps_down zero levels = Some levels
steps_down (suc n) levels = option_and_then (steps_down n) (child_in levels)

-- the merged levels of a binding
abbrev pub levels_at : LibData → Binding → Option (List LevelTable)
levels_at lib b = steps_down b.1 (levels_of lib.bindings b.0)

-- the child-binding of a binding, where it has one
abbrev pub child_of : LibData → Binding → Option Binding
child_of lib b = if is_some (levels_at lib (b.0, b.1 + 1)) then Some (b.0, b.1 + 1) else None

-- the buses that a binding's nodes give to those below them
abbrev pub buses_of : LibData → Binding → Option (List (List ℕ))
buses_of lib b = option_and_then buses_in (levels_at lib b)

-- Compatible strings

-- the binding for a compatible string: that on the first of the buses that has one, else that on no bus
abbrev pub file_for : LibData → List (List ℕ) → List ℕ → Option ℕ
file_for lib [] compat = find_in lib.files compat None lib.bindings
file_for lib (bus ∷ buses) compat =
    or_else (find_in lib.files compat (Some bus) lib.bindings) (file_for lib buses compat)

-- the same for the first of some strings that has one
abbrev pub first_file : LibData → List (List ℕ) → List (List ℕ) → Option ℕ
first_file lib buses [] = None
first_file lib buses (compat ∷ compats) = or_else (file_for lib buses compat) (first_file lib buses compats)

-- A node

-- the bus that a node is on: the bus node, and the buses of that node's binding
pub record Bus : Type 0 where
  pub node : ℕ
  pub names : List (List ℕ)

-- a node's binding and bus, where it has them
pub record Match : Type 0 where
  pub binding : Option Binding
  pub bus : Option Bus

-- what is above the root
abbrev pub no_match : Match
no_match = record { binding = None; bus = None }

-- the bus of the nodes in a node: the node itself where its binding has `bus`, else the bus that it is on itself
abbrev pub bus_in : LibData → ℕ → Match → Option Bus
bus_in lib up m = option_map_or (λ names. Some (record { node = up; names = names }))
    (option_and_then (buses_of lib) m.binding) m.bus

-- the buses to try for a node, in order
abbrev pub names_on : Option Bus → List (List ℕ)
names_on None = []
names_on (Some bus) = bus.names

-- the binding of a node with these compatible strings: the first that is for one of them on the node's bus; a node
-- without compatible strings has the child-binding of its parent's binding
abbrev pub binding_by : LibData → Option Bus → Option Binding → List (List ℕ) → Option Binding
binding_by lib bus above [] = option_and_then (child_of lib) above
binding_by lib bus above (compat ∷ compats) =
    option_map (λ file. (file, 0)) (first_file lib (names_on bus) (compat ∷ compats))

-- a node's match, by its bus and its parent's match
abbrev pub match_by : LibData → Option Bus → Match → List (List ℕ) → Match
match_by lib bus above compats = record { binding = binding_by lib bus above.binding compats; bus = bus }

-- the compatible strings of the node at a place, none past the nodes
abbrev pub compats_at : List NodeData → ℕ → List (List ℕ)
compats_at nodes id = unwrap_or (option_map (λ n. n.compats) (slice_get nodes id)) []

-- a match of the first of some places, each of which is the parent of the one before it
abbrev pub match_along : List NodeData → LibData → List ℕ → Match
match_along nodes lib [] = no_match
match_along nodes lib (id ∷ []) = match_by lib None no_match (compats_at nodes id)
match_along nodes lib (id ∷ up ∷ above) = match_by lib (bus_in lib up (match_along nodes lib (up ∷ above)))
    (match_along nodes lib (up ∷ above)) (compats_at nodes id)

-- the match of the node at a place
unfoldable pub match_at : List NodeData → LibData → ℕ → Match
match_at nodes lib id = match_along nodes lib (id ∷ ancestors nodes id)

-- the merged binding of the node at a place, its own level first: what the layers above ask
abbrev pub binding_at : List NodeData → LibData → ℕ → Option (List LevelTable)
binding_at nodes lib id = option_and_then (levels_at lib) (match_at nodes lib id).binding

-- All nodes

-- the bindings and the bus nodes of all nodes
pub record MatchesData : Type 0 where
  pub of : List (Option Binding)
  pub bus : List (Option ℕ)

-- they are those of these nodes, by this library
pub record IsMatches (nodes : List NodeData) (lib : LibData) (m : MatchesData) : Type 0 where
  pub of : m.of ≡ map (λ id. (match_at nodes lib id).binding) (range_with_len 0 (length nodes))
  pub bus : m.bus ≡ map (λ id. option_map (λ b. b.node) (match_at nodes lib id).bus) (range_with_len 0 (length nodes))
