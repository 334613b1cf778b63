-- What follows from the definition of a match.
use Rattle.std.proofs.Common.{◌≡◌, ◌∙◌, ◌+◌, ◌<◌, ◌≤◌, ◌∷◌, [], ℕ, zero, suc, Bool, true, false, List, Option, Some, None, IfSome, is_some, length, map, slice_get, refl, sym, ap, subst, arith, if◌then◌else◌, nat_eq, option_and_then, option_map}
use Rattle.std.specs.List.{range_with_len}
use Rattle.std.specs.Option.{option_map_or}
use Rattle.std.proofs.lemmas.Bool.{eq-eqb}
use Rattle.std.proofs.lemmas.List.FromFn.{get_or-map-range_with_len, length-map-range_with_len}
use Rattle.std.proofs.lemmas.Option.{slice_get_read}
use Rattle.edt_base.specs.NodeData.{NodeData}
use Rattle.edt_base.specs.TreeData.{IsWellFormed, TreeData, ancestors, parent_of}
use Rattle.edt_base.proofs.TreeLaws.{above, above_root, before}
use Rattle.bind_merge.specs.Levels.{LevelTable}
use Rattle.bind_merge.specs.LibraryData.{BindingData, LibData}
use Rattle.bind_merge.specs.Listing.{File}
use Rattle.bind_merge.specs.Matching.{find_in, is_bound, is_for}
use Rattle.bind_merge.specs.Options.{or_else}
use Rattle.bind_merge.specs.ViewData.{child_in}
use Rattle.pha_nexus.specs.Matching.{Binding, Bus, IsMatches, Match, MatchesData, binding_by, bus_in, buses_of, compats_at, file_for, first_file, levels_at, match_along, match_at, match_by, names_on, no_match, steps_down, there}

-- ---- a node's binding is one of the library

by_test : (b : BindingData) (bs : List BindingData) (f : ℕ) (x : Bool) (rest : Option ℕ) → (rest ≡ Some f → is_bound bs f ≡ true)
    → (if x then Some b.file else rest) ≡ Some f → is_bound (b ∷ bs) f ≡ true
by_test b bs f true rest next e =
    let same : b.file ≡ f = ap (λ (o : Option ℕ). option_map_or (λ (k : ℕ). k) o 0) e in
    let test : nat_eq b.file f ≡ true = eq-eqb b.file f same in
    simp test refl
by_test b bs f false rest next e = by_head (nat_eq b.file f) refl
  where
    by_head : (h : Bool) → nat_eq b.file f ≡ h → is_bound (b ∷ bs) f ≡ true
    by_head true h = simp h refl
    by_head false h = rw h (next e)

pub found_bound : (files : List File) (compat : List ℕ) (bus : Option (List ℕ)) (bs : List BindingData) (f : ℕ)
    → find_in files compat bus bs ≡ Some f → is_bound bs f ≡ true
found_bound files compat bus [] f e = cc
found_bound files compat bus (b ∷ bs) f e =
    by_test b bs f (is_for files (Some compat) bus b) (find_in files compat bus bs) (found_bound files compat bus bs f) e

one_of : (bs : List BindingData) (o q : Option ℕ) (f : ℕ) → (o ≡ Some f → is_bound bs f ≡ true)
    → (q ≡ Some f → is_bound bs f ≡ true) → or_else o q ≡ Some f → is_bound bs f ≡ true
one_of bs None q f h k e = k e
one_of bs (Some x) q f h k e = h e

pub file_bound : (lib : LibData) (buses : List (List ℕ)) (compat : List ℕ) (f : ℕ)
    → file_for lib buses compat ≡ Some f → is_bound lib.bindings f ≡ true
file_bound lib [] compat f e = found_bound lib.files compat None lib.bindings f e
file_bound lib (bus ∷ buses) compat f e =
    one_of lib.bindings (find_in lib.files compat (Some bus) lib.bindings) (file_for lib buses compat) f
    (found_bound lib.files compat (Some bus) lib.bindings f) (file_bound lib buses compat f) e

pub first_bound : (lib : LibData) (buses compats : List (List ℕ)) (f : ℕ)
    → first_file lib buses compats ≡ Some f → is_bound lib.bindings f ≡ true
first_bound lib buses [] f e = cc
first_bound lib buses (c ∷ cs) f e =
    one_of lib.bindings (file_for lib buses c) (first_file lib buses cs) f (file_bound lib buses c f) (first_bound lib buses cs f) e

-- the file of a binding, where there is one, is that of one of the library
abbrev pub IsOfLibrary : LibData → Option Binding → Type 0
IsOfLibrary lib o = IfSome o (λ b. is_bound lib.bindings b.0 ≡ true)

by_child : (lib : LibData) (a : Binding) (x : Bool) → is_bound lib.bindings a.0 ≡ true
    → IsOfLibrary lib (if x then Some (a.0, a.1 + 1) else None)
by_child lib a true h = h
by_child lib a false h = tt

by_file : (lib : LibData) (o : Option ℕ) → ((f : ℕ) → o ≡ Some f → is_bound lib.bindings f ≡ true)
    → IsOfLibrary lib (option_map (λ file. (file, 0)) o)
by_file lib None h = tt
by_file lib (Some f) h = h f refl

pub by_compats : (lib : LibData) (bus : Option Bus) (above : Option Binding) (compats : List (List ℕ)) → IsOfLibrary lib above
    → IsOfLibrary lib (binding_by lib bus above compats)
by_compats lib bus None [] h = tt
by_compats lib bus (Some a) [] h = by_child lib a (is_some (levels_at lib (a.0, a.1 + 1))) h
by_compats lib bus above (c ∷ cs) h = by_file lib (first_file lib (names_on bus) (c ∷ cs)) (first_bound lib (names_on bus) (c ∷ cs))

along_bound : (nodes : List NodeData) (lib : LibData) (ids : List ℕ) → IsOfLibrary lib (match_along nodes lib ids).binding
along_bound nodes lib [] = tt
along_bound nodes lib (id ∷ []) = by_compats lib None None (compats_at nodes id) tt
along_bound nodes lib (id ∷ up ∷ above) =
    by_compats lib (bus_in lib up (match_along nodes lib (up ∷ above))) (match_along nodes lib (up ∷ above)).binding (compats_at nodes id)
    (along_bound nodes lib (up ∷ above))

pub match_bound : (nodes : List NodeData) (lib : LibData) (id : ℕ) → IsOfLibrary lib (match_at nodes lib id).binding
unfolding match_at
match_bound nodes lib id = along_bound nodes lib (id ∷ ancestors nodes id)

-- ---- the matches of all nodes

at_range : {X : Type 0} (f : ℕ → X) (n i : ℕ) → i < n → slice_get (map f (range_with_len 0 n)) i ≡ Some (f i)
at_range f n i l = slice_get_read (map f (range_with_len 0 n)) n i (f i) (sym (length-map-range_with_len f 0 n)) l
    (sym (get_or-map-range_with_len f 0 n i i (f i) l (omega arith)))

pub at_match : (nodes : List NodeData) (lib : LibData) (m : MatchesData) (id : ℕ) → IsMatches nodes lib m → id < length nodes
    → there (slice_get m.of id) ≡ (match_at nodes lib id).binding
at_match nodes lib m id is l = ap (λ (os : List (Option Binding)). there (slice_get os id)) is.of
    ∙ ap there (at_range (λ k. (match_at nodes lib k).binding) (length nodes) id l)

pub at_bound : (nodes : List NodeData) (lib : LibData) (m : MatchesData) (id : ℕ) → IsMatches nodes lib m → id < length nodes
    → IsOfLibrary lib (there (slice_get m.of id))
at_bound nodes lib m id is l = subst (IsOfLibrary lib) (sym (at_match nodes lib m id is l)) (match_bound nodes lib id)

-- ---- steps down

pub steps_on : (n m : ℕ) (v w : List LevelTable) → n ≡ suc m → child_in v ≡ Some w → steps_down n v ≡ steps_down m w
steps_on n m v w e child = ap (λ k. steps_down k v) e ∙ ap (option_and_then (steps_down m)) child

-- ---- a match is told by the parent's

pub match_of_root : (t : TreeData) (lib : LibData) (id : ℕ) → parent_of t.nodes id ≡ None
    → match_at t.nodes lib id ≡ match_by lib None no_match (compats_at t.nodes id)
unfolding match_at
match_of_root t lib id none = ap (λ (ids : List ℕ). match_along t.nodes lib (id ∷ ids)) (above_root t id none)

pub match_of_child : (t : TreeData) (lib : LibData) (id up : ℕ) → IsWellFormed t → parent_of t.nodes id ≡ Some up
    → match_at t.nodes lib id ≡ match_by lib (bus_in lib up (match_at t.nodes lib up)) (match_at t.nodes lib up) (compats_at t.nodes id)
unfolding match_at
match_of_child t lib id up well e = ap (λ (ids : List ℕ). match_along t.nodes lib (id ∷ ids)) (above t id up well e)

-- no binding is more steps down than nodes stand before the node
abbrev pub IsWithinSteps : ℕ → Option Binding → Type 0
IsWithinSteps most o = IfSome o (λ b. b.1 ≤ most)

child_steps : (lib : LibData) (a : Binding) (x : Bool) (up id : ℕ) → up < id → a.1 ≤ up
    → IsWithinSteps id (if x then Some (a.0, a.1 + 1) else None)
child_steps lib a true up id l h = omega arith
child_steps lib a false up id l h = tt

file_steps : (o : Option ℕ) (id : ℕ) → IsWithinSteps id (option_map (λ file. (file, 0)) o)
file_steps None id = tt
file_steps (Some f) id = omega arith

steps_by : (lib : LibData) (bus : Option Bus) (above : Option Binding) (compats : List (List ℕ)) (up id : ℕ) → up < id
    → IsWithinSteps up above → IsWithinSteps id (binding_by lib bus above compats)
steps_by lib bus None [] up id l h = tt
steps_by lib bus (Some a) [] up id l h = child_steps lib a (is_some (levels_at lib (a.0, a.1 + 1))) up id l h
steps_by lib bus above (c ∷ cs) up id l h = file_steps (first_file lib (names_on bus) (c ∷ cs)) id

root_steps : (lib : LibData) (compats : List (List ℕ)) (id : ℕ) → IsWithinSteps id (binding_by lib None None compats)
root_steps lib [] id = tt
root_steps lib (c ∷ cs) id = file_steps (first_file lib [] (c ∷ cs)) id

-- the bus of a match is a node before this one, and its names are the buses of that node's binding
abbrev pub IsBusAt : List NodeData → LibData → ℕ → Option Bus → Type 0
IsBusAt nodes lib id o = IfSome o (λ b. (b.node < id) × (option_and_then (buses_of lib) (match_at nodes lib b.node).binding ≡ Some b.names))

further_bus : (nodes : List NodeData) (lib : LibData) (up id : ℕ) (o : Option Bus) → up < id → IsBusAt nodes lib up o → IsBusAt nodes lib id o
further_bus nodes lib up id None l h = tt
further_bus nodes lib up id (Some b) l h = let near : b.node < up = h.0 in (omega arith, h.1)

bus_here : (nodes : List NodeData) (lib : LibData) (up id : ℕ) (names : Option (List (List ℕ))) → up < id
    → option_and_then (buses_of lib) (match_at nodes lib up).binding ≡ names → IsBusAt nodes lib up (match_at nodes lib up).bus
    → IsBusAt nodes lib id (option_map_or (λ names. Some (record { node = up; names = names })) names (match_at nodes lib up).bus)
bus_here nodes lib up id None l e h = further_bus nodes lib up id (match_at nodes lib up).bus l h
bus_here nodes lib up id (Some names) l e h = (l, e)

-- both, of each node
abbrev pub IsGoodMatch : List NodeData → LibData → ℕ → Match → Type 0
IsGoodMatch nodes lib id m = IsWithinSteps id m.binding × IsBusAt nodes lib id m.bus

by_parent : (t : TreeData) (lib : LibData) → IsWellFormed t → (id : ℕ) → ((up : ℕ) → up < id → IsGoodMatch t.nodes lib up (match_at t.nodes lib up))
    → (o : Option ℕ) → parent_of t.nodes id ≡ o → IsGoodMatch t.nodes lib id (match_at t.nodes lib id)
by_parent t lib well id next None e = subst (IsGoodMatch t.nodes lib id) (sym (match_of_root t lib id e))
    (root_steps lib (compats_at t.nodes id) id, tt)
by_parent t lib well id next (Some up) e =
    let l : up < id = before t id up well e in
    subst (IsGoodMatch t.nodes lib id) (sym (match_of_child t lib id up well e)) (
      steps_by lib (bus_in lib up (match_at t.nodes lib up)) (match_at t.nodes lib up).binding (compats_at t.nodes id) up id l (next up l).0,
      bus_here t.nodes lib up id (option_and_then (buses_of lib) (match_at t.nodes lib up).binding) l refl (next up l).1,
    )

good_within : (t : TreeData) (lib : LibData) → IsWellFormed t → (k id : ℕ) → id ≤ k → IsGoodMatch t.nodes lib id (match_at t.nodes lib id)
good_within t lib well zero id le = by_parent t lib well id (λ up l. absurd (omega arith)) (parent_of t.nodes id) refl
good_within t lib well (suc k) id le = by_parent t lib well id (λ up l. good_within t lib well k up (omega arith)) (parent_of t.nodes id) refl

pub good_match : (t : TreeData) (lib : LibData) (id : ℕ) → IsWellFormed t → IsGoodMatch t.nodes lib id (match_at t.nodes lib id)
good_match t lib id well = good_within t lib well id id (omega arith)
