-- Ordinals in rising order: those of the nodes that a node requires, and of those that require it.
use Rattle.std.specs.Prelude.{ℕ, List, [], ◌∷◌, map, nat_le, slice_get, unwrap_or, if◌then◌else◌}
use Rattle.std.specs.Option.{option_map}
use Rattle.edt_base.specs.BoundNodeData.{BoundNodeData}

-- the ordinal of a node, 0 past the nodes
abbrev pub ord_at : List BoundNodeData → ℕ → ℕ
ord_at nodes id = unwrap_or (option_map (λ n. n.ord) (slice_get nodes id)) 0

-- a number put before the first that isn't less
abbrev pub insert_rising : ℕ → List ℕ → List ℕ
insert_rising x [] = x ∷ []
insert_rising x (y ∷ ys) = if nat_le x y then x ∷ y ∷ ys else y ∷ insert_rising x ys

-- the same numbers in rising order
abbrev pub rising : List ℕ → List ℕ
rising [] = []
rising (x ∷ xs) = insert_rising x (rising xs)

-- the ordinals, rising, of the nodes that a node requires and of those that require it
pub record OrdsData : Type 0 where
  pub needs : List ℕ
  pub supports : List ℕ

abbrev pub ords_of : List BoundNodeData → BoundNodeData → OrdsData
ords_of nodes n = record { needs = rising (map (ord_at nodes) n.needs); supports = rising (map (ord_at nodes) n.supports) }

-- the same of the node at a place, none past the nodes
abbrev pub ords_at : List BoundNodeData → ℕ → OrdsData
ords_at nodes id = unwrap_or (option_map (ords_of nodes) (slice_get nodes id)) (record { needs = []; supports = [] })
