-- The tree of names below a node.
use Rattle.std.specs.Prelude.{ℕ, ◌+◌, List, [], ◌∷◌, max}

-- no nodes, or a node with its name, the nodes below it and its later siblings
pub data Forest : Type 0 where
  none : Forest
  tree : (name : List ℕ) → (below : Forest) → (later : Forest) → Forest

-- how many nodes there are
abbrev pub size : Forest → ℕ
size none = 0
size (tree name below later) = 1 + size below + size later

-- how deep the nodes nest
abbrev pub depth : Forest → ℕ
depth none = 0
depth (tree name below later) = max (1 + depth below) (depth later)

-- the names of the nodes that are siblings
abbrev pub names : Forest → List (List ℕ)
names none = []
names (tree name below later) = name ∷ names later
