-- How instances are gathered: for each compatible string the nodes that list it, node by node and string by string.
use Rattle.std.specs.Prelude.{◌≡◌, ◌-◌, ◌++◌, ◌∷◌, [], ℕ, Bool, List, Option, Some, None, filter, length, not, slice_get, unwrap_or, if◌then◌else◌}
use Rattle.std.specs.List.{list_any, range_with_len}
use Rattle.std.specs.Map.{lookup}
use Rattle.std.specs.Str.{bytes_eq}
use Rattle.edt_base.specs.InstData.{InstData}
use Rattle.edt_base.specs.Instances.{lists_at}
use Rattle.edt_base.specs.NodeData.{NodeData, holds_number}
use Rattle.edt_base.specs.Nodes.{is_okay, okay_of}

-- strings, each with nodes
abbrev pub Entries : Type 0
Entries = List (List ℕ × List ℕ)

-- the nodes of a string, none where it isn't there
abbrev pub held : Entries → List ℕ → List ℕ
held entries compat = unwrap_or (lookup (bytes_eq compat) entries) []

-- the last of some nodes is this one
abbrev pub is_last : List ℕ → ℕ → Bool
is_last ids id = holds_number id (slice_get ids (length ids - 1))

-- nodes with this one as the last
abbrev pub with_last : List ℕ → ℕ → List ℕ
with_last ids id = if is_last ids id then ids else ids ++ id ∷ []

-- a node is put to the nodes of a string
abbrev pub IsAdded : List ℕ → ℕ → Entries → Entries → Type 0
IsAdded compat id old new = (q : List ℕ) → lookup (bytes_eq q) new
    ≡ (if bytes_eq compat q then Some (with_last (held old q) id) else lookup (bytes_eq q) old)

-- a node is put to the nodes of each of these strings
abbrev pub AreAdded : List (List ℕ) → ℕ → Entries → Entries → Type 0
AreAdded compats id old new = (q : List ℕ) → lookup (bytes_eq q) new
    ≡ (if list_any (λ c. bytes_eq c q) compats then Some (with_last (held old q) id) else lookup (bytes_eq q) old)

-- a list that isn't empty
abbrev pub some_of : List ℕ → Option (List ℕ)
some_of [] = None
some_of (id ∷ ids) = Some (id ∷ ids)

-- all strings that the nodes before a place list, each with those of them that list it, in preorder
abbrev pub AreGathered : List NodeData → ℕ → Entries → Type 0
AreGathered nodes place entries = (q : List ℕ) → lookup (bytes_eq q) entries
    ≡ some_of (filter (lists_at nodes q) (range_with_len 0 place))

-- of some nodes the okay ones, then the others
abbrev pub okay_first : List NodeData → List ℕ → List ℕ
okay_first nodes ids = okay_of nodes ids ++ filter (λ id. not (is_okay nodes id)) ids

-- the instances of a string, which these nodes list
abbrev pub inst_of : List NodeData → List ℕ → List ℕ → InstData
inst_of nodes compat ids = record {
  compat = compat;
  nodes = okay_first nodes ids;
  okay = length (okay_of nodes ids);
}
