-- How an address goes up, from the children of a node to the root.
use Rattle.std.specs.Prelude.{◌+◌, ◌-◌, ◌≤◌, ◌^◌, ℕ, Bool, ◌&&◌, List, [], ◌∷◌, Option, Some, None, Result, Ok, Err, All, IsOk, map, nat_le, nat_lt, option_map, option_and_then, ⊤}
use Rattle.std.specs.List.{find}
use Rattle.std.specs.Option.{option_map_or}
use Rattle.edt_base.specs.NodeData.{NodeData}
use Rattle.edt_base.specs.TreeData.{ancestors}
use Rattle.edt_base.specs.declared.bound.Range.{Range}
use Rattle.edt_base.specs.declared.fault.Rule.{Rule}
use Rattle.reg_ranges.specs.Ranges.{ranges_at, ranges_of}

-- the address is one of the range's child addresses
abbrev pub fits : ℕ → Range → Bool
fits a r = nat_le r.child a && nat_lt a (r.child + r.len)

-- the address that the parent has for it
abbrev pub moved : ℕ → Range → ℕ
moved a r = r.parent + (a - r.child)

-- through one node: by the first range that fits, or unchanged where `ranges` is empty. None where it stops: there is
-- no `ranges`, or none fits
abbrev pub passed : Option (List Range) → ℕ → Option ℕ
passed None a = None
passed (Some []) a = Some a
passed (Some (r ∷ rs)) a = option_map (moved a) (find (fits a) (r ∷ rs))

-- through one node after another, from the innermost up, till it stops or they end
abbrev pub translated : List (Option (List Range)) → ℕ → ℕ
translated [] a = a
translated (way ∷ ways) a = option_map_or (translated ways) (passed way a) a

-- the ranges through which an address passes a node
abbrev pub when_whole : Result (List Range) Rule → Option (List Range)
when_whole (Ok ranges) = Some ranges
when_whole (Err rule) = None

abbrev pub way_through : List NodeData → ℕ → Option (List Range)
way_through nodes id = option_and_then when_whole (ranges_at nodes id)

-- from the parent of the node at a place up to the root
abbrev pub translation : List NodeData → ℕ → ℕ → ℕ
translation nodes id a = translated (map (way_through nodes) (ancestors nodes id)) a

-- the ranges of all above a node are without fault
abbrev pub AreWhole : List NodeData → List ℕ → Type 0
AreWhole nodes above = All (λ id. IsOk (ranges_of nodes id)) above

-- a range stays within 128 bits
pub record IsWithin (r : Range) : Type 0 where
  pub child : r.child + r.len ≤ 2 ^ 128
  pub parent : r.parent + r.len ≤ 2 ^ 128

-- the same through the ranges of a value
abbrev pub passed_by : Option (Result (List Range) Rule) → ℕ → Option ℕ
passed_by ranges a = passed (option_and_then when_whole ranges) a

-- the ranges of a node on the way stay within 128 bits
abbrev pub IsWithinWay : Option (List Range) → Type 0
IsWithinWay None = ⊤
IsWithinWay (Some ranges) = All IsWithin ranges
