-- A bound node, as contracts see it, and what every one keeps.
use Rattle.std.specs.Prelude.{◌<◌, ℕ, List, [], Option, Some, None, All, IfSome, map}
use Rattle.std.specs.Cmp.Lexicographic.{slice_cmp}
use Rattle.std.specs.List.Sorted.{IsStrictlyIncreasing, IsStrictlySortedBy}
use Rattle.std.specs.Ordering.{nat_cmp}
use Rattle.edt_base.specs.EntryData.{EntryData}
use Rattle.edt_base.specs.PropData.{PropData, IsTyped}
use Rattle.edt_base.specs.declared.bound.Reg.{Reg}
use Rattle.edt_base.specs.declared.bound.Range.{Range}

-- its typed properties, registers, ranges and interrupts, the nodes that it requires and supports, its ordinal and its
-- bus
pub record BoundNodeData : Type 0 where
  pub props : List PropData
  pub regs : List Reg
  pub ranges : List Range
  pub irqs : List EntryData
  pub needs : List ℕ
  pub supports : List ℕ
  pub ord : ℕ
  pub bus : Option ℕ
  pub buses : List (List ℕ)

-- what a bound node keeps where the nodes are so many
pub record IsBoundNode (count : ℕ) (n : BoundNodeData) : Type 0 where
  -- each property has a value of its type, and as many choices as it has tested values
  pub props : All (IsTyped count) n.props
  -- the properties stand in byte order of their names, each name once
  pub names : IsStrictlySortedBy (slice_cmp nat_cmp) (map (λ (p : PropData). p.name) n.props)
  -- the interrupts go to nodes that are there
  pub irqs : All (λ (irq : EntryData). irq.controller < count) n.irqs
  -- the nodes that it requires are there
  pub needs : All (λ id. id < count) n.needs
  -- they stand in preorder, each once
  pub needs_order : IsStrictlyIncreasing n.needs
  -- the nodes that require it are there
  pub supports : All (λ id. id < count) n.supports
  -- they stand in preorder, each once
  pub supports_order : IsStrictlyIncreasing n.supports
  -- its bus is there
  pub bus : IfSome n.bus (λ id. id < count)

-- the buses that a node is on, by its bus node and that one's buses
abbrev pub buses_on : Option ℕ → List (List ℕ) → List (List ℕ)
buses_on None buses = []
buses_on (Some up) buses = buses
