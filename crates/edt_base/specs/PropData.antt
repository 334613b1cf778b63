-- A typed property, as contracts see it, and what every one keeps.
use Rattle.std.specs.Prelude.{◌≡◌, ◌⊎◌, ℕ, List, [], IsTrue, length}
use Rattle.edt_base.specs.ValData.{ValData, IsOfType, HasNodesBelow, is_tested, tested_count}
use Rattle.edt_base.specs.declared.bound.PropType.{PropType}

-- its name, type and value, and for each tested value its place in `enum` and its form
pub record PropData : Type 0 where
  pub name : List ℕ
  pub ty : PropType
  pub val : ValData
  pub choices : List (ℕ × List ℕ)

-- what a property keeps where the nodes are so many
pub record IsTyped (count : ℕ) (p : PropData) : Type 0 where
  -- its value is of its type
  pub val : IsOfType p.ty p.val
  -- the nodes that its value names are there
  pub nodes : HasNodesBelow count p.val
  -- it has no choices, or `enum` is tested on its type and each tested value has one
  pub choices : (p.choices ≡ []) ⊎ (IsTrue (is_tested p.ty) × (length p.choices ≡ tested_count p.val))
