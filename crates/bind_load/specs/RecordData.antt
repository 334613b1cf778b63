-- The record of a binding file, as contracts see it: the list of its levels, from the top down through
-- the child-bindings. A filter is a list of levels too.
use Rattle.std.specs.Prelude.{ℕ, Bool, List, Option}
use Rattle.edt_base.specs.YamlData.{Value}
use Rattle.edt_base.specs.declared.bound.PropType.{PropType}

-- what one level of a filter lets through: the properties of the first list, where there is one, but for those of the
-- second
pub record FilterLevel : Type 0 where
  pub allow : Option (List (List ℕ))
  pub block : Option (List (List ℕ))

-- an included file, and what is let through of it
pub record IncludeData : Type 0 where
  pub name : List ℕ
  pub filter : List FilterLevel

-- the settings of a property
pub record SpecData : Type 0 where
  pub ty : Option PropType
  pub required : Option Bool
  pub deprecated : Option Bool
  pub default : Option Value
  pub constant : Option Value
  pub choices : Option (List Value)
  pub space : Option (List ℕ)
  pub description : Option (List ℕ)

-- one level of a binding
pub record LevelData : Type 0 where
  pub description : Option (List ℕ)
  pub compatible : Option (List ℕ)
  pub buses : Option (List (List ℕ))
  pub on_bus : Option (List ℕ)
  pub cells : List (List ℕ × List (List ℕ))
  pub includes : List IncludeData
  pub props : List (List ℕ × SpecData)
