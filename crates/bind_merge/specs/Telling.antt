-- What a view tells is what the merged levels say, fact by fact.
use Rattle.std.specs.Prelude.{◌≡◌, ◌↔◌, ℕ, zero, suc, List, Option, Some, None}
use Rattle.bind_merge.specs.Facts.{Setting, Fact, Gives, buses, on_bus, of_space, of_prop}
use Rattle.bind_merge.specs.Levels.{EntryData, LevelTable}
use Rattle.bind_merge.specs.Looking.{entry_named}
use Rattle.bind_merge.specs.Ordered.{IsInOrder, SaysAt}
use Rattle.bind_merge.specs.ViewData.{buses_in, bus_in, child_in, prop_in, spaces_in}

-- the entry that was found has this setting
abbrev pub HasSetting : Option EntryData → Setting → Type 0
HasSetting None s = ⊥
HasSetting (Some e) s = Gives e s

abbrev pub SaysBelow : Option (List LevelTable) → ℕ → Fact → Type 0
SaysBelow None n f = ⊥
SaysBelow (Some levels) n f = SaysAt levels n f

-- The settings of a property that a view shows are those that its level says, and so of spaces, buses
-- and the bus; what stands a step further down is what the child's view shows.
pub record Tells (levels : List LevelTable) : Type 0 where
  pub prop : (p : List ℕ) (s : Setting) → SaysAt levels zero (of_prop p s) ↔ HasSetting (prop_in p levels) s
  pub space : (p : List ℕ) (s : Setting) → SaysAt levels zero (of_space p s) ↔ HasSetting
      (entry_named p (spaces_in levels)) s
  pub buses_are : (v : List (List ℕ)) → SaysAt levels zero (buses v) ↔ (buses_in levels ≡ Some v)
  pub bus_is : (v : List ℕ) → SaysAt levels zero (on_bus v) ↔ (bus_in levels ≡ Some v)
  pub child : (n : ℕ) (f : Fact) → SaysAt levels (suc n) f ↔ SaysBelow (child_in levels) n f

abbrev pub ViewsTell : Type 0
ViewsTell = (levels : List LevelTable) → IsInOrder levels → Tells levels
