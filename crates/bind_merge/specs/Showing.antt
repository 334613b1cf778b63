-- What the views of a merged binding show is what the file holds.
use Rattle.std.specs.Prelude.{◌≡◌, ◌↔◌, ◌+◌, ℕ, true, List, Some, IsSome, IsTrue, drop}
use Rattle.std.specs.List.{Contains}
use Rattle.bind_merge.specs.Checks.{is_yes}
use Rattle.bind_merge.specs.Facts.{Setting, named, required, cells, there, buses, on_bus, of_space, of_prop}
use Rattle.bind_merge.specs.Files.{FileData}
use Rattle.bind_merge.specs.Holdings.{Holds}
use Rattle.bind_merge.specs.Levels.{EntryData, LevelTable}
use Rattle.bind_merge.specs.Merging.{IsMerged}
use Rattle.bind_merge.specs.Telling.{HasSetting}
use Rattle.bind_merge.specs.ViewData.{buses_in, bus_in, cells_in, child_in, names_in, prop_in}

-- The view that is n child-binding steps down in the merged binding of file k. It names the properties
-- that the file holds there, and a property has the settings that the file holds; it is required
-- exactly where the file holds `required: true`. Spaces, buses and the bus are those that the file
-- holds, and a child is there exactly where the file holds that it is.
pub record Shows (files : List FileData) (k n : ℕ) (shown : List LevelTable) : Type 0 where
  pub names : (p : List ℕ) → Contains (names_in shown) p ↔ Holds files k n (of_prop p named)
  pub prop : (p : List ℕ) (s : Setting) → HasSetting (prop_in p shown) s ↔ Holds files k n (of_prop p s)
  pub is_required : (p : List ℕ) (e : EntryData) → prop_in p shown ≡ Some e
      → IsTrue (is_yes e.required) ↔ Holds files k n (of_prop p (required true))
  pub cells_are : (s : List ℕ) (v : List (List ℕ))
      → (cells_in s shown ≡ Some v) ↔ Holds files k n (of_space s (cells v))
  pub buses_are : (v : List (List ℕ)) → (buses_in shown ≡ Some v) ↔ Holds files k n (buses v)
  pub bus_is : (v : List ℕ) → (bus_in shown ≡ Some v) ↔ Holds files k n (on_bus v)
  pub has_child : IsSome (child_in shown) ↔ Holds files k (n + 1) there

-- what is shown n steps down: the levels from there on, of which the child's view shows all but the first
abbrev pub IsChildOf : List LevelTable → ℕ → Type 0
IsChildOf levels n = (shown : List LevelTable) → child_in (drop n levels) ≡ Some shown → shown ≡ drop (n + 1) levels

abbrev pub ViewsShow : Type 0
ViewsShow = (files : List FileData) (k : ℕ) (levels : List LevelTable) → IsMerged files k levels
    → (n : ℕ) → Shows files k n (drop n levels) × IsChildOf levels n
