-- What a filter lets through.
use Rattle.std.specs.Prelude.{◌&&◌, ℕ, Bool, true, List, Option, Some, None, not}
use Rattle.std.specs.List.{list_any}
use Rattle.std.specs.Str.{bytes_eq}
use Rattle.bind_load.specs.RecordData.{FilterLevel}
use Rattle.bind_merge.specs.Facts.{Fact, Setting}
use Rattle.bind_merge.specs.Facts as said

-- in the list, where there is one; not in the list
abbrev pub is_allowed : List ℕ → Option (List (List ℕ)) → Bool
is_allowed p None = true
is_allowed p (Some names) = list_any (λ n. bytes_eq n p) names

abbrev pub is_unblocked : List ℕ → Option (List (List ℕ)) → Bool
is_unblocked p None = true
is_unblocked p (Some names) = not (list_any (λ n. bytes_eq n p) names)

-- a level of a filter lets this property through; where the filter has no such level all pass
abbrev pub level_lets : List ℕ → Option FilterLevel → Bool
level_lets p None = true
level_lets p (Some f) = is_allowed p f.allow && is_unblocked p f.block

-- whether an including file holds the setting too: `required: false` speaks for its own file alone
abbrev pub is_inherited : Setting → Bool
is_inherited (said.required b) = b
is_inherited _ = true

-- an include hands on a fact, by the level of its filter at which the fact stands: a filter acts on
-- the properties of each level apart
abbrev pub lets : Option FilterLevel → Fact → Bool
lets o (said.of_prop p x) = is_inherited x && level_lets p o
lets o (said.of_space s x) = is_inherited x
lets o _ = true
