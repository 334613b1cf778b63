-- The answer of the search for clashes.
use Rattle.std.specs.Prelude.{List}
use Rattle.dt_names.specs.Clash.{IsClash, AreDoubles}
use Rattle.dt_names.specs.Facts.{FactData}
use Rattle.dt_names.specs.declared.answer.Clash.{Clash}
use Rattle.dt_names.specs.declared.answer.Clash.TheVariants as clash

-- the node of the first definition that differs from an earlier one of its name, else the places of those that repeat
-- one
abbrev pub IsAnswer : List FactData → Clash → Type 0
IsAnswer fs (clash.At node) = IsClash fs node
IsAnswer fs (clash.Doubles places) = AreDoubles fs places.items
