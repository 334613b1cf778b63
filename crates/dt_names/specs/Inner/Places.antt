-- Places that follow one another.
use Rattle.std.specs.Prelude.{◌-◌, ℕ, List}
use Rattle.std.specs.List.{range_with_len}
use Rattle.dt_names.specs.declared.place.Places.{Places}

-- the places, in order
abbrev pub places_in : Places → List ℕ
places_in p = range_with_len p.next (p.end - p.next)
