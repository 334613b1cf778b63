-- Whether one has all that another has.
use Rattle.std.specs.Prelude.{◌&&◌, Bool, true, false, Option, Some, None}
use Rattle.bind_merge.specs.Levels.{EntryData}

abbrev pub covers : {A : Type 0} → Option A → Option A → Bool
covers (Some x) y = true
covers None None = true
covers None (Some y) = false

abbrev pub covers_all : EntryData → EntryData → Bool
covers_all a b = covers a.ty b.ty && covers a.required b.required && covers a.deprecated b.deprecated
    && covers a.default b.default && covers a.constant b.constant && covers a.choices b.choices
    && covers a.space b.space && covers a.cells b.cells
