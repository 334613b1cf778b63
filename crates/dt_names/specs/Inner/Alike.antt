-- Names that are spelled alike.
use Rattle.std.specs.Prelude.{◌≡◌, ◌↔◌}
use Rattle.std.specs.List.{Contains}
use Rattle.edt_base.specs.BoundData.{BoundData}
use Rattle.dt_names.specs.Facts.{FactData, full_name, facts}
use Rattle.dt_names.specs.Inner.Keys.{texts_of}
use Rattle.dt_names.specs.Pieces.{spells}

-- the names of two definitions are spelled alike exactly where their four texts are the same
abbrev pub NamesHaveTexts : Type 0
NamesHaveTexts = (b c : BoundData) (f g : FactData) → Contains (facts b) f → Contains (facts c) g
    → (spells (full_name f) ≡ spells (full_name g)) ↔ (texts_of f ≡ texts_of g)
