-- What `gen NAME` answers over the bytes of its source, as long as it knows nested nodes alone.
use Rattle.std.specs.Prelude.{◌≡◌, ◌⊎◌, ℕ, List}
use Rattle.edt_base.specs.declared.fault.Rule.TheVariants as rule
use Rattle.edt_base.specs.declared.fault.Place.TheVariants as place
use Rattle.edt_run.specs.Answer.{Answer, done, refused}
use Rattle.edt_run.specs.Forest.{Forest}
use Rattle.edt_run.specs.Header.{header}
use Rattle.edt_run.specs.Small.{IsSmall}

-- the header where the source is small, else S6 at its first byte
abbrev pub IsSmallAnswer : List ℕ → List ℕ → Answer → Type 0
IsSmallAnswer name source answer =
    ((nodes : Forest) × (IsSmall source nodes) × (answer ≡ done (header nodes)))
    ⊎ (((nodes : Forest) → IsSmall source nodes → ⊥)
    × (answer ≡ refused (record { rule = rule.S6; place = place.Byte name 0 })))
