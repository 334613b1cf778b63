-- What became of putting a text: a part may be held, to go to the sink later.
use Rattle.std.specs.Prelude.{◌≡◌, ◌+◌, ◌≤◌, ◌++◌, ℕ, Bool, List, MatchBool, IsTrue, length}
use Rattle.edt_base.specs.Outside.{SinkSeen, Rose, Gains, GainsPrefix}

-- what was held and the text are together what the sink took and what is held now
abbrev pub Passes : SinkSeen → SinkSeen → List ℕ → List ℕ → List ℕ → Type 0
Passes old new held left text = (gone : List ℕ) × (held ++ text ≡ gone ++ left) × Gains old new gone

-- all of the text was put, or the count rose and a prefix of what was held and the text was taken
pub record Put (old new : SinkSeen) (held left text : List ℕ) (done : Bool) : Type 0 where
  pub taken : MatchBool done (Passes old new held left text) (Rose old.faults new.faults
      × GainsPrefix old new (held ++ text))
  pub count : old.faults ≤ new.faults
  pub sure : length held + length text ≤ old.room → IsTrue done × (new.faults ≡ old.faults)
      × (old.room + length left ≤ new.room + (length held + length text))
