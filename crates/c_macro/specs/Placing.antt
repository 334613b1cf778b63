-- While tokens are put in the place of a name.
use Rattle.std.specs.Prelude.{◌≡◌, ◌⊎◌, ℕ, ◌+◌, ◌<◌, ◌++◌, Bool, List, [], length, reverse, if◌then◌else◌}
use Rattle.c_macro.specs.declared.pend.Pend.{Pend}
use Rattle.c_macro.specs.Bodies.{spaced_as, add_bars}
use Rattle.c_macro.specs.SetData.{SetTable, Grown, bars_of}
use Rattle.c_macro.specs.Pending.{marks, KnownAll}

abbrev pub spaced_if : (first spaced : Bool) → Pend → Pend
spaced_if first spaced p = if first then record { tok = record { spell = p.tok.spell; kind = p.tok.kind; spaced = spaced }; set = p.set } else p

-- these tokens are left of those: what was put already stands before what was pending
pub record Placing (old now : SetTable) (bars : ℕ) (spaced : Bool) (before after whole left : List Pend) : Type 0 where
  pub grown : Grown old now
  pub left_known : KnownAll now left
  pub after_known : KnownAll now after
  pub whole_known : KnownAll old whole
  pub done : (left ≡ []) × (marks now (reverse after) ≡ spaced_as spaced (add_bars (bars_of old bars) (marks old whole)) ++ marks old (reverse before))
      ⊎ ((put : List Pend) × (whole ≡ left ++ put) × (0 < length left) × (marks now (reverse after) ≡ add_bars (bars_of old bars) (marks old put) ++ marks old (reverse before)))
  pub size : length after + length left ≡ length before + length whole
