-- When what files hold is in conflict.
use Rattle.std.specs.Prelude.{ℕ, List}
use Rattle.bind_load.specs.RecordData.{IncludeData}
use Rattle.bind_merge.specs.Facts.{Fact, Clash}
use Rattle.bind_merge.specs.Files.{FileData}
use Rattle.bind_merge.specs.Holdings.{Holds, Includes}

-- file k holds two values of one key: also where it says `required: false` of a property that an
-- include requires
pub record Conflict (files : List FileData) (k : ℕ) : Type 0 where
  pub step : ℕ
  pub one : Fact
  pub other : Fact
  pub holds_one : Holds files k step one
  pub holds_other : Holds files k step other
  pub clash : Clash one other

-- file g is k, or is included by it at any depth
pub data Reaches (files : List FileData) : ℕ → ℕ → Type 0 where
  at_once : (k : ℕ) → Reaches files k k
  through : (k m : ℕ) (i : IncludeData) (t g : ℕ) → Includes files k m i t → Reaches files t g → Reaches files k g

-- file k, or a file that it includes at any depth, is in conflict
pub record HasConflict (files : List FileData) (k : ℕ) : Type 0 where
  pub file : ℕ
  pub reaches : Reaches files k file
  pub conflict : Conflict files file
