-- What a search for clashes knows: of the definitions so far, the first of each name is held under the numbers of the
-- name's texts.
use Rattle.std.specs.Prelude.{◌≡◌, ◌+◌, ◌++◌, ℕ, true, List, [], Some, length, slice_get}
use Rattle.std.specs.List.{Contains}
use Rattle.dt_names.specs.Clash.{SaidData, said, same_said, AreFree, doubles_from}
use Rattle.dt_names.specs.Facts.{FactData}
use Rattle.dt_names.specs.Inner.Keys.{Tells, texts_of}
use Rattle.dt_names.specs.declared.key.Key.{Key}

pub record IsScanned (fs left : List FactData) (texts : List (List ℕ)) (keys : List Key) (held : List SaidData)
    (doubles : List ℕ) : Type 0 where
  -- the definitions so far
  pub earlier : List FactData
  pub parts : fs ≡ earlier ++ left
  pub free : AreFree [] earlier
  pub repeated : doubles ++ doubles_from earlier (length earlier) left ≡ doubles_from [] 0 fs
  pub counted : length keys + length doubles ≡ length earlier
  pub held_each : length held ≡ length keys
  -- each has its name's key, what is held under it is as the definition says, and each key is one of theirs
  pub found : (g : FactData) → Contains earlier g → (i : ℕ) × (k : Key) × (slice_get keys i ≡ Some k)
      × Tells texts k (texts_of g)
  pub alike : (g : FactData) → Contains earlier g → (i : ℕ) (k : Key) (h : SaidData) → slice_get keys i ≡ Some k
      → slice_get held i ≡ Some h → Tells texts k (texts_of g) → same_said h (said g) ≡ true
  pub stands : (i : ℕ) (k : Key) → slice_get keys i ≡ Some k → (g : FactData) × Contains earlier g
      × Tells texts k (texts_of g)
