-- What the code keeps while it gives phandles. No part of what is promised.
use Rattle.std.specs.Prelude.{◌≡◌, ◌<◌, ◌≤◌, ℕ, Bool, true, List, Option, length}
use Rattle.dts_tree.specs.Final.{is_taken}

-- no number below the next is free, and the taken ones from there on are known
pub record IsGiving (numbers : List (Option ℕ)) (taken : ℕ → Bool) (next : ℕ) : Type 0 where
  pub few : length numbers ≤ 65535
  pub some : 1 ≤ next
  pub below : (k : ℕ) → 1 ≤ k → k < next → is_taken numbers k ≡ true
  pub rest : (k : ℕ) → next ≤ k → taken k ≡ is_taken numbers k
