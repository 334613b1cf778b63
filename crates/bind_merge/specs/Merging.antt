-- The merged binding of a file: what the file holds, level by level, with the names in byte order.
use Rattle.std.specs.Prelude.{ℕ, List}
use Rattle.bind_merge.specs.Facts.{Fact}
use Rattle.bind_merge.specs.Files.{FileData}
use Rattle.bind_merge.specs.Holdings.{Holds}
use Rattle.bind_merge.specs.Levels.{LevelTable}
use Rattle.bind_merge.specs.Ordered.{SaysAt, IsInOrder}

-- these levels are the merged binding of file k: they say exactly what the file holds
pub record IsMerged (files : List FileData) (k : ℕ) (levels : List LevelTable) : Type 0 where
  pub held : (n : ℕ) (f : Fact) → SaysAt levels n f → Holds files k n f
  pub all : (n : ℕ) (f : Fact) → Holds files k n f → SaysAt levels n f
  pub in_order : IsInOrder levels
