-- Levels whose entries stand in byte order of their names.
use Rattle.std.specs.Prelude.{◌≡◌, ℕ, List, [], ◌∷◌, zero, suc}
use Rattle.std.specs.Cmp.Lexicographic.{slice_cmp}
use Rattle.std.specs.Ordering.{nat_cmp}
use Rattle.std.specs.declared.cmp.Ordering.TheVariants.{Less}
use Rattle.bind_merge.specs.Facts.{Fact, Says}
use Rattle.bind_merge.specs.Levels.{EntryData, LevelTable}

-- a name stands before another in byte order
abbrev pub IsBefore : List ℕ → List ℕ → Type 0
IsBefore a b = slice_cmp nat_cmp a b ≡ Less

-- a name stands before those of all entries
abbrev pub IsBeforeAll : List ℕ → List EntryData → Type 0
IsBeforeAll a [] = Unit {0}
IsBeforeAll a (e ∷ es) = IsBefore a e.name × IsBeforeAll a es

-- the entries stand in byte order of their names, no name twice
abbrev pub Rises : List EntryData → Type 0
Rises [] = Unit {0}
Rises (e ∷ es) = IsBeforeAll e.name es × Rises es

abbrev pub LevelRises : LevelTable → Type 0
LevelRises l = Rises l.spaces × Rises l.props

abbrev pub IsInOrder : List LevelTable → Type 0
IsInOrder [] = Unit {0}
IsInOrder (l ∷ ls) = LevelRises l × IsInOrder ls

-- a list of levels says a fact n levels down
abbrev pub SaysAt : List LevelTable → ℕ → Fact → Type 0
SaysAt [] n f = ⊥
SaysAt (l ∷ ls) zero f = Says l f
SaysAt (l ∷ ls) (suc n) f = SaysAt ls n f
