-- What the answers of joining and sorting say: the list, or that two values of one key came together.
use Rattle.std.specs.Prelude.{◌⊎◌, Bool, true, false, List, [], ◌∷◌, Option, Some, None}
use Rattle.bind_merge.specs.Levels.{EntryData, LevelTable, OwnData}
use Rattle.bind_merge.specs.Joining.{Agree, Disagree, Joins, ClashIn, JoinsLevel, ClashOf}
use Rattle.bind_merge.specs.Adding.{IsSortedOf, IsTableOf, AreTablesOf}

abbrev pub AgreesIf : Bool → EntryData → EntryData → Type 0
AgreesIf true a b = Agree a b
AgreesIf false a b = Disagree a b

abbrev pub JoinsOr : List EntryData → List EntryData → Option (List EntryData) → Type 0
JoinsOr xs ys (Some zs) = Joins xs ys zs
JoinsOr xs ys None = ClashIn xs ys

abbrev pub SortedOr : List EntryData → Option (List EntryData) → Type 0
SortedOr es (Some sorted) = IsSortedOf es sorted
SortedOr es None = ClashIn es es

abbrev pub LevelOr : LevelTable → LevelTable → Option LevelTable → Type 0
LevelOr a b (Some l) = JoinsLevel a b l
LevelOr a b None = ClashOf a b

abbrev pub TableOr : LevelTable → Option LevelTable → Type 0
TableOr own (Some t) = IsTableOf own t
TableOr own None = ClashOf own own

-- one of these levels says two values of one key
abbrev pub ClashAmong : List OwnData → Type 0
ClashAmong [] = ⊥
ClashAmong (l ∷ ls) = ClashOf l.table l.table ⊎ ClashAmong ls

abbrev pub TablesOr : List OwnData → Option (List LevelTable) → Type 0
TablesOr own (Some ts) = AreTablesOf own ts
TablesOr own None = ClashAmong own
