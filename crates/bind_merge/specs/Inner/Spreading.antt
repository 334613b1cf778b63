-- What is known while reading spreads along includes.
use Rattle.std.specs.Prelude.{◌≡◌, ◌⊎◌, ◌+◌, ◌≤◌, ℕ, Bool, true, List, [], ◌∷◌, Option, Some, None, length, nat_eq}
use Rattle.std.specs.List.{flat_map, list_all, list_any}
use Rattle.bind_load.specs.RecordData.{IncludeData}
use Rattle.bind_merge.specs.Files.{FileData}
use Rattle.bind_merge.specs.Levels.{OwnData}
use Rattle.bind_merge.specs.declared.names.Named.{Named}
use Rattle.bind_merge.specs.declared.names.Named.TheVariants.{One, Several}
use Rattle.bind_merge.specs.declared.reading.Read.{Read}
use Rattle.bind_merge.specs.Inner.Reading.{AreRead, all_read, is_read_at, own_at, read_at}
use Rattle.bind_merge.specs.Inner.Resolving.{NameData, named_in}

-- a file stands in a list
abbrev pub is_among : List ℕ → ℕ → Bool
is_among ks k = list_any (nat_eq k) ks

-- the one file of a name, if there is one
abbrev pub one_of : Option Named → List ℕ
one_of (Some (One k)) = k ∷ []
one_of _ = []

abbrev pub included_at : NameData → IncludeData → List ℕ
included_at names i = one_of (named_in names i.name)

-- the files that a record includes
abbrev pub included_in : NameData → List OwnData → List ℕ
included_in names own = flat_map (λ (l : OwnData). flat_map (included_at names) l.includes) own

abbrev pub included_by : NameData → Option (List OwnData) → List ℕ
included_by names None = []
included_by names (Some own) = included_in names own

-- how many files aren't read
abbrev pub unread : List (Option Read) → ℕ
unread [] = 0
unread (None ∷ rs) = unread rs + 1
unread (Some r ∷ rs) = unread rs

-- reading went on: `left` and `todo` are the files whose includes are left before and after
pub record Spreads (files : List FileData) (reads : List (Option Read)) (left : List ℕ)
    (more : List (Option Read)) (todo : List ℕ) : Type 0 where
  pub kept : (k : ℕ) (r : Read) → read_at reads k ≡ Some r → read_at more k ≡ Some r
  pub stays : (k : ℕ) → is_among left k ≡ true → is_among todo k ≡ true
  pub fresh : (k : ℕ) → is_read_at more k ≡ true → (is_read_at reads k ≡ true) ⊎ (is_among todo k ≡ true)
  pub sound : AreRead files reads → AreRead files more
  pub long : length more ≡ length reads
  pub size : unread more + length todo ≤ unread reads + length left

-- the includes of each file that is read are read, but for those that are left
pub record HasSpread (files : List FileData) (names : NameData) (reads more : List (Option Read)) (left : List ℕ) :
    Type 0 where
  pub kept : (k : ℕ) (r : Read) → read_at reads k ≡ Some r → read_at more k ≡ Some r
  pub sound : AreRead files reads → AreRead files more
  pub long : length more ≡ length reads
  pub closed : (k : ℕ) (own : List OwnData) → own_at more k ≡ Some own
      → (is_among left k ≡ true) ⊎ (all_read names more own ≡ true)
