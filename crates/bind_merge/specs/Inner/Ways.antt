-- The one way down on which a binding's first fault lies.
use Rattle.std.specs.Prelude.{◌≡◌, ◌+◌, ◌||◌, ℕ, Bool, true, false, List, Option, Some, None, if◌then◌else◌, nat_eq}
use Rattle.std.specs.List.{list_any}
use Rattle.edt_base.specs.declared.fault.Fault.{Fault}
use Rattle.edt_base.specs.declared.fault.Rule.TheVariants as rule
use Rattle.bind_load.specs.RecordData.{IncludeData}
use Rattle.bind_merge.specs.Cleanness.{is_clean}
use Rattle.bind_merge.specs.Files.{FileData, file_fault}
use Rattle.bind_merge.specs.Laws.{NoneClean}
use Rattle.bind_merge.specs.Levels.{OwnData}
use Rattle.bind_merge.specs.Options.{first_some}
use Rattle.bind_merge.specs.Walks.{binding_walk, walk}
use Rattle.bind_merge.specs.declared.names.Named.{Named}
use Rattle.bind_merge.specs.declared.names.Named.TheVariants.{One, Several}
use Rattle.bind_merge.specs.declared.reading.Read.{Read}
use Rattle.bind_merge.specs.declared.reading.Read.TheVariants.{Good, Bad}
use Rattle.bind_merge.specs.declared.walk.Next.{Next}
use Rattle.bind_merge.specs.declared.walk.Next.TheVariants as next
use Rattle.bind_merge.specs.Inner.Heights.{AreResolved, is_below}
use Rattle.bind_merge.specs.Inner.Reading.{AreRead, IsClosed, is_read_at}
use Rattle.bind_merge.specs.Inner.Resolving.{AreNames, NameData, ResolvedData, named_in, resolved_at}

-- kept folded, where the depth is a numeral
unfoldable pub walk_in : ℕ → List FileData → List ℕ → ℕ → Option Fault
walk_in d files path k = walk d files path k

unfoldable pub clean_in : List FileData → ℕ → ℕ → Bool
clean_in files d k = is_clean files d k

unfoldable pub NoneCleanIn : List FileData → ℕ → List ℕ → Type 0
NoneCleanIn files d path = NoneClean files d path

-- the same files stand on the way, in whatever order
abbrev pub IsWay : List ℕ → List ℕ → Type 0
IsWay path items = (t : ℕ) → list_any (nat_eq t) path ≡ list_any (λ k. nat_eq k t) items

-- the walk over the binding b has come to file k, by these files, and its first fault lies there
pub record ComesTo (files : List FileData) (reads : List (Option Read)) (b d k : ℕ) (items : List ℕ) : Type 0 where
  pub path : List ℕ
  pub way : IsWay path items
  pub walked : binding_walk files b ≡ walk_in d files path k
  pub unclean : clean_in files d k ≡ false
  pub none : NoneCleanIn files d path
  pub read : is_read_at reads k ≡ true

-- what is known of the files while the way is gone
pub record IsKnown (files : List FileData) (names : NameData) (reads : List (Option Read))
    (resolved : List (Option ResolvedData)) : Type 0 where
  pub named : AreNames files names
  pub read : AreRead files reads
  pub closed : IsClosed names reads
  pub done : AreResolved files reads 17 resolved

-- the walk has come there by as many includes as are on the way
abbrev pub HasCome : List FileData → List (Option Read) → ℕ → ℕ → ℕ → List ℕ → Type 0
HasCome files reads b depth k items = (d : ℕ) × (d + depth ≡ 16) × ComesTo files reads b d k items

-- several files have the name
abbrev pub are_several : Option Named → Bool
are_several (Some Several) = true
are_several _ = false

abbrev pub several_among : NameData → List OwnData → Bool
several_among names own =
    list_any (λ (l : OwnData). list_any (λ (i : IncludeData). are_several (named_in names i.name)) l.includes) own

-- no file has the name, the one that has it is on the way, or it is too deep
abbrev pub bars : Bool → List ℕ → Option Named → Bool
bars deep items None = true
bars deep items (Some (One t)) = deep || list_any (λ k. nat_eq k t) items
bars deep items (Some Several) = deep

abbrev pub barred_among : NameData → Bool → List ℕ → List OwnData → Bool
barred_among names deep items own =
    list_any (λ (l : OwnData). list_any (λ (i : IncludeData). bars deep items (named_in names i.name)) l.includes) own

-- the one file of a name, where it isn't resolved at a height below d
abbrev pub high_if : Bool → ℕ → Option ℕ
high_if true t = None
high_if false t = Some t

abbrev pub high : List (Option ResolvedData) → ℕ → Option Named → Option ℕ
high resolved d (Some (One t)) = high_if (is_below d (resolved_at resolved t)) t
high resolved d _ = None

abbrev pub first_high : NameData → List (Option ResolvedData) → ℕ → List OwnData → Option ℕ
first_high names resolved d own =
    first_some (λ (l : OwnData). first_some (λ (i : IncludeData). high resolved d (named_in names i.name))
    l.includes) own

-- where the walk goes on from a file: to its fault, or down to a file that it includes
abbrev pub down : Option ℕ → Next
down None = next.Nothing
down (Some t) = next.Down t

abbrev pub next_in : NameData → List (Option ResolvedData) → List ℕ → ℕ → List ℕ → List OwnData → Next
next_in names resolved name d items own =
    if several_among names own then next.Fault (file_fault rule.B14 name) else
    if barred_among names (nat_eq d 0) items own then next.Fault (file_fault rule.B9 name) else
    down (first_high names resolved d own)

abbrev pub next_of : NameData → List (Option ResolvedData) → List ℕ → ℕ → List ℕ → Option Read → Next
next_of names resolved name d items None = next.Nothing
next_of names resolved name d items (Some (Bad f)) = next.Fault f
next_of names resolved name d items (Some (Good own)) = next_in names resolved name d items own.items
