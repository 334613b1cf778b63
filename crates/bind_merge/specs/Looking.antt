-- Looking an entry up by its name.
use Rattle.std.specs.Prelude.{◌≡◌, ℕ, Bool, true, false, List, [], ◌∷◌, Option, Some, None, if◌then◌else◌, is_some, not}
use Rattle.std.specs.List.{list_any}
use Rattle.bind_merge.specs.Facts.{Setting, named}
use Rattle.bind_merge.specs.Ordered.{Rises}
use Rattle.std.specs.Str.{bytes_eq}
use Rattle.bind_merge.specs.Levels.{EntryData}

-- the first entry of this name
abbrev pub entry_named : List ℕ → List EntryData → Option EntryData
entry_named p [] = None
entry_named p (e ∷ es) = if bytes_eq e.name p then Some e else entry_named p es

-- a name, and nothing about it
abbrev pub bare : List ℕ → EntryData
bare name = record {
  name = name;
  ty = None;
  required = None;
  deprecated = None;
  default = None;
  constant = None;
  choices = None;
  space = None;
  cells = None;
}

abbrev pub IsNamed : Setting → Type 0
IsNamed named = Unit {0}
IsNamed _ = ⊥

-- these entries, in order, have exactly these names
pub record IsNameTable (names : List (List ℕ)) (es : List EntryData) : Type 0 where
  pub rises : Rises es
  pub looks : (p : List ℕ) → is_some (entry_named p es) ≡ list_any (λ n. bytes_eq n p) names

-- whether a name is kept by a list: those in it, or those not in it
abbrev pub is_kept : Bool → List (List ℕ) → List ℕ → Bool
is_kept true names p = list_any (λ n. bytes_eq n p) names
is_kept false names p = not (list_any (λ n. bytes_eq n p) names)

abbrev pub is_kept_where : Bool → Option (List (List ℕ)) → List ℕ → Bool
is_kept_where among None p = true
is_kept_where among (Some names) p = is_kept among names p
