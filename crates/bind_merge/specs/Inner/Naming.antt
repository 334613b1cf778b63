-- How the table of base names grows by a file.
use Rattle.std.specs.Prelude.{◌≡◌, ℕ, List, Option, Some, None, if◌then◌else◌}
use Rattle.std.specs.Str.{bytes_eq}
use Rattle.bind_merge.specs.declared.names.Named.{Named}
use Rattle.bind_merge.specs.declared.names.Named.TheVariants.{One, Several}
use Rattle.bind_merge.specs.Inner.Resolving.{NameData, named_in}

-- what a base name names with a file more, behind those that it names
abbrev pub one_more : Option Named → ℕ → Named
one_more None k = One k
one_more (Some n) k = Several

-- the table with a file more
abbrev pub HasMore : NameData → List ℕ → ℕ → NameData → Type 0
HasMore names base file more = (q : List ℕ)
    → named_in more q ≡ (if bytes_eq base q then Some (one_more (named_in names base) file) else named_in names q)
