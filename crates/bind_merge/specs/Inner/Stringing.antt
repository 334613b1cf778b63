-- What the strings of a tree, each taken once, have in common with all of them.
use Rattle.std.specs.Prelude.{◌≡◌, Bool, ℕ, List}
use Rattle.std.specs.BTreeSet as tree
use Rattle.std.specs.BTreeSet.{BTreeSet}
use Rattle.std.specs.Cmp.Lexicographic.{slice_cmp}
use Rattle.std.specs.List.{list_any}
use Rattle.std.specs.Ordering.{nat_cmp}
use Rattle.std.specs.Str.{bytes_eq}
use denote.Ref.{Bor}

-- the set knows these texts and no other
abbrev pub Knows : BTreeSet (Bor (List ℕ)) → List (List ℕ) → Type 0
Knows known all = (q : List ℕ) → tree.contains_by (λ k. slice_cmp nat_cmp q k.now) known
    ≡ list_any (λ s. bytes_eq s q) all

-- one of these passes a test exactly where one of all does
abbrev pub Finds : List (List ℕ) → List (List ℕ) → Type 0
Finds once all = (test : List ℕ → Bool) → list_any test once ≡ list_any test all
