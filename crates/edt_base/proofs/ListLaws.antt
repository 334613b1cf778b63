-- What a listing of held names keeps.
use Rattle.std.proofs.Common.{◌≡◌, ℕ, List, [], ◌∷◌, Bool, true, false, IsTrue, if◌then◌else◌, refl}
use Rattle.std.specs.List.Sorted.{IsPermutation}
use Rattle.std.proofs.lemmas.List.Elements.{All-nil, All-cons}
use Rattle.std.proofs.lemmas.List.Sorted.{All-permutation}
use Rattle.edt_base.specs.Outside.{AreBelow, is_binding_below, names_below}

-- one name more, where it passes
below_either : (dir name : List ℕ) (names : List (List ℕ)) (b : Bool) → is_binding_below dir name ≡ b → AreBelow dir names
    → AreBelow dir (if b then name ∷ names else names)
below_either dir name names true is all = All-cons (λ n. IsTrue (is_binding_below dir n)) name names is all
below_either dir name names false is all = all

-- the names below a folder are below it
pub names_below_pass : (dir : List ℕ) (held : List (List ℕ × List ℕ)) → AreBelow dir (names_below dir held)
names_below_pass dir [] = All-nil (λ n. IsTrue (is_binding_below dir n))
names_below_pass dir (e ∷ es) = below_either dir e.0 (names_below dir es) (is_binding_below dir e.0) refl (names_below_pass dir es)

-- in another order they still are
pub sorted_below_pass : (dir : List ℕ) (held : List (List ℕ × List ℕ)) (names : List (List ℕ)) → IsPermutation (names_below dir held) names → AreBelow dir names
sorted_below_pass dir held names same = All-permutation (λ n. IsTrue (is_binding_below dir n)) (names_below dir held) names same (names_below_pass dir held)
