use Rattle.std.proofs.Common.{◌≡◌, ℕ, List, length}
use Rattle.std.specs.BTreeMap as tree
use Rattle.std.specs.Ordering.{nat_cmp}
use Rattle.std.specs.Cmp.Lexicographic.{slice_cmp}
use Rattle.c_macro.specs.Bodies.{place_of}
use Rattle.c_macro.proofs.PartLaws.{place_or}
use Rattle.c_macro.proofs.places.places_of.Given as goal

abbrev pub invariant-loop-name : goal.invariant-loop-name
invariant-loop-name l = (q : List ℕ) → place_or (place_of q l.left) (tree.get_by (λ k. slice_cmp nat_cmp q k.now) l.places) ≡ place_of q l.names

abbrev pub decreases-loop-name : goal.decreases-loop-name
decreases-loop-name l = length l.left
