-- Look-ups by path, as the code makes them. No part of what is promised.
use Rattle.std.specs.Prelude.{◌≡◌, ℕ, List, [], Option, Some, None}
use Rattle.std.specs.Borrow.{Bor}
use Rattle.std.specs.BTreeMap.{BTreeMap, get_by}
use Rattle.std.specs.Ordering.{nat_cmp}
use Rattle.std.specs.Cmp.Lexicographic.{slice_cmp}
use Rattle.edt_base.specs.declared.node.Part.{Part}
use Rattle.dts_tree.specs.Drafts.{DraftData}
use Rattle.dts_tree.specs.Final.{node_at}

abbrev pub Finder : Type 0
Finder = BTreeMap (Bor (List ℕ)) ℕ

abbrev pub finder : Finder → List ℕ → Option ℕ
finder m path = get_by (λ k. slice_cmp nat_cmp path k.now) m

-- the map has each draft by its path
abbrev pub AreFound : List DraftData → Finder → Type 0
AreFound ds m = (path : List ℕ) → finder m path ≡ node_at ds path

abbrev pub props_or_none : Option (List (List ℕ × List Part)) → List (List ℕ × List Part)
props_or_none None = []
props_or_none (Some props) = props
