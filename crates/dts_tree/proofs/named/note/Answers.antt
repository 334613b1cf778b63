use Rattle.std.proofs.Common.{◌≡◌, ◌∙◌, ℕ, List, Option, None, rules, arith}
use Rattle.std.proofs.lemmas.Grind.{common_steps}
use Rattle.std.specs.Borrow.{Bor}
use Rattle.std.specs.BTreeMap.{get_by}
use Rattle.std.specs.Ordering.{nat_cmp}
use Rattle.std.specs.Cmp.Lexicographic.{slice_cmp}
use Rattle.std.proofs.lemmas.Map.Text.{btree_map_updates_str}
use Rattle.dts_tree.proofs.PathLaws.{noted}
use Rattle.dts_tree.proofs.named.note.Goals as goal

pub returns-in-Ok : goal.returns-in-Ok
returns-in-Ok c = λ q.
    let find : List ℕ → Option ℕ = λ p. get_by (λ (k : Bor (List ℕ)). slice_cmp nat_cmp p k.now) c.args.paths.now in
    let none : find c.args.path.now ≡ None = first_of (search rules, grind (arith, common_steps)) in
    btree_map_updates_str c.args.path.now c.args.paths.now c.insert.new.self _ c.in-Ok.ensures.updates q ∙ noted find c.args.path.now q c.args.place none
