-- A label more in the list and in the set.
use Rattle.std.proofs.Common.{◌≡◌, ◌∙◌, ◌++◌, ◌∷◌, [], nat_cmp, sym, ap, rules}
use Rattle.std.specs.BTreeSet.{contains}
use Rattle.std.specs.Cmp.Lexicographic.{slice_cmp}
use Rattle.std.specs.List.{list_any}
use Rattle.std.specs.Str.{bytes_eq}
use Rattle.dts_tree.proofs.NameLaws.{seen_more}
use Rattle.dts_tree.proofs.grown.Names.add.Goals as goal

pub invariant_of-self-in-Ok : goal.invariant_of-self-in-Ok
invariant_of-self-in-Ok c k =
    let pushed : c.push.new.self.items ≡ c.self.inside.list.items ++ c.args.label ∷ [] = search rules in
    seen_more c.args.same c.self.inside.list.items (contains (slice_cmp nat_cmp) c.self.inside.seen) (contains (slice_cmp nat_cmp) c.insert.new.self) c.in-Ok.ensures.updates.0 c.self.invariant k
    ∙ ap (list_any (bytes_eq k)) (ap (λ x. c.self.inside.list.items ++ x ∷ []) c.requires ∙ sym pushed)
