use Rattle.std.proofs.Common.{◌≡◌, ◌≤◌, ◌<◌, ◌+◌, ℕ, Some, None, sym, subst, length, get_or, set, rules, arith}
use Rattle.std.specs.Ordering.{nat_cmp}
use Rattle.std.specs.BTreeSet.{contains}
use Rattle.dts_tree.specs.Final.{least_free}
use Rattle.dts_tree.specs.Inner.Giving.{IsGiving}
use Rattle.dts_tree.proofs.Giving.{least, put_keeps}
use Rattle.dts_tree.proofs.phandles.Giver.put.Goals as goal

pub overflow_add-self : goal.overflow_add-self
overflow_add-self c =
    let e : c.least_free-n.result ≡ least_free c.self.inside.numbers.items = first_of (cc, search rules) in
    let f : least_free c.self.inside.numbers.items ≤ length c.self.inside.numbers.items + 1 = (least c.self.inside.numbers.items).few in
    let few : length c.self.inside.numbers.items ≤ 65535 = c.self.invariant.few in
    omega arith

pub invariant_of-self : goal.invariant_of-self
invariant_of-self c =
    let e : c.least_free-n.result ≡ least_free c.self.inside.numbers.items = first_of (cc, search rules) in
    let at : c.args.place < length c.self.inside.numbers.items = first_of (search rules, omega arith) in
    let none : get_or c.self.inside.numbers.items c.args.place None ≡ None = first_of (search rules, cc) in
    let P : ℕ → Type 0 = λ n. IsGiving (set c.self.inside.numbers.items c.args.place (Some n)) (contains nat_cmp c.self.inside.taken) (n + 1) in
    subst P (sym e) (put_keeps c.self.inside.numbers.items (contains nat_cmp c.self.inside.taken) c.self.inside.next c.args.place c.self.invariant at none)
