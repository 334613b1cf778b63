use Rattle.std.proofs.Common.{◌≡◌, ◌≤◌, ◌<◌, ◌+◌, ◌∙◌, sym, true, false, length, rules, arith}
use Rattle.std.specs.Ordering.{nat_cmp}
use Rattle.std.specs.BTreeSet.{contains}
use Rattle.dts_tree.specs.Final.{is_taken}
use Rattle.dts_tree.proofs.Giving.{free_bound, least_is, taken_below}
use Rattle.dts_tree.proofs.phandles.Giver.least_free.Goals as goal

pub overflow_add-n : goal.overflow_add-n
overflow_add-n c =
    let b : c.loop-self.n ≤ length c.self.inside.numbers.items + 1 = free_bound c.self.inside.numbers.items c.loop-self.n c.loop-self.invariant.below in
    let few : length c.self.inside.numbers.items ≤ 65535 = c.self.invariant.few in
    omega arith

pub loop-self-smaller : goal.loop-self-smaller
loop-self-smaller c =
    let b : c.loop-self.n ≤ length c.self.inside.numbers.items + 1 = free_bound c.self.inside.numbers.items c.loop-self.n c.loop-self.invariant.below in
    omega arith

pub loop-self-preserved : goal.loop-self-preserved
loop-self-preserved c =
    let t : contains nat_cmp c.self.inside.taken c.loop-self.n ≡ true = search rules in
    record {
      from = omega arith;
      below = taken_below c.self.inside.numbers.items (contains nat_cmp c.self.inside.taken) c.self.inside.next c.loop-self.n c.self.invariant c.loop-self.invariant.from c.loop-self.invariant.below t;
    }

pub returns : goal.returns
returns c =
    let t : contains nat_cmp c.self.inside.taken c.loop-self.n ≡ false = search rules in
    let free : is_taken c.self.inside.numbers.items c.loop-self.n ≡ false = sym (c.self.invariant.rest c.loop-self.n c.loop-self.invariant.from) ∙ t in
    let some : 1 ≤ c.loop-self.n = omega (arith, c.self.invariant.some, c.loop-self.invariant.from) in
    let e = least_is c.self.inside.numbers.items c.loop-self.n some c.loop-self.invariant.below free in
    cc
