use Rattle.std.proofs.Common.{◌≡◌, true, false, subst, [], drop, arith}
use Rattle.std.proofs.lemmas.List.{drop_all}
use Rattle.bind_merge.specs.Adding.{AddsAt, ClashAt, top_filter}
use Rattle.bind_merge.specs.Filtering.{filters_of}
use Rattle.bind_merge.specs.Joining.{passed}
use Rattle.bind_merge.proofs.Included.{past-length, goes-on, stops-at, ends-at}
use Rattle.bind_merge.proofs.table.include.Goals as goal

pub returns-then-not-branch : goal.returns-then-not-branch
returns-then-not-branch c =
    let k : ClashAt c.loop-level.levels.items c.loop-level.next c.in_ok-passed.passed = rw c.if-not-branch.true at c.in_ok-add.ensures in
    let p : c.in_ok-passed.passed ≡ passed (top_filter (filters_of c.loop-level.left)) c.level-item.result = c.in_ok-passed.ensures in
    c.loop-level.invariant.comes false c.add.new.levels.items
    (stops-at c.args.included.now c.loop-level.level-index c.level-item.result c.loop-level-test.true c.level-item.is c.loop-level.levels.items c.loop-level.next (filters_of c.loop-level.left)
    (subst (λ q. ClashAt c.loop-level.levels.items c.loop-level.next q) p k))

pub loop-level-preserved : goal.loop-level-preserved
loop-level-preserved c =
    let k : AddsAt c.loop-level.levels.items c.loop-level.next c.in_ok-passed.passed c.add.new.levels.items = rw c.if-not-branch.false at c.in_ok-add.ensures in
    let p : c.in_ok-passed.passed ≡ passed (top_filter (filters_of c.loop-level.left)) c.level-item.result = c.in_ok-passed.ensures in
    record {
      next_in = past-length c.loop-level.levels.items c.loop-level.next c.in_ok-passed.passed c.add.new.levels.items k;
      comes = λ b us r. c.loop-level.invariant.comes b us
          (goes-on c.args.included.now c.loop-level.level-index c.level-item.result c.loop-level-test.true c.level-item.is c.loop-level.levels.items c.loop-level.next (filters_of c.loop-level.left)
          _ c.add.new.levels.items c.below-left.ensures (subst (λ q. AddsAt c.loop-level.levels.items c.loop-level.next q c.add.new.levels.items) p k) b us r);
    }

pub returns : goal.returns
returns c =
    let d : drop c.loop-level.level-index c.args.included.now ≡ [] = drop_all c.loop-level.level-index c.args.included.now (omega arith) in
    c.loop-level.invariant.comes true c.loop-level.levels.items
    (ends-at c.loop-level.levels.items c.loop-level.next (drop c.loop-level.level-index c.args.included.now) (filters_of c.loop-level.left) d)
