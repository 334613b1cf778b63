use Rattle.std.proofs.Common.{◌≡◌, ◌∙◌, ◌-◌, suc, sym, arith}
use Rattle.pha_nexus.specs.Chain.{followed}
use Rattle.pha_nexus.specs.Passing.{passed_at}
use Rattle.pha_nexus.proofs.FollowLaws.{broken_on, carried_on, ends_here, goes_too_far}
use Rattle.pha_nexus.proofs.RowLaws.{stop_on}
use Rattle.pha_nexus.proofs.following.go_along.Goals as goal

pub returns-then-left-eq0-clause-stop : goal.returns-then-left-eq0-clause-stop
returns-then-left-eq0-clause-stop c = sym c.loop-map.invariant.0
    ∙ goes_too_far c.loop-map.left c.args.t.now.nodes c.args.space.now c.loop-map.at c.loop-map.carried.items c.in-Some.map.now c.if-left-eq0.true (sym c.in-Some.ensures)

pub returns-in-Err-clause-stop : goal.returns-in-Err-clause-stop
returns-in-Err-clause-stop c =
    let more : c.loop-map.left ≡ suc (c.loop-map.left - 1) = omega arith in
    stop_on (passed_at c.args.t.now.nodes c.args.space.now c.loop-map.at c.as_slice.result.now c.in-Some.map.now)
    (followed c.args.t.now.nodes c.args.space.now c.args.start c.args.spec.items) c.in-Err.stop
    (λ b bad. broken_on c.loop-map.left (c.loop-map.left - 1) c.args.t.now.nodes c.args.space.now c.loop-map.at c.loop-map.carried.items c.as_slice.result.now c.in-Some.map.now b _
    more c.in-Some.ensures c.as_slice.ensures.value bad c.loop-map.invariant.0)
    c.in-Err.ensures.stop

pub loop-map-preserved : goal.loop-map-preserved
loop-map-preserved c =
    let more : c.loop-map.left ≡ suc (c.loop-map.left - 1) = omega arith in (
      carried_on c.loop-map.left (c.loop-map.left - 1) c.args.t.now.nodes c.args.space.now c.loop-map.at c.loop-map.carried.items c.as_slice.result.now c.in-Some.map.now _ _ _
          more c.in-Some.ensures c.as_slice.ensures.value c.in-Ok.ensures.hop c.loop-map.invariant.0,
      c.in-Ok.ensures.there,
    )

pub returns-clause-ends : goal.returns-clause-ends
returns-clause-ends c = sym c.loop-map.invariant.0
    ∙ ends_here c.loop-map.left c.args.t.now.nodes c.args.space.now c.loop-map.at c.loop-map.carried.items (sym c.in_default.ensures)
