use Rattle.std.proofs.Common.{◌≡◌, arith, subst, ℕ}
use Rattle.bind_merge.specs.Inner.Heights.{AllResolved}
use Rattle.bind_merge.proofs.Heights.{begins_none}
use Rattle.bind_merge.proofs.resolve.resolve.Goals as goal

pub loop-height-init : goal.loop-height-init
loop-height-init c =
    (c.in_ok-resolved.ensures.len, begins_none c.args.names.now c.args.reads.now c.in_ok-resolved.resolved.items c.in_ok-resolved.ensures.none)

pub returns-clause-resolved : goal.returns-clause-resolved
returns-clause-resolved c =
    let e : c.loop-height.height ≡ 17 = omega arith in
    subst (λ (h : ℕ). AllResolved c.args.names.now c.args.reads.now h c.loop-height.resolved.items) e c.loop-height.invariant.1
