use Rattle.std.proofs.Common.{◌≡◌, ◌∙◌, ◌+◌, ◌<◌, length, arith, refl}
use Rattle.bind_merge.proofs.Heights.{begins_height, ends_height, resolves_long, resolves_next}
use Rattle.bind_merge.proofs.resolve.resolve_at.Goals as goal

pub loop-at-init : goal.loop-at-init
loop-at-init c =
    (c.requires.len, begins_height c.args.names.now c.args.reads.now c.args.height c.args.resolved.now.items c.requires.below)

pub loop-at-preserved : goal.loop-at-preserved
loop-at-preserved c =
    let e : length c.loop-at.resolved.items ≡ length c.args.reads.now = c.loop-at.invariant.0 in
    let l : c.loop-at.at < length c.loop-at.resolved.items = omega (arith, e) in (
      resolves_long c.args.names.now c.args.reads.now c.args.height c.loop-at.at c.loop-at.resolved.items c.resolve_one.new.resolved.items c.in_ok-resolve_one.ensures ∙ e,
      resolves_next c.args.names.now c.args.reads.now c.args.height c.loop-at.at (c.loop-at.at + 1) c.loop-at.resolved.items c.resolve_one.new.resolved.items
          refl l c.loop-at.invariant.1 c.in_ok-resolve_one.ensures,
    )

pub returns-clause-now : goal.returns-clause-now
returns-clause-now c =
    let e : c.loop-at.at ≡ length c.args.reads.now = omega arith in
    ends_height c.args.names.now c.args.reads.now c.args.height (c.args.height + 1) c.loop-at.at c.loop-at.resolved.items e refl c.loop-at.invariant.1
