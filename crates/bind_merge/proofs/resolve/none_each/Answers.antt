use Rattle.std.proofs.Common.{[], ◌∷◌, None, ap, arith, length, length-append}
use Rattle.bind_merge.proofs.Heights.{none_more}
use Rattle.bind_merge.proofs.resolve.none_each.Goals as goal

pub loop-preserved : goal.loop-preserved
loop-preserved g c =
    let n = c.loop.invariant.0 in
    rw c.in_ok-push.ensures.items
    (omega (arith, n, length-append c.loop.nones.items (None ∷ [])), none_more c.loop.nones.items c.loop.invariant.1)
