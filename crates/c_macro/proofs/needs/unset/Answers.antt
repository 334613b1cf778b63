use Rattle.std.proofs.Common.{length, arith, ◌∷◌, [], false, ap, ◌∙◌, length-append, slice_index_or}
use Rattle.c_macro.proofs.NeedLaws.{unset_more}
use Rattle.c_macro.proofs.needs.unset.Goals as goal

pub loop-preserved : goal.loop-preserved
loop-preserved c = (
  let l = ap length c.in_ok-push.ensures.items ∙ length-append c.loop.flags.items (false ∷ []) in omega (arith, l, c.loop.invariant.0),
  λ i. ap (λ xs. slice_index_or xs i false) c.in_ok-push.ensures.items ∙ unset_more c.loop.flags.items i c.loop.invariant.1,
)
