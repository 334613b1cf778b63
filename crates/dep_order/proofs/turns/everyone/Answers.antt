use Rattle.std.proofs.Common.{◌++◌, ◌∷◌, [], List, sym, ap, ◌∙◌, arith}
use Rattle.std.proofs.lemmas.List.FromFn.{map-range_with_len_more}
use Rattle.dep_order.specs.Turns.{starter}
use Rattle.dep_order.specs.declared.turns.Waiter.{Waiter}
use Rattle.dep_order.proofs.turns.everyone.Goals as goal

pub loop-id-preserved : goal.loop-id-preserved
loop-id-preserved c =
    let more = map-range_with_len_more starter 0 c.loop-id.id c.loop-id.id (omega arith) in
    c.in_ok-push.ensures.items ∙ ap (λ (l : List Waiter). l ++ starter c.loop-id.id ∷ []) c.loop-id.invariant ∙ sym more
