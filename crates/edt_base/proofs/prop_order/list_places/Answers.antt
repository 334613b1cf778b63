use Rattle.std.proofs.Common.{ℕ, suc, List, [], ◌∷◌, ◌++◌, ◌≡◌, ◌+◌, sym, ap, subst, arith, ◌∙◌}
use Rattle.std.specs.List.{range_with_len}
use Rattle.edt_base.proofs.OrderLaws.{range_more}
use Rattle.edt_base.proofs.prop_order.list_places.Goals as goal

pub loop-at-preserved : goal.loop-at-preserved
loop-at-preserved c =
    let at : ℕ = c.loop-at.at in
    let next : suc at ≡ at + 1 = omega arith in
    let more : range_with_len 0 (suc at) ≡ range_with_len 0 at ++ at ∷ [] =
    subst (λ n. range_with_len 0 (suc at) ≡ range_with_len 0 at ++ n ∷ []) (omega arith) (range_more 0 at) in
    c.in_ok-push.ensures.items ∙ ap (λ (l : List ℕ). l ++ at ∷ []) c.loop-at.invariant ∙ sym more ∙ ap (range_with_len 0) next
