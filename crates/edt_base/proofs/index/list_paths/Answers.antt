use Rattle.std.proofs.Common.{ℕ, List, [], ◌∷◌, ◌++◌, sym, ap, ◌∙◌, arith}
use Rattle.std.proofs.lemmas.List.FromFn.{map-range_with_len_more}
use Rattle.edt_base.proofs.index.list_paths.Goals as goal

pub loop-i-preserved : goal.loop-i-preserved
loop-i-preserved c =
    let more = map-range_with_len_more (λ (i : ℕ). i) 0 c.loop-i.i c.loop-i.i (omega arith) in
    c.in_ok-push.ensures.items ∙ ap (λ (l : List ℕ). l ++ c.loop-i.i ∷ []) c.loop-i.invariant ∙ sym more
