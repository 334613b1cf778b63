use Rattle.std.proofs.Common.{ℕ, List, [], ◌∷◌, ◌++◌, sym, ap, ◌∙◌, arith, append_assoc}
use Rattle.std.proofs.lemmas.List.FromFn.{map-range_with_len_more}
use Rattle.edt_base.specs.declared.index.LabelPlace.{LabelPlace}
use Rattle.edt_base.specs.Inner.IndexData.{label_places}
use Rattle.edt_base.proofs.index.add_labels.Goals as goal

pub loop-label-preserved : goal.loop-label-preserved
loop-label-preserved c =
    let made : ℕ → LabelPlace = λ j. record { node = c.args.node; label = j } in
    let old : List LabelPlace = c.args.labels.now.items in
    let here : LabelPlace = made c.loop-label.label in
    let more = map-range_with_len_more made 0 c.loop-label.label c.loop-label.label (omega arith) in
    c.in_ok-push.ensures.items ∙ ap (λ (l : List LabelPlace). l ++ here ∷ []) c.loop-label.invariant
    ∙ append_assoc old (label_places c.args.node c.loop-label.label) (here ∷ []) ∙ ap (λ (l : List LabelPlace). old ++ l) (sym more)
