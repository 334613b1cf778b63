use Rattle.std.proofs.Common.{◌≡◌, ◌∙◌, ◌++◌, ◌⊎◌, ◌∷◌, [], ap, sym, inl, inr, List, All, rules, arith}
use Rattle.std.proofs.lemmas.Grind.{common_steps}
use Rattle.std.proofs.lemmas.List.{nil_from_length}
use Rattle.std.proofs.lemmas.List.Elements.{All-rest}
use Rattle.std.specs.Vec.Iter.{into_iter_items}
use Rattle.std.specs.Iterator.Adapters.{zip_first, zip_second}
use Rattle.dts_tree.specs.Inner.Nodes.{nodes_from, HasLowParent}
use Rattle.dts_tree.proofs.KidLaws.{node_more, nodes_ended}
use Rattle.dts_tree.proofs.nodes.nodes.Goals as goal

pub loop-draft-preserved : goal.loop-draft-preserved
loop-draft-preserved c =
    let s = c.in-Some.ensures.steps in
    let old = c.loop-draft.draft-iterator in
    let new = c.next.new.self in
    let low : All HasLowParent (into_iter_items (zip_first (zip_first new))) =
    All-rest HasLowParent c.in-Some.draft (into_iter_items (zip_first (zip_first new))) (into_iter_items (zip_first (zip_first old))) s.0.0.0 c.loop-draft.invariant.3 in
    let more = node_more c.loop-draft.nodes.items
    (into_iter_items (zip_first (zip_first old))) (into_iter_items (zip_first (zip_first new)))
    (into_iter_items (zip_second (zip_first old))) (into_iter_items (zip_second (zip_first new)))
    (into_iter_items (zip_second old)) (into_iter_items (zip_second new))
    c.in-Some.draft c.in-Some.props c.in-Some.ids _ s.0.0.0 s.0.1.0 s.1.0 c.loop-draft.invariant.2 in
    let pushed : c.push.new.self.items ≡ c.loop-draft.nodes.items ++ c.in_ok-node.field-0 ∷ [] = c.in_ok-push.ensures.items in
    let rest = λ (xs : List _). xs ++ nodes_from (into_iter_items (zip_first (zip_first new))) (into_iter_items (zip_second (zip_first new))) (into_iter_items (zip_second new)) in
    (((tt, tt), tt), tt, ap rest (pushed ∙ ap (λ n. c.loop-draft.nodes.items ++ n ∷ []) c.in_ok-node.ensures) ∙ more, low)

pub returns : goal.returns
returns c =
    let old = c.loop-draft.draft-iterator in
    nodes_ended c.loop-draft.nodes.items (into_iter_items (zip_first (zip_first old))) (into_iter_items (zip_second (zip_first old))) (into_iter_items (zip_second old)) _
    (elim c.in-None.ensures.steps [
      | inl a ↦ inl (elim a.1 [
        | inl b ↦ inl (nil_from_length (into_iter_items (zip_first (zip_first old))) (sym (zip_first (zip_first old)).rest.ok.0 ∙ b.1.0))
        | inr b ↦ inr (nil_from_length (into_iter_items (zip_second (zip_first old))) (sym (zip_second (zip_first old)).rest.ok.0 ∙ b.1.0))
      ])
      | inr b ↦ inr (nil_from_length (into_iter_items (zip_second old)) (sym (zip_second old).rest.ok.0 ∙ b.1.0))
    ]) c.loop-draft.invariant.2
