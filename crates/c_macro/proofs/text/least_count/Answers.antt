use Rattle.std.proofs.Common.{◌≡◌, ◌∙◌, ◌+◌, ◌∷◌, [], drop, ap, sym, map, arith, List}
use Rattle.std.proofs.lemmas.List.{drop_more, drop_all}
use Rattle.c_macro.specs.declared.part.Part.{Part}
use Rattle.c_macro.specs.Pending.{part_data, args_data}
use Rattle.c_macro.proofs.EndLaws.{counting_goes, counting_ends}
use Rattle.c_macro.proofs.text.least_count.Goals as goal

pub loop-part-preserved : goal.loop-part-preserved
loop-part-preserved c =
    let e : drop c.loop-part.part-index c.args.parts.now ≡ c.part-item.result ∷ drop (c.loop-part.part-index + 1) c.args.parts.now =
    drop_more c.args.parts.now c.loop-part.part-index c.part-item.result c.loop-part-test.true ∙ ap (λ x. x ∷ drop (c.loop-part.part-index + 1) c.args.parts.now) (sym c.part-item.is) in (
      omega (arith, c.loop-part.invariant.0, c.join_count-joins.ensures.few),
      λ s. counting_goes _ _ _ _ _ _ _ _ _ (c.loop-part.invariant.1 s) (ap (map part_data) e) (omega (arith, c.saturating_add-toks.ensures, c.part_count.ensures s)) (omega (arith, c.join_count-joins.ensures.is)),
    )

pub returns : goal.returns
returns c = λ s ts j. counting_ends _ _ _ _ _ _ ts (c.loop-part.invariant.1 s) (let e : drop c.loop-part.part-index c.args.parts.now ≡ [] = drop_all c.loop-part.part-index c.args.parts.now (omega (arith, c.loop-part-test.false)) in ap (map part_data) e) (omega (arith, c.saturating_sub.ensures)) j
