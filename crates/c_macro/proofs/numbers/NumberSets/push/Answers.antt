use Rattle.std.proofs.Common.{◌≡◌, ◌<◌, ◌∙◌, ◌+◌, ap, sym, subst, arith, List, length, length-append, ◌∷◌, [], ◌++◌}
use Rattle.c_macro.specs.declared.numbers.Node.{Node}
use Rattle.c_macro.specs.NumberData.{AllBelow, AreEarlier, halved, numbers_of, sets_count}
use Rattle.c_macro.proofs.NumberLaws.{earlier_push, pushed_is, pushed_below}
use Rattle.c_macro.proofs.numbers.NumberSets.push.Goals as goal

pub invariant_of-self-2 : goal.invariant_of-self-2
invariant_of-self-2 c =
    let v = ap length c.self.view_is in
    subst (AreEarlier 2) (sym c.in_ok-push.ensures.items) (earlier_push 2 c.self.inside.nodes.items (record { evens = c.args.evens; odds = c.args.odds }) c.self.invariant (omega (arith, v, c.requires.evens)) (omega (arith, v, c.requires.odds)))

pub returns-clause-set : goal.returns-clause-set
returns-clause-set c =
    let n : Node = record { evens = c.args.evens; odds = c.args.odds } in
    let old : List Node = c.args.self.now in
    let j : c.push.new.self.items ≡ old ++ n ∷ [] = c.in_ok-push.ensures.items ∙ ap (λ (ns : List Node). ns ++ n ∷ []) c.self.view_is in
    let l : length (old ++ n ∷ []) ≡ length old + 1 = length-append old (n ∷ []) in
    subst (λ (ns : List Node). (c.count-made.result < sets_count ns) × (numbers_of ns c.count-made.result ≡ halved (numbers_of old n.evens) (numbers_of old n.odds))) (sym j)
    (omega (arith, l, c.count-made.ensures), ap (numbers_of (old ++ n ∷ [])) c.count-made.ensures ∙ pushed_is old n)

pub returns-clause-below : goal.returns-clause-below
returns-clause-below c =
    let n : Node = record { evens = c.args.evens; odds = c.args.odds } in
    let old : List Node = c.args.self.now in
    let j : c.push.new.self.items ≡ old ++ n ∷ [] = c.in_ok-push.ensures.items ∙ ap (λ (ns : List Node). ns ++ n ∷ []) c.self.view_is in
    λ most h new. subst (AllBelow most) (sym j) (pushed_below old n most h new)
