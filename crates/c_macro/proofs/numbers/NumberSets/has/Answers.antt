use Rattle.std.proofs.Common.{◌≡◌, ◌∙◌, ap, sym, arith, nat_eq}
use Rattle.c_macro.specs.NumberData.{Numbers, numbers_of}
use Rattle.c_macro.proofs.NumberLaws.{none_is, zero_is}
use Rattle.c_macro.proofs.numbers.NumberSets.has.Goals as goal

pub returns-then-at-eq1 : goal.returns-then-at-eq1
returns-then-at-eq1 c = sym (ap (λ (s : Numbers). s c.loop-at.left) (ap (numbers_of c.args.self.now) c.if-at-eq1.true ∙ zero_is c.args.self.now)) ∙ c.loop-at.invariant.1

pub returns-else-at-eq1 : goal.returns-else-at-eq1
returns-else-at-eq1 c =
    let e : c.loop-at.at ≡ 0 = omega (arith, c.if-at-eq1.false) in
    ap (λ k. nat_eq k 1) e ∙ (sym (ap (λ (s : Numbers). s c.loop-at.left) (ap (numbers_of c.args.self.now) e ∙ none_is c.args.self.now)) ∙ c.loop-at.invariant.1)
