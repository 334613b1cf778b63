use Rattle.std.proofs.Common.{◌≡◌, ◌<◌, ◌∙◌, arith, ℕ}
use Rattle.c_macro.specs.NumberData.{numbers_of, halved, common_numbers, sets_count}
use Rattle.c_macro.proofs.NumberLaws.{common_none, none_common, common_made, below_common}
use Rattle.c_macro.proofs.numbers.NumberSets.+common.Goals as goal

pub returns-in_err-odds-clause-below : goal.returns-in_err-odds-clause-below
returns-in_err-odds-clause-below t c = λ most h. c.in_err-odds.ensures.below most (c.in_ok-evens.ensures.below most h)

pub returns-in_err-made-clause-below : goal.returns-in_err-made-clause-below
returns-in_err-made-clause-below t c = λ most h.
    c.in_err-made.ensures.below most (c.in_ok-odds.ensures.below most (c.in_ok-evens.ensures.below most h)) (below_common most c.args.self.now c.args.a c.args.b _ h
    (common_made c.args.self.now c.common.new.self c.common-2.new.self c.args.a c.args.b _ _ _ _ c.in_ok-evens.evens c.in_ok-odds.odds c.halves-a_evens.ensures.is c.halves-b_evens.ensures.is c.in_ok-evens.ensures.extends c.in_ok-odds.ensures.extends
    (omega (arith, c.halves-a_evens.ensures.odds, c.requires.a)) (omega (arith, c.halves-b_evens.ensures.odds, c.requires.b)) c.in_ok-evens.ensures.set.0 c.in_ok-evens.ensures.set.1 c.in_ok-odds.ensures.set.1))

pub returns-clause-set : goal.returns-clause-set
returns-clause-set t c = (
  c.in_ok-made.ensures.set.0,
  c.in_ok-made.ensures.set.1
      ∙ common_made c.args.self.now c.common.new.self c.common-2.new.self c.args.a c.args.b _ _ _ _ c.in_ok-evens.evens c.in_ok-odds.odds c.halves-a_evens.ensures.is c.halves-b_evens.ensures.is c.in_ok-evens.ensures.extends c.in_ok-odds.ensures.extends
      (omega (arith, c.halves-a_evens.ensures.odds, c.requires.a)) (omega (arith, c.halves-b_evens.ensures.odds, c.requires.b)) c.in_ok-evens.ensures.set.0 c.in_ok-evens.ensures.set.1 c.in_ok-odds.ensures.set.1,
)

pub returns-clause-below : goal.returns-clause-below
returns-clause-below t c = λ most h.
    c.in_ok-made.ensures.below most (c.in_ok-odds.ensures.below most (c.in_ok-evens.ensures.below most h)) (below_common most c.args.self.now c.args.a c.args.b _ h
    (common_made c.args.self.now c.common.new.self c.common-2.new.self c.args.a c.args.b _ _ _ _ c.in_ok-evens.evens c.in_ok-odds.odds c.halves-a_evens.ensures.is c.halves-b_evens.ensures.is c.in_ok-evens.ensures.extends c.in_ok-odds.ensures.extends
    (omega (arith, c.halves-a_evens.ensures.odds, c.requires.a)) (omega (arith, c.halves-b_evens.ensures.odds, c.requires.b)) c.in_ok-evens.ensures.set.0 c.in_ok-evens.ensures.set.1 c.in_ok-odds.ensures.set.1))

pub returns-then-b-eq0-clause-set : goal.returns-then-b-eq0-clause-set
returns-then-b-eq0-clause-set t c = (omega arith, common_none c.args.self.now c.args.a c.args.b c.if-b-eq0.true)

pub returns-then-a-eq0-clause-set : goal.returns-then-a-eq0-clause-set
returns-then-a-eq0-clause-set t c = (omega arith, none_common c.args.self.now c.args.a c.args.b c.if-a-eq0.true)
