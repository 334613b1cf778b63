use Rattle.std.proofs.Common.{◌<◌, ◌∙◌, arith, inl, inr}
use Rattle.std.proofs.lemmas.Bool.{cases_lt}
use Rattle.c_macro.proofs.NumberLaws.{first_with, even_made, odd_made, below_with}
use Rattle.c_macro.proofs.numbers.NumberSets.+with.Goals as goal

pub returns-then-is_first-clause-set : goal.returns-then-is_first-clause-set
returns-then-is_first-clause-set t c = let f = c.is_first.ensures.first c.if-is_first.true in (omega arith, first_with c.args.self.now c.args.set c.args.number f.0 f.1)

pub with-requires : goal.with-requires
with-requires t c =
    let o = c.is_first.ensures.other c.if-is_first.false in (
      elim (cases_lt 1 c.args.set) [
        | inl h ↦ let e = c.halves-evens.ensures.earlier h in omega (arith, e.0, c.decreases)
        | inr h ↦ omega (arith, o, h, c.halves-evens.ensures.evens, c.decreases)
      ],
      omega (arith, c.halves-evens.ensures.evens, c.requires),
    )

pub returns-in_err-more-clause-below : goal.returns-in_err-more-clause-below
returns-in_err-more-clause-below t c = λ most h l. c.in_err-more.ensures.below most h (omega (arith, l))

pub returns-in_err-more-2-clause-below : goal.returns-in_err-more-2-clause-below
returns-in_err-more-2-clause-below t c = λ most h l. c.in_err-more-2.ensures.below most h (omega (arith, l))

pub returns-in_err-made-clause-below : goal.returns-in_err-made-clause-below
returns-in_err-made-clause-below t c = λ most h l.
    c.in_err-made.ensures.below most (c.in_ok-more.ensures.below most h (omega (arith, l))) (below_with most c.args.self.now c.args.number c.args.set _ h l
    (even_made c.args.self.now c.with.new.self c.args.set _ _ c.in_ok-more.more c.args.number c.halves-evens.ensures.is c.in_ok-more.ensures.extends (omega (arith, c.halves-evens.ensures.odds, c.requires)) c.in_ok-more.ensures.set.1 (omega arith)))

pub returns-in_ok-made-clause-set : goal.returns-in_ok-made-clause-set
returns-in_ok-made-clause-set t c = (
  c.in_ok-made.ensures.set.0,
  c.in_ok-made.ensures.set.1
      ∙ even_made c.args.self.now c.with.new.self c.args.set _ _ c.in_ok-more.more c.args.number c.halves-evens.ensures.is c.in_ok-more.ensures.extends (omega (arith, c.halves-evens.ensures.odds, c.requires)) c.in_ok-more.ensures.set.1 (omega arith),
)

pub returns-in_ok-made-clause-below : goal.returns-in_ok-made-clause-below
returns-in_ok-made-clause-below t c = λ most h l.
    c.in_ok-made.ensures.below most (c.in_ok-more.ensures.below most h (omega (arith, l))) (below_with most c.args.self.now c.args.number c.args.set _ h l
    (even_made c.args.self.now c.with.new.self c.args.set _ _ c.in_ok-more.more c.args.number c.halves-evens.ensures.is c.in_ok-more.ensures.extends (omega (arith, c.halves-evens.ensures.odds, c.requires)) c.in_ok-more.ensures.set.1 (omega arith)))

pub returns-in_err-made-2-clause-below : goal.returns-in_err-made-2-clause-below
returns-in_err-made-2-clause-below t c = λ most h l.
    c.in_err-made-2.ensures.below most (c.in_ok-more-2.ensures.below most h (omega (arith, l))) (below_with most c.args.self.now c.args.number c.args.set _ h l
    (odd_made c.args.self.now c.with-else-number-eq0.new.self c.args.set _ _ c.in_ok-more-2.more c.args.number c.halves-evens.ensures.is c.in_ok-more-2.ensures.extends (omega (arith, c.halves-evens.ensures.evens, c.requires)) c.in_ok-more-2.ensures.set.1 (omega (arith, c.if-number-eq0.false))))

pub returns-in_ok-made-2-clause-set : goal.returns-in_ok-made-2-clause-set
returns-in_ok-made-2-clause-set t c = (
  c.in_ok-made-2.ensures.set.0,
  c.in_ok-made-2.ensures.set.1
      ∙ odd_made c.args.self.now c.with-else-number-eq0.new.self c.args.set _ _ c.in_ok-more-2.more c.args.number c.halves-evens.ensures.is c.in_ok-more-2.ensures.extends (omega (arith, c.halves-evens.ensures.evens, c.requires)) c.in_ok-more-2.ensures.set.1 (omega (arith, c.if-number-eq0.false)),
)

pub returns-in_ok-made-2-clause-below : goal.returns-in_ok-made-2-clause-below
returns-in_ok-made-2-clause-below t c = λ most h l.
    c.in_ok-made-2.ensures.below most (c.in_ok-more-2.ensures.below most h (omega (arith, l))) (below_with most c.args.self.now c.args.number c.args.set _ h l
    (odd_made c.args.self.now c.with-else-number-eq0.new.self c.args.set _ _ c.in_ok-more-2.more c.args.number c.halves-evens.ensures.is c.in_ok-more-2.ensures.extends (omega (arith, c.halves-evens.ensures.evens, c.requires)) c.in_ok-more-2.ensures.set.1 (omega (arith, c.if-number-eq0.false))))
