use Rattle.std.proofs.Common.{[], refl, ap, length}
use Rattle.c_macro.proofs.PendLaws.{known_grow}
use Rattle.c_macro.proofs.TurnLaws.{text_turned, unjoined_turned, above_turned}
use Rattle.c_macro.proofs.turn.put_in_place.Goals as goal

pub returns-in_default : goal.returns-in_default
returns-in_default c = λ d. unjoined_turned d c.args.machine.now _ c.requires.known (rw c.in_default.is refl)

pub returns-then-is_above : goal.returns-then-is_above
returns-then-is_above c = λ d. above_turned d c.args.machine.now c.args.name.now c.args.set _ c.in-Some.toks.items _ c.requires.known (rw c.in-Some.is refl) (ap length c.as_slice-count.ensures.value) (c.is_above.ensures.above c.if-is_above.true)

pub place-requires-clause-toks : goal.place-requires-clause-toks
place-requires-clause-toks c = known_grow c.args.machine.now.sets c.with.new.self c.in-Some.toks.items c.in_ok-bars.ensures.grown (rw c.in-Some.is at c.requires.text)

pub place-requires-clause-pend : goal.place-requires-clause-pend
place-requires-clause-pend c = known_grow c.args.machine.now.sets c.with.new.self c.args.machine.now.pend c.in_ok-bars.ensures.grown c.requires.known.pend

pub returns : goal.returns
returns c = λ d. rw c.in-Some.is
    (text_turned d c.args.machine.now _ c.args.name.now c.args.set c.in_ok-bars.bars _ c.in-Some.toks.items [] c.with.new.self c.requires.known (rw c.in-Some.is at c.requires.text) c.in_ok-bars.ensures.grown c.in_ok-bars.ensures.set.1
    c.in_ok-place.ensures.grown c.in_ok-place.ensures.known c.in_ok-place.ensures.is c.in_ok-place.ensures.size refl refl (ap length c.as_slice-count.ensures.value) refl (c.is_above.ensures.within c.if-is_above.false))
