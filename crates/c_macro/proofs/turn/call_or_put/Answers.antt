use Rattle.std.proofs.Common.{◌≡◌, [], ◌∷◌, refl, sym, ◌∙◌, subst, reverse}
use Rattle.c_macro.specs.Expansion.{look, Put}
use Rattle.c_macro.specs.Pending.{mark, marks, KnownAll}
use Rattle.c_macro.proofs.PendLaws.{known_front}
use Rattle.c_macro.proofs.TurnLaws.{put_again, open_again, look_other, pend_pop}
use Rattle.c_macro.proofs.turn.call_or_put.Goals as goal

pub open_call-requires-clause-known : goal.open_call-requires-clause-known
open_call-requires-clause-known c =
    let s = c.args.machine.now.sets in
    let k = c.requires.known in
    record { pend = known_front s c.pop.new.self (c.in-Some.next ∷ []) (subst (KnownAll s) (rw c.in-Some.is at c.in_ok-next.ensures) k.pend); out = k.out; opens = k.opens; units = k.units }

pub returns-then-is_punct : goal.returns-then-is_punct
returns-then-is_punct c = λ d e.
    let s = c.args.machine.now.sets in
    open_again d c.args.machine.now (record c.args.machine.now { pend = c.pop.new.self }) _ _ c.args.tok c.in-Some.next (refl, refl, refl, refl) (rw c.in-Some.is at c.in_ok-next.ensures)
    (c.in_ok-turn-2.ensures d (mark s c.in-Some.next) (sym c.is_punct.ensures ∙ c.if-is_punct.true) e)

pub returns : goal.returns
returns c = λ d e.
    let s = c.args.machine.now.sets in
    let back = c.in_ok-push.ensures ∙ sym (rw c.in-Some.is at c.in_ok-next.ensures) in
    let l = look_other d (mark s c.args.tok) (mark s c.in-Some.next) (marks s (reverse c.pop.new.self)) c.args.def.now c.args.names.now e c.requires.names (sym c.is_punct.ensures ∙ c.if-is_punct.false) in
    let p = pend_pop s c.push.new.self c.pop.new.self c.in-Some.next c.in_ok-push.ensures in
    let l1 = subst (λ x. look d (mark s c.args.tok ∷ x) ≡ Put (mark s c.args.tok) x) (sym p) l in
    put_again d c.args.machine.now (record c.args.machine.now { pend = c.push.new.self }) _ _ c.args.tok (refl, refl, refl, refl) back (c.in_ok-turn-3.ensures d l1)
