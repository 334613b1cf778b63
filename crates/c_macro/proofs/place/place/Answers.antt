use Rattle.std.proofs.Common.{rules}
use Rattle.c_macro.proofs.SetLaws.{grown_trans}
use Rattle.c_macro.proofs.PlaceLaws.{placing_starts, placing_goes, placing_ends, last_known, Placed}
use Rattle.c_macro.proofs.place.place.Goals as goal

pub loop-tok-init : goal.loop-tok-init
loop-tok-init c = placing_starts c.args.sets.now c.args.bars c.args.spaced c.args.pend.now c.args.toks.items c.requires.toks c.requires.pend

pub either-requires-clause-a : goal.either-requires-clause-a
either-requires-clause-a c = last_known c.loop-tok.sets c.loop-tok.toks.items c.pop.new.self.items c.in-Some.tok c.in-Some.ensures.items c.loop-tok.invariant.left_known

pub loop-tok-preserved : goal.loop-tok-preserved
loop-tok-preserved c =
    placing_goes c.args.sets.now c.loop-tok.sets c.either.new.self c.args.bars c.in_ok-set.set c.args.spaced c.is_none-first.result c.args.pend.now c.loop-tok.pend c.push.new.self c.args.toks.items c.loop-tok.toks.items c.pop.new.self.items c.in-Some.tok
    c.loop-tok.invariant c.in-Some.ensures.items c.requires.bars c.in_ok-set.ensures.grown c.in_ok-set.ensures.set.0 c.in_ok-set.ensures.set.1
    (rw c.as_slice.ensures.value at c.is_none-first.ensures.none) (rw c.as_slice.ensures.value at c.is_none-first.ensures.some) (rw c.spaced_if.ensures at c.in_ok-push.ensures)

pub returns : goal.returns
returns c =
    let p : Placed c.args.sets.now c.loop-tok.sets c.args.bars c.args.spaced c.args.pend.now c.loop-tok.pend c.args.toks.items = placing_ends _ _ _ _ _ _ _ _ c.loop-tok.invariant (search rules) in
    record { grown = p.grown; known = p.known; is = p.is; size = p.size }

pub returns-in_err-set-clause-grown : goal.returns-in_err-set-clause-grown
returns-in_err-set-clause-grown c = grown_trans c.args.sets.now c.loop-tok.sets c.either.new.self c.loop-tok.invariant.grown c.in_err-set.ensures.grown

pub returns-in_err-push-clause-grown : goal.returns-in_err-push-clause-grown
returns-in_err-push-clause-grown c = grown_trans c.args.sets.now c.loop-tok.sets c.either.new.self c.loop-tok.invariant.grown c.in_ok-set.ensures.grown
