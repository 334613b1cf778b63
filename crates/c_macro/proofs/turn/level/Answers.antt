use Rattle.std.proofs.Common.{◌≡◌, [], ◌∷◌, refl, subst}
use Rattle.c_macro.specs.Table.{defs_of}
use Rattle.c_macro.specs.Pending.{KnownAll}
use Rattle.c_macro.proofs.PendLaws.{known_front}
use Rattle.c_macro.proofs.PlaceLaws.{last_known}
use Rattle.c_macro.proofs.TurnLaws.{ended_turned, level_turned}
use Rattle.c_macro.proofs.turn.level.Goals as goal

pub returns-in_default : goal.returns-in_default
returns-in_default c =
    let e : c.args.machine.now.pend ≡ [] = (rw c.in_default.is at c.in_ok-tok.ensures).0 in
    let f : c.pop.new.self ≡ [] = (rw c.in_default.is at c.in_ok-tok.ensures).1 in
    ended_turned (defs_of c.args.defs.now) c.args.machine.now (record c.args.machine.now { pend = c.pop.new.self }) _ _ (refl, refl, refl, refl) e f (c.in_ok-turn.ensures (defs_of c.args.defs.now))

pub look_at-requires-clause-known : goal.look_at-requires-clause-known
look_at-requires-clause-known c =
    let s = c.args.machine.now.sets in
    let k = c.requires.known in
    record { pend = known_front s c.pop.new.self (c.in-Some.tok ∷ []) (subst (KnownAll s) (rw c.in-Some.is at c.in_ok-tok.ensures) k.pend); out = k.out; opens = k.opens; units = k.units }

pub look_at-requires-clause-tok : goal.look_at-requires-clause-tok
look_at-requires-clause-tok c = last_known c.args.machine.now.sets c.args.machine.now.pend c.pop.new.self c.in-Some.tok (rw c.in-Some.is at c.in_ok-tok.ensures) c.requires.known.pend

pub returns : goal.returns
returns c =
    level_turned (defs_of c.args.defs.now) c.args.machine.now (record c.args.machine.now { pend = c.pop.new.self }) _ _ c.in-Some.tok (refl, refl, refl, refl) (rw c.in-Some.is at c.in_ok-tok.ensures) c.in_ok-turn-2.ensures
