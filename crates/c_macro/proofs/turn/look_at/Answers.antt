use Rattle.std.proofs.Common.{◌≡◌, None, Some, sym}
use Rattle.c_macro.specs.Table.{defs_of}
use Rattle.c_macro.specs.Pending.{mark}
use Rattle.c_macro.specs.Expansion.{macro_at}
use Rattle.c_macro.proofs.TurnLaws.{look_free, look_object}
use Rattle.c_macro.proofs.turn.look_at.Goals as goal

pub returns-in_default : goal.returns-in_default
returns-in_default c =
    let e : macro_at (defs_of c.args.defs.now) (mark c.args.machine.now.sets c.args.tok) ≡ None = sym (rw c.in_default.is at c.macro_at.ensures) in
    c.in_ok-turn.ensures (defs_of c.args.defs.now) (look_free (defs_of c.args.defs.now) _ _ e)

pub returns-in_ok-turn-in-None : goal.returns-in_ok-turn-in-None
returns-in_ok-turn-in-None c =
    let e : macro_at (defs_of c.args.defs.now) (mark c.args.machine.now.sets c.args.tok) ≡ Some c.in-Some.def.now = sym (rw c.in-Some.is at c.macro_at.ensures) in
    let p : c.in-Some.def.now.params ≡ None = sym (rw c.in-None.is at c.params.ensures) in
    c.in_ok-turn-in-None.ensures (defs_of c.args.defs.now) (look_object (defs_of c.args.defs.now) _ _ c.in-Some.def.now e p)

pub returns-in_ok-turn-in-Some-params : goal.returns-in_ok-turn-in-Some-params
returns-in_ok-turn-in-Some-params c =
    let e : macro_at (defs_of c.args.defs.now) (mark c.args.machine.now.sets c.args.tok) ≡ Some c.in-Some.def.now = sym (rw c.in-Some.is at c.macro_at.ensures) in
    c.in_ok-turn-in-Some-params.ensures (defs_of c.args.defs.now) e
