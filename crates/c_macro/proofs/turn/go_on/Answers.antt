use Rattle.std.proofs.Common.{◌≡◌, [], refl, sym, ◌∙◌, rules, arith, length, ◌+◌, ◌*◌}
use Rattle.c_macro.specs.Table.{defs_of}
use Rattle.c_macro.specs.declared.turn.Turn.TheVariants as turn
use Rattle.c_macro.specs.declared.turn.Open.{Open}
use Rattle.c_macro.specs.Worklist.{open_weight, turn_weight}
use Rattle.c_macro.proofs.TurnLaws.{same_known, same_turned, popped, Popped, popped_turned}
use Rattle.c_macro.proofs.turn.go_on.Goals as goal

pub finish_call-requires-clause-call : goal.finish_call-requires-clause-call
finish_call-requires-clause-call c =
    let e : c.args.call.todo.items ≡ [] = search rules in
    let f : c.pop.new.self.items ≡ [] = search rules in
    same_known c.args.machine.now.sets c.args.call (record c.args.call { todo = c.pop.new.self }) c.requires.call (f ∙ sym e) refl refl refl refl refl refl refl refl

pub returns-in_default : goal.returns-in_default
returns-in_default c =
    let e : c.args.call.todo.items ≡ [] = search rules in
    let f : c.pop.new.self.items ≡ [] = search rules in
    same_turned (defs_of c.args.defs.now) c.args.machine.now _ _ c.args.call (record c.args.call { todo = c.pop.new.self }) (f ∙ sym e) refl refl refl refl refl refl refl (c.in_ok-turn.ensures (defs_of c.args.defs.now))

pub start_arg-requires-clause-call : goal.start_arg-requires-clause-call
start_arg-requires-clause-call c =
    (popped c.args.machine.now.sets c.args.call (record c.args.call { todo = c.pop.new.self }) c.in-Some.arg c.requires.call c.in-Some.ensures.items refl refl refl refl refl refl refl refl).known

pub start_arg-requires-clause-arg : goal.start_arg-requires-clause-arg
start_arg-requires-clause-arg c =
    let p = popped c.args.machine.now.sets c.args.call (record c.args.call { todo = c.pop.new.self }) c.in-Some.arg c.requires.call c.in-Some.ensures.items refl refl refl refl refl refl refl refl in
    (p.arg_written, p.arg_raw)

pub returns-then-arg : goal.returns-then-arg
returns-then-arg c =
    let g : Open = record c.args.call { todo = c.pop.new.self } in
    let p : Popped c.args.machine.now.sets c.args.call g c.in-Some.arg = popped c.args.machine.now.sets c.args.call g c.in-Some.arg c.requires.call c.in-Some.ensures.items refl refl refl refl refl refl refl refl in
    let w : open_weight c.args.call ≡ open_weight g + (2 * length c.in-Some.arg.raw + 2) = p.weight in
    popped_turned (defs_of c.args.defs.now) c.args.machine.now _ _ c.args.call g c.in-Some.arg (turn_weight c.args.machine.now (turn.Call g) + (2 * length c.in-Some.arg.raw + 2)) p (omega (arith, w)) (c.in_ok-turn-2.ensures (defs_of c.args.defs.now))

pub keep_arg-requires-clause-call : goal.keep_arg-requires-clause-call
keep_arg-requires-clause-call c =
    (popped c.args.machine.now.sets c.args.call (record c.args.call { todo = c.pop.new.self }) c.in-Some.arg c.requires.call c.in-Some.ensures.items refl refl refl refl refl refl refl refl).known

pub keep_arg-requires-clause-arg : goal.keep_arg-requires-clause-arg
keep_arg-requires-clause-arg c =
    (popped c.args.machine.now.sets c.args.call (record c.args.call { todo = c.pop.new.self }) c.in-Some.arg c.requires.call c.in-Some.ensures.items refl refl refl refl refl refl refl refl).arg_written

pub returns : goal.returns
returns c =
    let g : Open = record c.args.call { todo = c.pop.new.self } in
    let p : Popped c.args.machine.now.sets c.args.call g c.in-Some.arg = popped c.args.machine.now.sets c.args.call g c.in-Some.arg c.requires.call c.in-Some.ensures.items refl refl refl refl refl refl refl refl in
    let w : open_weight c.args.call ≡ open_weight g + (2 * length c.in-Some.arg.raw + 2) = p.weight in
    popped_turned (defs_of c.args.defs.now) c.args.machine.now _ _ c.args.call g c.in-Some.arg (turn_weight c.args.machine.now (turn.Call g) + 1) p (omega (arith, w)) (c.in_ok-turn-3.ensures (defs_of c.args.defs.now))
