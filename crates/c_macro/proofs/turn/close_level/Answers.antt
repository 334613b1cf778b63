use Rattle.std.proofs.Common.{◌≡◌, [], refl, rules, ap}
use Rattle.c_macro.proofs.TurnLaws.{finished_turned, close_turned}
use Rattle.c_macro.proofs.turn.close_level.Goals as goal

pub returns-in_default : goal.returns-in_default
returns-in_default c = λ d.
    let e : c.args.machine.now.opens.items ≡ [] = search rules in
    let f : c.pop.new.self.items ≡ [] = search rules in
    finished_turned d c.args.machine.now _ c.requires.known e f refl refl refl refl

pub returns : goal.returns
returns c = λ d.
    close_turned d c.args.machine.now _ c.pop.new.self.items c.in-Some.call _ _ c.requires.known c.requires.ended c.in-Some.ensures.items refl refl refl
    (rw c.replace-full.ensures.after c.new.ensures.items) refl refl refl refl refl refl refl refl (rw c.replace-written.ensures.after c.none.ensures) c.in_ok-push.ensures.items
    c.replace-written.ensures.value (ap (λ v. v.items) c.replace-full.ensures.value)
