use Rattle.std.proofs.Common.{refl}
use Rattle.c_macro.proofs.TurnLaws.{keep_turned}
use Rattle.c_macro.proofs.turn.keep_arg.Goals as goal

pub returns : goal.returns
returns c = λ d. keep_turned d c.args.machine.now _ c.args.call _ c.args.arg _ c.requires.known c.requires.call c.requires.arg c.requires.unwanted refl refl refl refl refl refl refl refl refl c.in_ok-push.ensures.items refl c.new.ensures.items
