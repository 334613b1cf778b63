use Rattle.std.proofs.Common.{refl}
use Rattle.c_macro.proofs.TurnLaws.{start_turned}
use Rattle.c_macro.proofs.turn.start_arg.Goals as goal

pub returns : goal.returns
returns c = λ d. start_turned d c.args.machine.now _ c.args.call _ c.args.arg c.requires.known c.requires.call c.requires.arg.0 c.requires.arg.1 c.requires.wanted refl c.in_ok-push.ensures.items c.of_row.ensures c.new.ensures.items refl refl refl refl refl refl refl refl refl refl
