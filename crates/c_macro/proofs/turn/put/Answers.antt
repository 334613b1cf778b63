use Rattle.std.proofs.Common.{refl}
use Rattle.c_macro.proofs.TurnLaws.{put_turned}
use Rattle.c_macro.proofs.turn.put.Goals as goal

pub returns : goal.returns
returns c = λ d l. put_turned d c.args.machine.now _ c.args.tok c.requires.known c.requires.tok refl refl refl c.in_ok-push.ensures.items refl l
