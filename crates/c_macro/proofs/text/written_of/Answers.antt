use Rattle.c_macro.proofs.FeedLaws.{known_at}
use Rattle.c_macro.proofs.text.written_of.Goals as goal

pub returns-in-Some-clause-known : goal.returns-in-Some-clause-known
returns-in-Some-clause-known c = λ s k.
    let h = c.in-Some.ensures.lookup in
    rw c.as_slice.ensures (known_at s c.args.args.now c.args.number c.in-Some.arg.now h.3.0 h.1 k).0
