use Rattle.std.proofs.Common.{reverse}
use Rattle.c_macro.proofs.CollectLaws.{not_closed}
use Rattle.c_macro.proofs.TakeLaws.{called_is, called_known, called_size}
use Rattle.c_macro.proofs.collect.take_call.Goals as goal

pub returns-in_default-clause-is : goal.returns-in_default-clause-is
returns-in_default-clause-is c = λ s. not_closed s c.args.commas (reverse c.args.pend.now) (rw c.in_default.is at c.in_ok-enclosed.ensures)

pub returns-clause-is : goal.returns-clause-is
returns-clause-is c = λ s. called_is s c.args.commas c.args.pend.now c.take_closed.new.self c.in-Some.enclosed c.in_ok-args.args.items (rw c.in-Some.is at c.in_ok-enclosed.ensures) (c.in_ok-args.ensures.is s)

pub returns-clause-known : goal.returns-clause-known
returns-clause-known c = λ s h.
    let k = called_known s c.args.pend.now c.take_closed.new.self c.in-Some.enclosed (rw c.in-Some.is at c.in_ok-enclosed.ensures) h in
    record { args = c.in_ok-args.ensures.known s k.0; last = k.1; behind = k.2 }

pub returns-clause-size : goal.returns-clause-size
returns-clause-size c = called_size c.args.pend.now c.take_closed.new.self c.in-Some.enclosed c.in_ok-args.args.items (rw c.in-Some.is at c.in_ok-enclosed.ensures) c.in_ok-args.ensures.size
