use Rattle.std.proofs.Common.{arith}
use Rattle.c_macro.proofs.MachineLaws.{rows_known_end, size_end}
use Rattle.c_macro.proofs.machine.fit_variable.Goals as goal

pub returns-then-count-names-2-clause-known : goal.returns-then-count-names-2-clause-known
returns-then-count-names-2-clause-known c = λ s h. rw (c.in_ok-push.ensures.items, c.none.ensures) (rows_known_end s c.args.args.items _ h tt)

pub returns-then-count-names-2-clause-size : goal.returns-then-count-names-2-clause-size
returns-then-count-names-2-clause-size c = rw (c.in_ok-push.ensures.items, c.none.ensures, size_end c.args.args.items) (omega arith)
