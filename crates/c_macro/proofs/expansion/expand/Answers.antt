use Rattle.std.proofs.Common.{List, map, ap, ◌∙◌}
use Rattle.c_macro.specs.declared.pend.Pend.{Pend}
use Rattle.c_macro.specs.Table.{defs_of}
use Rattle.c_macro.proofs.RunLaws.{finishes}
use Rattle.c_macro.proofs.expansion.expand.Goals as goal

pub returns-in-Finished-clause-ok : goal.returns-in-Finished-clause-ok
returns-in-Finished-clause-ok c =
    finishes (defs_of c.args.d.now) c.args.toks.now.items c.in_ok-out-in-Finished.out.items c.loop-call.machine c.one_turn.new.machine c.loop-call.call _ c.loop-call.invariant
    (rw (c.in-Finished.is, c.replace-at_work.ensures.value) at c.in_ok-one_turn.ensures) (c.in_ok-out-in-Finished.ensures ∙ ap (λ (x : List Pend). map (λ p. p.tok) x) c.as_slice-in-Finished.ensures.value)
