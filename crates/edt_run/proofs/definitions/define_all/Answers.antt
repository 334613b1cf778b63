use Rattle.std.proofs.Common.{Err, rules}
use Rattle.edt_run.specs.ExpandAnswer.{breach_at}
use Rattle.edt_run.proofs.ExpandLaws.{defines_step, left_less}
use Rattle.edt_run.proofs.definitions.define_all.Goals as goal

pub loop-rule-smaller : goal.loop-rule-smaller
loop-rule-smaller c =
    let next = rw c.in-Ok-true.field-0-test at c.in-Ok-true.ensures.next in
    left_less c.loop-rule.lines c.define_next.new.lines next.0 next.1

pub loop-rule-preserved : goal.loop-rule-preserved
loop-rule-preserved c =
    let next = rw c.in-Ok-true.field-0-test at c.in-Ok-true.ensures.next in
    λ r h. c.loop-rule.invariant r (defines_step _ _ _ _ r next h)

pub returns-in-Err-Rule-clause-stopped : goal.returns-in-Err-Rule-clause-stopped
returns-in-Err-Rule-clause-stopped c =
    let broken = rw c.in-Err-Rule.field-0-is at c.in-Err-Rule.ensures.stopped in
    (breach_at c.in-Err-Rule.rule c.loop-rule.lines.number, c.loop-rule.invariant (Err (breach_at c.in-Err-Rule.rule c.loop-rule.lines.number)) broken, search rules)
