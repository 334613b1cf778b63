use Rattle.c_macro.proofs.EndLaws.{last_is, last_known}
use Rattle.c_macro.proofs.text.behind_first.Goals as goal

pub returns-in-Some-clause-is : goal.returns-in-Some-clause-is
returns-in-Some-clause-is c = λ s. last_is s c.args.toks.now c.in-Some.before.now c.in-Some.field-0-0.now c.args.ends_only c.in-Some.ensures.cases.0 c.if-not-ends_only.false

pub returns-in-Some-clause-known : goal.returns-in-Some-clause-known
returns-in-Some-clause-known c = λ s h. last_known s c.args.toks.now c.in-Some.before.now c.in-Some.field-0-0.now c.in-Some.ensures.cases.0 h
