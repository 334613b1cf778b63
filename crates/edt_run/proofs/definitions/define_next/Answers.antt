use Rattle.std.proofs.Common.{refl}
use Rattle.c_macro.specs.Table.{known_of}
use Rattle.edt_run.proofs.ExpandLaws.{defines_breaks, defines_no_tokens_so, defines_none, ends_so, follows_is, goes_of, number_of, rule_map}
use Rattle.edt_run.proofs.definitions.define_next.Goals as goal

pub returns-in_err-next-clause-stopped : goal.returns-in_err-next-clause-stopped
returns-in_err-next-clause-stopped c =
    ends_so c.from_residual.result c.in_err-next.field-0.0 _ c.from_residual.ensures.1
    (rule_map c.in_err-next.field-0.0 _ _ (λ r h. defines_no_tokens_so (known_of c.args.defs.now) c.args.lines.now r h) c.in_err-next.ensures.refused)

pub returns-in_err-apply-in-Some-clause-stopped : goal.returns-in_err-apply-in-Some-clause-stopped
returns-in_err-apply-in-Some-clause-stopped c =
    let gives = rw c.in-Some.is at c.in_ok-next.ensures.line in
    ends_so c.from_residual-in_err-apply-in-Some.result c.in_err-apply-in-Some.field-0.0 _ c.from_residual-in_err-apply-in-Some.ensures.1
    (rule_map c.in_err-apply-in-Some.field-0.0 _ _
    (λ r h. defines_breaks (known_of c.args.defs.now) c.args.lines.now c.next.new.self c.in-Some.line r (goes_of _ _ _ gives) (number_of _ _ _ gives) h)
    c.in_err-apply-in-Some.ensures.err)

pub returns-in-None-clause-next : goal.returns-in-None-clause-next
returns-in-None-clause-next c = (defines_none _ _ (rw c.in-None.is at c.in_ok-next.ensures.line).0, refl)

pub returns-in_ok-apply-in-Some-clause-next : goal.returns-in_ok-apply-in-Some-clause-next
returns-in_ok-apply-in-Some-clause-next c =
    let gives = rw c.in-Some.is at c.in_ok-next.ensures.line in
    (c.in-Some.line, goes_of _ _ _ gives, c.in_ok-apply-in-Some.ensures.ok.0, follows_is _ _ _ c.in_ok-apply-in-Some.ensures.ok.1)
