use Rattle.std.proofs.Common.{◌≡◌, ◌∙◌, ap, subst, sym}
use Rattle.c_macro.specs.Table.{known_of}
use Rattle.dt_api.specs.ApiText.{api_text}
use Rattle.dt_api.specs.Defining.{AreKnownTo, api_definitions}
use Rattle.dt_api.proofs.DefineSteps.{Going, broken, ended, ends_so, keeps_so, left_less, rule_map, so_far, started, stepped, tokens_so}
use Rattle.dt_api.proofs.defining.defs.Goals as goal

pub loop-line-init : goal.loop-line-init
loop-line-init c =
    let start : c.new-lines.result ≡ record { rest = api_text; number = 1 } =
    c.new-lines.ensures ∙ ap (λ text. record { rest = text; number = 1 }) (c.as_bytes.ensures.value ∙ c.api_text.ensures) in
    subst (Going (known_of c.args.d.now) (known_of c.args.d.now)) (sym start) (started (known_of c.args.d.now))

pub returns-in_err-line-clause-refused : goal.returns-in_err-line-clause-refused
returns-in_err-line-clause-refused c =
    ends_so c.from_residual.result c.in_err-line.field-0.0 _ c.from_residual.ensures.1
    (rule_map c.in_err-line.field-0.0 _ _ (λ r h. tokens_so _ _ c.loop-line.lines r c.loop-line.invariant h) c.in_err-line.ensures.refused)

pub returns-in_err-line-clause-begun : goal.returns-in_err-line-clause-begun
returns-in_err-line-clause-begun c = keeps_so c.from_residual.result _ (so_far _ _ c.loop-line.lines c.loop-line.invariant)

pub returns-in_err-apply-clause-refused : goal.returns-in_err-apply-clause-refused
returns-in_err-apply-clause-refused c =
    ends_so c.from_residual-in_err-apply.result c.in_err-apply.field-0.0 _ c.from_residual-in_err-apply.ensures.1
    (rule_map c.in_err-apply.field-0.0 _ _ (λ r h. broken _ _ _ _ _ r c.loop-line.invariant (rw c.in-Some.is at c.in_ok-line.ensures.line) h) c.in_err-apply.ensures.err)

pub returns-in_err-apply-clause-begun : goal.returns-in_err-apply-clause-begun
returns-in_err-apply-clause-begun c =
    keeps_so c.from_residual-in_err-apply.result _
    (subst (λ d. AreKnownTo (known_of c.args.d.now) api_definitions (known_of d)) (sym c.in_err-apply.ensures.same) (so_far _ _ c.loop-line.lines c.loop-line.invariant))

pub loop-line-smaller : goal.loop-line-smaller
loop-line-smaller c = left_less c.loop-line.lines c.next.new.self c.in-Some.line (rw c.in-Some.is at c.in_ok-line.ensures.line)

pub loop-line-preserved : goal.loop-line-preserved
loop-line-preserved c = stepped _ _ _ _ _ c.in-Some.line c.loop-line.invariant (rw c.in-Some.is at c.in_ok-line.ensures.line) c.in_ok-apply.ensures.ok.0 c.in_ok-apply.ensures.ok.1

pub returns-clause-allowed : goal.returns-clause-allowed
returns-clause-allowed c = (ended _ _ _ _ c.loop-line.invariant (rw c.in_default.is at c.in_ok-line.ensures.line)).allowed

pub returns-clause-known : goal.returns-clause-known
returns-clause-known c = (ended _ _ _ _ c.loop-line.invariant (rw c.in_default.is at c.in_ok-line.ensures.line)).known
