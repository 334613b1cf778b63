use Rattle.std.proofs.Common.{◌≡◌, ◌∙◌, ℕ, List, ap, subst, sym}
use Rattle.c_tokens.specs.LineData.{LineData}
use Rattle.c_macro.specs.Expansion.{Done, Refused, expands}
use Rattle.c_macro.specs.Marked.{Marked, toks_of}
use Rattle.c_macro.specs.Table.{defs_of, known_of}
use Rattle.edt_run.proofs.ExpandLaws.{adds_silent, adds_text, breaks_from, breaks_silent, breaks_text, ends_from, ends_so, goes_of, no_tokens_so, number_of, rule_map}
use Rattle.edt_run.proofs.expanding.next_output.Goals as goal

pub returns-in_err-next-clause-stopped : goal.returns-in_err-next-clause-stopped
returns-in_err-next-clause-stopped c =
    ends_so c.from_residual.result c.in_err-next.field-0.0 _ c.from_residual.ensures.1
    (rule_map c.in_err-next.field-0.0 _ _ (λ r h. no_tokens_so (known_of c.args.defs.now) c.args.lines.now r h) c.in_err-next.ensures.refused)

pub returns-in_err-apply-in-Some-clause-stopped : goal.returns-in_err-apply-in-Some-clause-stopped
returns-in_err-apply-in-Some-clause-stopped c =
    let gives = rw c.in-Some.is at c.in_ok-next.ensures.line in
    ends_so c.from_residual-in_err-apply-in-Some.result c.in_err-apply-in-Some.field-0.0 _ c.from_residual-in_err-apply-in-Some.ensures.1
    (rule_map c.in_err-apply-in-Some.field-0.0 _ _
    (λ r h. breaks_from (known_of c.args.defs.now) c.args.lines.now c.next.new.self c.in-Some.line r (goes_of _ _ _ gives) (number_of _ _ _ gives)
    (breaks_silent (known_of c.args.defs.now) c.in-Some.line r (sym (ap (λ (l : LineData). l.directive) c.line.view_is) ∙ c.if-line.true) h))
    c.in_err-apply-in-Some.ensures.err)

pub returns-then-line-clause-next : goal.returns-then-line-clause-next
returns-then-line-clause-next c =
    let gives = rw c.in-Some.is at c.in_ok-next.ensures.line in
    (c.in-Some.line, goes_of _ _ _ gives, adds_silent (known_of c.args.defs.now) (known_of c.apply.new.self) c.in-Some.line (sym (ap (λ (l : LineData). l.directive) c.line.view_is) ∙ c.if-line.true) c.in_ok-apply-in-Some.ensures.ok)

pub returns-in_err-toks-in-Some-clause-stopped : goal.returns-in_err-toks-in-Some-clause-stopped
returns-in_err-toks-in-Some-clause-stopped c =
    let gives = rw c.in-Some.is at c.in_ok-next.ensures.line in
    ends_so c.from_residual-in_err-toks-in-Some.result c.in_err-toks-in-Some.field-0.0 _ c.from_residual-in_err-toks-in-Some.ensures.1
    (rule_map c.in_err-toks-in-Some.field-0.0 _ _
    (λ r h. breaks_from (known_of c.args.defs.now) c.args.lines.now c.next.new.self c.in-Some.line r (goes_of _ _ _ gives) (number_of _ _ _ gives)
    (breaks_text (known_of c.args.defs.now) c.in-Some.line r (sym (ap (λ (l : LineData). l.directive) c.line.view_is) ∙ c.if-line.false)
    (subst (λ ts. expands (defs_of c.args.defs.now) ts (Refused r)) (ap (λ (l : LineData). l.toks) c.line.view_is) h)))
    c.in_err-toks-in-Some.ensures.err)

pub returns-in-None-clause-next : goal.returns-in-None-clause-next
returns-in-None-clause-next c = ends_from (known_of c.args.defs.now) c.args.lines.now (rw c.in-None.is at c.in_ok-next.ensures.line).0

pub returns-in_ok-toks-in-Some-clause-next : goal.returns-in_ok-toks-in-Some-clause-next
returns-in_ok-toks-in-Some-clause-next c =
    let gives = rw c.in-Some.is at c.in_ok-next.ensures.line in (
      c.in-Some.line,
      goes_of _ _ _ gives,
      adds_text (known_of c.args.defs.now) c.in-Some.line c.in_ok-toks-in-Some.toks.items (sym (ap (λ (l : LineData). l.directive) c.line.view_is) ∙ c.if-line.false)
          (subst (λ ts. (out : List Marked) × (u : ℕ) × expands (defs_of c.args.defs.now) ts (Done out u) × (toks_of out ≡ c.in_ok-toks-in-Some.toks.items))
          (ap (λ (l : LineData). l.toks) c.line.view_is) c.in_ok-toks-in-Some.ensures.ok),
    )
