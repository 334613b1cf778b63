use Rattle.std.proofs.Common.{◌≡◌, ◌∙◌, ◌∷◌, sym, ap}
use Rattle.c_macro.specs.Calls as calls
use Rattle.c_macro.specs.Calls.{mark_of}
use Rattle.c_macro.specs.Marking.{mark_data}
use Rattle.c_macro.proofs.RowLaws.{step_bracket, step_inner}
use Rattle.c_macro.proofs.row.Row.step.Goals as goal

pub returns-in-Opens : goal.returns-in-Opens
returns-in-Opens c =
    let e : c.args.self.now ≡ c.in-Some.first.now ∷ c.in-Some.field-0-1.now = sym c.as_slice.ensures ∙ c.in-Some.ensures.cases.0 in
    let o : mark_of c.in-Some.first.now.tok ≡ calls.Opens = sym c.mark_of.ensures ∙ ap mark_data c.in-Opens.is in
    rw c.bracket_step.ensures (step_bracket c.args.self.now c.in-Some.field-0-1.now c.in-Some.first.now c.span.result e o (c.span.ensures.is c.in-Some.first.now c.in-Some.field-0-1.now e o))

pub returns-in-Inner : goal.returns-in-Inner
returns-in-Inner c =
    step_inner c.args.self.now c.in-Some.field-0-1.now c.in-Some.first.now (sym c.as_slice.ensures ∙ c.in-Some.ensures.cases.0) (sym c.mark_of.ensures ∙ ap mark_data c.in-Inner.is)
