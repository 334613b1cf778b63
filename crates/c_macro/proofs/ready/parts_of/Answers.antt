use Rattle.std.proofs.Common.{◌≡◌, ◌∙◌, ap, true, false, ℕ, List, Bool, Option, Some}
use Rattle.c_tokens.specs.declared.tok.Tok.{Tok}
use Rattle.c_macro.specs.MacroData.{Macro}
use Rattle.c_macro.specs.Directive.{all_params}
use Rattle.c_macro.specs.Bodies.{parts, parts_of}
use Rattle.c_macro.proofs.ready.parts_of.Goals as goal

pub returns-in_ok-made-in-Some : goal.returns-in_ok-made-in-Some
returns-in_ok-made-in-Some c =
    let m : Macro = c.args.def.now in
    let names : List (List ℕ) = c.in-Some.names.items in
    let p : Some names ≡ m.params = rw c.in-Some.is at (ap (λ (x : Macro). x.params) c.def.view_is) in
    let v : c.def.inside.variadic ≡ m.variadic = ap (λ (x : Macro). x.variadic) c.def.view_is in
    let b : c.def.inside.body.items ≡ m.body = ap (λ (x : Macro). x.body) c.def.view_is in
    c.in_ok-made-in-Some.ensures ∙ (ap (λ (ns : List (List ℕ)). parts true (all_params ns c.def.inside.variadic) false c.as_slice-body.result.now) c.as_slice.ensures.value
    ∙ (ap (λ (ts : List Tok). parts true (all_params names c.def.inside.variadic) false ts) (c.as_slice-body.ensures.value ∙ b)
    ∙ (ap (λ (x : Bool). parts true (all_params names x) false m.body) v ∙ ap (parts_of m) p)))
