use Rattle.std.proofs.Common.{◌≡◌, true, ◌∙◌, ap, sym, rules, ℕ, List}
use Rattle.c_macro.specs.Directive.{is_word}
use Rattle.c_macro.specs.Bodies.{param_of}
use Rattle.c_macro.proofs.PartLaws.{param_named, param_rest}
use Rattle.c_macro.proofs.places.Places.number.Goals as goal

pub returns-in-Some : goal.returns-in-Some
returns-in-Some c =
    let w : is_word c.args.tok.now ≡ true = search rules in
    param_named c.self.inside.names.now c.self.inside.variadic c.args.tok.now c.in-Some.at w (sym c.in-Some.is ∙ (c.place_in.ensures ∙ c.self.invariant c.args.tok.now.spell))
    ∙ ap (λ (ns : List (List ℕ)). param_of ns c.args.tok.now) c.self.view_is

pub returns-in-None : goal.returns-in-None
returns-in-None c =
    let w : is_word c.args.tok.now ≡ true = search rules in
    c.rest_param.ensures ∙ (param_rest c.self.inside.names.now c.self.inside.variadic c.args.tok.now w (sym c.in-None.is ∙ (c.place_in.ensures ∙ c.self.invariant c.args.tok.now.spell))
    ∙ ap (λ (ns : List (List ℕ)). param_of ns c.args.tok.now) c.self.view_is)
