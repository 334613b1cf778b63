use Rattle.std.proofs.Common.{◌≡◌, ◌∙◌, ◌∷◌, [], IfOk, Vec, Global, ap, map, option_map, sym, ℕ}
use Rattle.edt_base.specs.Forms.{form_of}
use Rattle.edt_base.specs.YamlData.{value_of}
use Rattle.edt_base.specs.declared.text.Text.{Text}
use Rattle.prop_types.specs.AllThere.{all_there}
use Rattle.prop_types.specs.Choices.{is_text, text_choice}
use Rattle.prop_types.proofs.PlaceLaws.{position_map}
use Rattle.prop_types.proofs.choices.one_text_choice.Goals as goal

pub returns : goal.returns
returns c =
    let text = c.args.text.now in
    let same : c.in_ok-text_choice.field-0 ≡ text_choice (map value_of c.args.entries.now) text =
    c.in_ok-text_choice.ensures ∙ ap (option_map (λ (at : ℕ). (at, form_of text))) (c.first_text.ensures ∙ sym (position_map value_of (is_text text) c.args.entries.now)) in
    let one : IfOk c.one.result (λ v. option_map (λ (x : Vec (ℕ × Text) Global). x.items) v ≡ all_there (c.in_ok-text_choice.field-0 ∷ [])) = c.one.ensures in
    rw same at one
