use Rattle.std.proofs.Common.{◌≡◌, ◌∙◌, ◌∷◌, [], IfOk, Vec, Global, ap, decimal, map, option_map, sym, ℕ}
use Rattle.edt_base.specs.YamlData.{value_of}
use Rattle.edt_base.specs.declared.text.Text.{Text}
use Rattle.prop_types.specs.AllThere.{all_there}
use Rattle.prop_types.specs.Choices.{is_number, number_choice}
use Rattle.prop_types.specs.Given.{cell_in}
use Rattle.prop_types.proofs.PlaceLaws.{position_map}
use Rattle.prop_types.proofs.choices.cell_choice.Goals as goal

pub returns : goal.returns
returns c =
    let cell = c.args.cell in
    let same : c.in_ok-number_choice.field-0 ≡ number_choice cell_in (map value_of c.args.entries.now) cell =
    c.in_ok-number_choice.ensures ∙ ap (option_map (λ (at : ℕ). (at, decimal cell))) (c.first_cell.ensures ∙ sym (position_map value_of (is_number cell_in cell) c.args.entries.now)) in
    let one : IfOk c.one.result (λ v. option_map (λ (x : Vec (ℕ × Text) Global). x.items) v ≡ all_there (c.in_ok-number_choice.field-0 ∷ [])) = c.one.ensures in
    rw same at one
