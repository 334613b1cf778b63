use Rattle.std.proofs.Common.{◌≡◌, ◌∙◌, None, ap, map, rules, arith}
use Rattle.std.specs.Prelude.{option_map}
use Rattle.std.proofs.lemmas.Grind.{common_steps}
use Rattle.edt_base.specs.NodeData.{prop_of}
use Rattle.dts_tree.specs.Final.{draft_prop, part_of, prop_value, phandle_name}
use Rattle.dts_tree.proofs.PropLaws.{prop_of_values}
use Rattle.dts_tree.proofs.values.props_of.Goals as goal

pub add-requires : goal.add-requires
add-requires c =
    let none : draft_prop phandle_name c.args.draft.now.props ≡ None = first_of (search rules, grind (arith, common_steps)) in
    let e : c.in_ok-props.props ≡ map (prop_value c.args.drafts.now c.args.numbers.now) c.args.draft.now.props = first_of (search rules, grind (arith, common_steps)) in
    let n : c.in_ok-text-in-None-draft_prop.field-0 ≡ phandle_name = first_of (search rules, grind (arith, common_steps)) in
    rw (n, e) (prop_of_values c.args.drafts.now c.args.numbers.now phandle_name c.args.draft.now.props ∙ ap (option_map (map (part_of c.args.drafts.now c.args.numbers.now))) none)
