use Rattle.std.proofs.Common.{◌≡◌, None, sym, map, take, get_or, rules, arith}
use Rattle.std.proofs.lemmas.Grind.{common_steps}
use Rattle.edt_base.specs.NodeData.{prop_of}
use Rattle.dts_tree.specs.Final.{prop_value}
use Rattle.dts_tree.proofs.PropLaws.{none_before}
use Rattle.dts_tree.proofs.values.written_props.Goals as goal

pub add-requires : goal.add-requires
add-requires c =
    let h = none_before c.args.drafts.now c.args.numbers.now c.args.props.now c.loop-prop.prop-index c.prop-item.result c.requires c.loop-prop-test.true in
    let e : c.in_ok-copy.field-0 ≡ (get_or c.args.props.now c.loop-prop.prop-index c.prop-item.result).0 = first_of (cc, search rules, grind (arith, common_steps)) in
    rw (e, c.loop-prop.invariant) h
