use Rattle.edt_base.proofs.PropOrderLemmas.{found_value, no_value}
use Rattle.edt_base.proofs.prop_order.PropOrder.find.Goals as goal

pub returns-in_err-find_place : goal.returns-in_err-find_place
returns-in_err-find_place c = rw c.from_residual.ensures (no_value c.args.props.now.entries c.args.name.now c.in_err-find_place.ensures)

pub returns : goal.returns
returns c =
    found_value c.args.props.now.entries c.args.name.now c.in_ok-find_place.field-0 c.in_ok-value.field-0-0.now c.in_ok-value.value.now
    c.in_ok-find_place.ensures c.in_ok-value.ensures.entry c.in_ok-value.ensures.value
