use Rattle.std.proofs.Common.{refl}
use Rattle.dt_names.proofs.prop_rows.PropRows.of.Goals as goal

pub returns : goal.returns
returns c = rw c.value_row.ensures (rw c.prop_choice.ensures (rw c.prop_elems.ensures (rw c.prop_counts.ensures (rw c.new.ensures (rw c.number.ensures refl)))))
