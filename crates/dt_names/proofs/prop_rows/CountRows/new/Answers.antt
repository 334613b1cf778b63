use Rattle.std.proofs.Common.{refl}
use Rattle.dt_names.proofs.prop_rows.CountRows.new.Goals as goal

pub returns : goal.returns
returns c = rw c.new.ensures (rw c.number.ensures (rw c.walks.ensures refl))
