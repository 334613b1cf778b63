use Rattle.std.proofs.Common.{refl}
use Rattle.dt_names.proofs.elem_rows.choice_lines.Goals as goal

pub returns : goal.returns
returns c = rw c.four.ensures (rw c.number.ensures (rw c.number-2.ensures (rw c.as_bytes-form.ensures.value (rw c.as_str.ensures refl))))
