use Rattle.std.proofs.Common.{◌≡◌, ◌≤◌, take}
use Rattle.std.specs.List.{flat_map}
use Rattle.arrayvec.specs.ArrayVec.{array_vec_len}
use Rattle.edt_base.specs.Forms.{form_char}
use Rattle.head_write.proofs.text.chunk_form.Given as goal

abbrev pub invariant-loop-byte : goal.invariant-loop-byte
invariant-loop-byte l = (l.form.items ≡ flat_map form_char (take l.byte-index l.chunk)) × (array_vec_len l.form ≤ l.byte-index)
