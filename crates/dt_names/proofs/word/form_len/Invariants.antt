use Rattle.std.proofs.Common.{◌≡◌, ◌+◌, ◌-◌, ◌^◌, ◌<◌, length, min}
use Rattle.edt_base.specs.Forms.{form_of}
use Rattle.dt_names.proofs.word.form_len.Given as goal

abbrev pub invariant-loop-byte : goal.invariant-loop-byte
invariant-loop-byte l = (l.len < 2 ^ 64) × (min (l.len + length (form_of l.left)) (2 ^ 64 - 1) ≡ min (length (form_of l.text)) (2 ^ 64 - 1))

abbrev pub decreases-loop-byte : goal.decreases-loop-byte
decreases-loop-byte l = length l.left
