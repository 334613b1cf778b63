use Rattle.std.proofs.Common.{◌≡◌, ◌∙◌, ◌*◌, ◌%◌, ℕ, nat_eq, ap, arith, length}
use Rattle.edt_base.specs.NodeData.{bytes_of}
use Rattle.irq_map.proofs.WrittenLaws.{is_whole_by, whole_len}
use Rattle.irq_map.proofs.written.is_whole.Goals as goal

pub returns-else-width-eq0 : goal.returns-else-width-eq0
returns-else-width-eq0 c =
    let len : c.byte_len-bytes.result ≡ length (bytes_of c.args.value.now) =
    whole_len c.byte_len-bytes.result (bytes_of c.args.value.now) c.args.cells.now c.requires c.byte_len-bytes.ensures (omega (arith, c.type_inv.cells)) in
    ap (λ (n : ℕ). nat_eq (n % (4 * c.from.result)) 0) len
    ∙ (ap (λ (w : ℕ). nat_eq (length (bytes_of c.args.value.now) % (4 * w)) 0) c.from.ensures
    ∙ is_whole_by c.args.width (length (bytes_of c.args.value.now)) (omega arith))
