use Rattle.std.proofs.Common.{◌≡◌, ◌∙◌, ◌+◌, List, ap, arith, length}
use Rattle.edt_base.specs.NodeData.{NodeData}
use Rattle.dts_print.specs.Printed.{printed}
use Rattle.dts_print.specs.Inner.Steps.{text_from}
use Rattle.dts_print.proofs.Preorder.{printed_long}
use Rattle.dts_print.proofs.length.print_len.Goals as goal

pub returns : goal.returns
returns c =
    let long : length (printed c.args.tree.now) ≡ length (text_from c.args.tree.now.nodes 0 0 c.args.tree.now.nodes) + 10 =
    printed_long c.args.tree.now c.is_well_formed.ensures in
    let same : length (text_from c.as_slice.result.now 0 0 c.as_slice.result.now) ≡ length (text_from c.args.tree.now.nodes 0 0 c.args.tree.now.nodes) =
    ap (λ (ns : List NodeData). length (text_from ns 0 0 ns)) (c.as_slice.ensures.value ∙ c.nodes.ensures) in
    omega arith
