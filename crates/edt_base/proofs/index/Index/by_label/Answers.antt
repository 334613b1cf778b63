use Rattle.edt_base.specs.NodeData.{has_label}
use Rattle.edt_base.proofs.IndexLemmas.{found_position}
use Rattle.edt_base.proofs.index.Index.by_label.Goals as goal

pub returns : goal.returns
returns c =
    found_position (has_label c.args.label.now) c.args.nodes.now (λ i j n m. c.requires.apart i j n m c.args.label.now) c.find_label.result c.find_label.ensures
