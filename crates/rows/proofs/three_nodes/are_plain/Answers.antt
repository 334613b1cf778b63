use Rattle.rows.proofs.ThreeNodes.{plain_more, plain_all}
use Rattle.rows.proofs.three_nodes.are_plain.Goals as goal

pub loop-part-preserved : goal.loop-part-preserved
loop-part-preserved c = plain_more c.args.parts.now c.loop-part.part-index c.part-item.result c.loop-part-test.true c.part-item.is c.loop-part.invariant
    (c.is_plain_part.ensures c.if-not-is_plain_part.false)

pub returns : goal.returns
returns c = λ all. plain_all c.args.parts.now c.loop-part.part-index c.loop-part-test.false c.loop-part.invariant
