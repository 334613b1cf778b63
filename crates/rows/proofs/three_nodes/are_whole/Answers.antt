use Rattle.std.proofs.Common.{length, ap, arith}
use Rattle.edt_base.specs.TreeData.{ancestors}
use Rattle.reg_ranges.proofs.TranslationLaws.{one_more, all_whole}
use Rattle.rows.proofs.three_nodes.are_whole.Goals as goal

pub loop-id-preserved : goal.loop-id-preserved
loop-id-preserved c = one_more c.args.tree.now.nodes c.loop-id.id c.loop-id.invariant (c.is_whole_at.ensures c.if-not-is_whole_at.false)

pub returns : goal.returns
returns c = λ all. all_whole c.args.tree.now.nodes c.loop-id.id (omega (arith, ap length c.nodes.ensures)) c.loop-id.invariant (ancestors c.args.tree.now.nodes 2)
