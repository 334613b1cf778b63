use Rattle.std.proofs.Common.{◌∙◌, sym}
use Rattle.pha_nexus.proofs.PassLaws.{passed_on, passed_stop}
use Rattle.pha_nexus.proofs.passing.pass_map.Goals as goal

pub returns-in-Ok-clause-hop : goal.returns-in-Ok-clause-hop
returns-in-Ok-clause-hop c = passed_on c.args.t.now.nodes c.args.space.now c.args.spec.now c.as_slice.result.now c.args.map.now _ _ c.in-Ok.exit.node c.in-Ok.exit.parent.items
    c.in_ok-sent-in-Ok.sent.items (sym c.if-not-is_as_long.ensures) (sym c.if-not-is_as_long-2.ensures) (c.as_slice.ensures.value ∙ c.in_ok-child.ensures)
    c.in-Ok.ensures.row c.in_ok-sent-in-Ok.ensures

pub returns-clause-stop : goal.returns-clause-stop
returns-clause-stop c = passed_stop c.args.t.now.nodes c.args.space.now c.args.spec.now c.as_slice.result.now c.args.map.now _ _ c.in-Err.stop
    (sym c.if-not-is_as_long.ensures) (sym c.if-not-is_as_long-2.ensures) (c.as_slice.ensures.value ∙ c.in_ok-child.ensures) c.in-Err.ensures.stop
