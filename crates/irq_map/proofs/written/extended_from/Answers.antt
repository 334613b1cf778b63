use Rattle.std.proofs.Common.{length}
use Rattle.pha_nexus.specs.Cutting.{first_entry}
use Rattle.pha_nexus.proofs.RowLaws.{stop_on}
use Rattle.irq_map.specs.Written.{interrupt, specified}
use Rattle.irq_map.proofs.WrittenLaws.{all_more, written_bad, written_left, written_next}
use Rattle.irq_map.proofs.written.extended_from.Goals as goal

pub returns-in-Err-clause-stop : goal.returns-in-Err-clause-stop
returns-in-Err-clause-stop c = stop_on (specified (first_entry c.args.t.now.nodes interrupt c.in-Some.phandle.now c.in-Some.behind.now))
    (written_left c.args.t.now.nodes c.args.rest c.args.cells.now) c.in-Err.stop
    (λ b bad. written_bad c.args.t.now.nodes c.args.rest c.args.cells.now c.loop-phandle.left.now c.in-Some.behind.now c.in-Some.phandle.now c.loop-phandle.read.items b
    c.in-Some.ensures.cases.0 bad c.loop-phandle.invariant.0)
    c.in-Err.ensures.stop

pub loop-phandle-preserved : goal.loop-phandle-preserved
loop-phandle-preserved c = (
  written_next c.args.t.now.nodes c.args.rest c.args.cells.now c.loop-phandle.left.now c.in-Some.behind.now c.in-Ok.cut.1.now c.in-Some.phandle.now c.in-Ok.cut.0
      c.loop-phandle.read.items c.push.new.self.items c.in-Some.ensures.cases.0 c.in-Ok.ensures.cut c.in-Ok.ensures.rest c.in_ok-push.ensures.items c.loop-phandle.invariant.0,
  all_more (length c.args.t.now.nodes) c.loop-phandle.read.items c.push.new.self.items c.in-Ok.cut.0 c.loop-phandle.invariant.1 c.in-Ok.ensures.there c.in_ok-push.ensures.items,
)
