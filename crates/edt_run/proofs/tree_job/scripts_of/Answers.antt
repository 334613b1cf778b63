use Rattle.std.proofs.Common.{◌∙◌, arith}
use Rattle.edt_run.proofs.TreeLaws.{along_next, along_stops, along_end, ends_so}
use Rattle.edt_run.proofs.tree_job.scripts_of.Goals as goal

pub returns-in_err-script-clause-stopped : goal.returns-in_err-script-clause-stopped
returns-in_err-script-clause-stopped c =
    ends_so c.args.names.now c.args.sources.now c.from_residual.result c.in_err-script.field-0.0 c.from_residual.ensures.1
    (along_stops c.args.names.now c.args.sources.now c.loop-i.i c.loop-i.scripts.items c.index-names-i.result c.as_slice.result.now c.index-names-i.result c.index-sources-i.result _
    (omega arith) c.loop-i-test.true c.index-names-i.is (c.as_slice.ensures ∙ c.index-sources-i.is) c.in_err-script.ensures.first c.loop-i.invariant)

pub loop-i-preserved : goal.loop-i-preserved
loop-i-preserved c =
    along_next c.args.names.now c.args.sources.now c.loop-i.i c.loop-i.scripts.items c.push.new.self.items c.index-names-i.result c.as_slice.result.now c.index-names-i.result c.index-sources-i.result c.in_ok-script.script
    (omega arith) c.loop-i-test.true c.index-names-i.is (c.as_slice.ensures ∙ c.index-sources-i.is)
    c.in_ok-script.ensures.found c.in_ok-script.ensures.sound c.in_ok-push.ensures.items c.loop-i.invariant

pub returns-clause-read : goal.returns-clause-read
returns-clause-read c = along_end c.args.names.now c.args.sources.now c.loop-i.i c.loop-i.scripts.items c.loop-i-test.false c.loop-i.invariant
