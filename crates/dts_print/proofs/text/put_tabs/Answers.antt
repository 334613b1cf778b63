use Rattle.std.proofs.Common.{◌∷◌, []}
use Rattle.std.proofs.lemmas.List.{replicate_more}
use Rattle.edt_base.proofs.Puts.{put_as, put_then, not_done, failed}
use Rattle.dts_print.specs.Printed.{tabs}
use Rattle.dts_print.proofs.Runs.{tab_fails}
use Rattle.dts_print.proofs.text.put_tabs.Goals as goal

pub returns-in_err-put_byte : goal.returns-in_err-put_byte
returns-in_err-put_byte g c =
    not_done _ _ _ _ _ _ (failed c.from_residual.result c.from_residual.ensures.0)
    (tab_fails c.args.count c.loop-tab._tab (g.S.Sink.seen c.args.out.now) (g.S.Sink.seen c.loop-tab.out) (g.S.Sink.seen c.put_byte.new.out) _ _ _
    c.loop-tab-test.true c.loop-tab.invariant c.in_err-put_byte.ensures)

pub loop-tab-preserved : goal.loop-tab-preserved
loop-tab-preserved g c =
    put_as _ _ _ _ _ _ _ (replicate_more c.loop-tab._tab 9)
    (put_then (g.S.Sink.seen c.args.out.now) (g.S.Sink.seen c.loop-tab.out) (g.S.Sink.seen c.put_byte.new.out) _ _ _ (tabs c.loop-tab._tab) (9 ∷ []) _ c.loop-tab.invariant c.in_ok-put_byte.ensures)
