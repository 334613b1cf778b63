use Rattle.std.proofs.Common.{ap}
use Rattle.std.specs.List.{flat_map}
use Rattle.head_write.specs.Header.{entry_text}
use Rattle.edt_base.proofs.Puts.{last_flush, if_ok, write_fails, failed}
use Rattle.head_write.proofs.Runs.{part_more, part_fails, all_put}
use Rattle.head_write.proofs.header.emit.Goals as goal

pub loop-entry-preserved : goal.loop-entry-preserved
loop-entry-preserved g c =
    part_more (g.S.Sink.seen c.args.out.now) (g.S.Sink.seen c.loop-entry.out) (g.S.Sink.seen c.put_entry.new.out) _ _ _ _ _ _ _ _
    c.loop-entry.invariant.1 (ap (flat_map entry_text) c.in-Some.ensures) c.loop-entry.invariant.2 c.in_ok-put_entry.ensures

pub returns-in_err-put_entry : goal.returns-in_err-put_entry
returns-in_err-put_entry g c =
    write_fails _ _ _ _ _ _ (failed c.from_residual.result c.from_residual.ensures.0) c.new-block.ensures
    (part_fails (g.S.Sink.seen c.args.out.now) (g.S.Sink.seen c.loop-entry.out) (g.S.Sink.seen c.put_entry.new.out) _ _ _ _ _ _ (flat_map entry_text c.next.new.self) _
    c.loop-entry.invariant.1 (ap (flat_map entry_text) c.in-Some.ensures) c.loop-entry.invariant.2 c.in_err-put_entry.ensures)

pub returns : goal.returns
returns g c =
    last_flush (g.S.Sink.seen c.args.out.now) (g.S.Sink.seen c.loop-entry.out) (g.S.Sink.seen c.flush.new.out) _ _ _ _ _
    c.new-block.ensures
    (all_put (g.S.Sink.seen c.args.out.now) (g.S.Sink.seen c.loop-entry.out) _ _ _ _ _
    c.loop-entry.invariant.1 (ap (flat_map entry_text) c.in_default.ensures.0) c.loop-entry.invariant.2)
    c.flush.ensures.wrote (if_ok c.flush.result c.flush.ensures.emptied)
