use Rattle.std.proofs.Common.{refl}
use Rattle.c_macro.specs.Table.{known_of}
use Rattle.edt_run.specs.declared.expanding.Halt.TheVariants as halt
use Rattle.edt_run.specs.declared.top.Status.TheVariants as status
use Rattle.edt_run.proofs.ExpandPuts.{all_done, cut_memory, flush_failed, put_failed, told_memory, told_rule}
use Rattle.edt_run.proofs.expanding.write_output.Goals as goal

pub returns-in-Failed : goal.returns-in-Failed
returns-in-Failed g c =
    put_failed (known_of c.args.defs.now) c.args.name.now c.args.text.now _ (g.S.Sink.seen c.put_lines.new.out) _ _ c.new-block.ensures c.in-Failed.ensures

pub returns-in-Ok : goal.returns-in-Ok
returns-in-Ok g c =
    cut_memory (known_of c.args.defs.now) c.args.name.now c.args.text.now _ (g.S.Sink.seen c.put_lines.new.out) (g.S.Sink.seen c.flush.new.out) _ _ c.new-block.ensures
    c.in-Memory.ensures c.in-Ok.ensures.wrote

pub returns-in-Err : goal.returns-in-Err
returns-in-Err g c =
    flush_failed (known_of c.args.defs.now) c.args.name.now c.args.text.now _ (g.S.Sink.seen c.put_lines.new.out) (g.S.Sink.seen c.flush.new.out) _ _ halt.Memory c.new-block.ensures
    c.in-Memory.ensures c.in-Err.ensures.wrote (λ e. cc)

pub returns-in-Ok-flush : goal.returns-in-Ok-flush
returns-in-Ok-flush g c =
    all_done (known_of c.args.defs.now) c.args.name.now c.args.text.now _ (g.S.Sink.seen c.put_lines.new.out) (g.S.Sink.seen c.flush-in-Done.new.out) _ _
    (record { status = status.Done; line = c.new.result }) c.new-block.ensures c.in-Done.ensures c.in-Ok-flush.ensures.wrote refl c.new.ensures.bytes

pub returns-in-Err-flush : goal.returns-in-Err-flush
returns-in-Err-flush g c =
    flush_failed (known_of c.args.defs.now) c.args.name.now c.args.text.now _ (g.S.Sink.seen c.put_lines.new.out) (g.S.Sink.seen c.flush-in-Done.new.out) _ _
    halt.Done c.new-block.ensures c.in-Done.ensures c.in-Err-flush.ensures.wrote (λ e. cc)

pub returns-in-Ok-told_behind : goal.returns-in-Ok-told_behind
returns-in-Ok-told_behind g c =
    told_rule (known_of c.args.defs.now) c.args.name.now c.args.text.now _ (g.S.Sink.seen c.put_lines.new.out) (g.S.Sink.seen c.flush-in-Rule.new.out) _ _
    c.in-Rule.rule c.in-Rule.number c.in-Ok-told_behind.said c.new-block.ensures c.in-Rule.ensures c.in-Ok-flush-2.ensures.wrote c.in-Ok-told_behind.ensures

pub returns-in-Err-told_behind : goal.returns-in-Err-told_behind
returns-in-Err-told_behind g c =
    told_memory (known_of c.args.defs.now) c.args.name.now c.args.text.now _ (g.S.Sink.seen c.put_lines.new.out) (g.S.Sink.seen c.flush-in-Rule.new.out) _ _
    (halt.Rule c.in-Rule.rule c.in-Rule.number) c.new-block.ensures c.in-Rule.ensures c.in-Ok-flush-2.ensures.wrote (λ e. cc)

pub returns-in-Err-flush-2 : goal.returns-in-Err-flush-2
returns-in-Err-flush-2 g c =
    flush_failed (known_of c.args.defs.now) c.args.name.now c.args.text.now _ (g.S.Sink.seen c.put_lines.new.out) (g.S.Sink.seen c.flush-in-Rule.new.out) _ _
    (halt.Rule c.in-Rule.rule c.in-Rule.number) c.new-block.ensures c.in-Rule.ensures c.in-Err-flush-2.ensures.wrote (λ e. cc)
