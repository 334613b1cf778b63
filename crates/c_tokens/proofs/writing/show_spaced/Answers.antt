use Rattle.std.proofs.Common.{◌≡◌, ◌∷◌, [], false}
use Rattle.c_tokens.proofs.Writes.{wrote_then, wrote_stops, failed, not_done}
use Rattle.c_tokens.proofs.writing.show_spaced.Goals as goal

pub returns-in_err-write_text : goal.returns-in_err-write_text
returns-in_err-write_text g c =
    not_done _ _ _ _ (failed c.from_residual.result c.from_residual.ensures.0)
    (wrote_stops (g.S.Sink.seen c.args.out.now) (g.S.Sink.seen c.write_text.new.out) (32 ∷ []) c.args.tok.now.spell c.in_err-write_text.ensures)

pub returns-in_err-write_text-2 : goal.returns-in_err-write_text-2
returns-in_err-write_text-2 g c =
    not_done _ _ _ _ (failed c.from_residual-in_err-write_text-2.result c.from_residual-in_err-write_text-2.ensures.0)
    (rw (← c.as_str.ensures, ← c.as_bytes.ensures.value)
    (wrote_then (g.S.Sink.seen c.args.out.now) (g.S.Sink.seen c.write_text.new.out) (g.S.Sink.seen c.write_text-2.new.out) (32 ∷ []) c.as_bytes.result.now false c.in_ok-write_text.ensures c.in_err-write_text-2.ensures))
