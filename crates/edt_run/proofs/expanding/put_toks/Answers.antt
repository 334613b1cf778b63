use Rattle.std.proofs.Common.{is_ok, subst, sym, true}
use Rattle.c_tokens.specs.Shown.{shown}
use Rattle.edt_base.specs.Put.{Put}
use Rattle.edt_base.proofs.Puts.{put_then, put_stops, not_done, failed}
use Rattle.edt_run.proofs.expanding.put_toks.Goals as goal

pub returns-in_err-put_spelling : goal.returns-in_err-put_spelling
returns-in_err-put_spelling g c =
    subst (λ ts. Put (g.S.Sink.seen c.args.out.now) (g.S.Sink.seen c.put_spelling.new.out) c.args.block.now c.put_spelling.new.block (shown ts) (is_ok c.from_residual.result)) (sym c.in-Some.ensures.cases.0)
    (not_done _ _ _ _ _ _ (failed c.from_residual.result c.from_residual.ensures.0)
    (put_stops (g.S.Sink.seen c.args.out.now) (g.S.Sink.seen c.put_spelling.new.out) _ _ _ _ _ c.in_err-put_spelling.ensures))

pub returns-in_err-put_all_spaced : goal.returns-in_err-put_all_spaced
returns-in_err-put_all_spaced g c =
    subst (λ ts. Put (g.S.Sink.seen c.args.out.now) (g.S.Sink.seen c.put_all_spaced.new.out) c.args.block.now c.put_all_spaced.new.block (shown ts) (is_ok c.from_residual-in_err-put_all_spaced.result)) (sym c.in-Some.ensures.cases.0)
    (not_done _ _ _ _ _ _ (failed c.from_residual-in_err-put_all_spaced.result c.from_residual-in_err-put_all_spaced.ensures.0)
    (put_then _ (g.S.Sink.seen c.put_spelling.new.out) _ _ _ _ _ _ _ c.in_ok-put_spelling.ensures c.in_err-put_all_spaced.ensures))

pub returns : goal.returns
returns g c =
    subst (λ ts. Put (g.S.Sink.seen c.args.out.now) (g.S.Sink.seen c.put_all_spaced.new.out) c.args.block.now c.put_all_spaced.new.block (shown ts) true) (sym c.in-Some.ensures.cases.0)
    (put_then _ (g.S.Sink.seen c.put_spelling.new.out) _ _ _ _ _ _ _ c.in_ok-put_spelling.ensures c.in_ok-put_all_spaced.ensures)
