use Rattle.std.proofs.Common.{◌≡◌, ◌∷◌, ◌∙◌, List, false, true, sym, subst}
use Rattle.c_tokens.specs.declared.tok.Tok.{Tok}
use Rattle.c_tokens.proofs.Writes.{shown_fails, shown_then, failed, not_done}
use Rattle.c_tokens.proofs.writing.show.Goals as goal

pub returns-in_err-write_text : goal.returns-in_err-write_text
returns-in_err-write_text g c =
    let e : c.args.toks.now.items ≡ c.in-Some.first.now ∷ c.in-Some.rest.now = sym c.as_slice.ensures.value ∙ c.in-Some.ensures.cases.0 in
    not_done _ _ _ _ (failed c.from_residual.result c.from_residual.ensures.0)
    (shown_fails (g.S.Sink.seen c.args.out.now) (g.S.Sink.seen c.write_text.new.out) _ _ _ c.as_bytes.result.now e (c.as_bytes.ensures.value ∙ c.as_str.ensures) c.in_err-write_text.ensures)

pub returns-in_err-show_all_spaced : goal.returns-in_err-show_all_spaced
returns-in_err-show_all_spaced g c =
    let e : c.args.toks.now.items ≡ c.in-Some.first.now ∷ c.in-Some.rest.now = sym c.as_slice.ensures.value ∙ c.in-Some.ensures.cases.0 in
    not_done _ _ _ _ (failed c.from_residual-in_err-show_all_spaced.result c.from_residual-in_err-show_all_spaced.ensures.0)
    (shown_then (g.S.Sink.seen c.args.out.now) (g.S.Sink.seen c.write_text.new.out) (g.S.Sink.seen c.show_all_spaced.new.out) _ _ _ c.as_bytes.result.now false e (c.as_bytes.ensures.value ∙ c.as_str.ensures)
    c.in_ok-write_text.ensures c.in_err-show_all_spaced.ensures)
