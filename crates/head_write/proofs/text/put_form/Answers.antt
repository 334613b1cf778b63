use Rattle.std.proofs.Common.{◌≡◌, ◌++◌, ◌∙◌, ℕ, List, take, drop, ap, sym}
use Rattle.std.proofs.lemmas.List.{take-append-drop}
use Rattle.std.proofs.lemmas.List.Concat.{flat_map-append}
use Rattle.edt_base.specs.Forms.{form_char, form_of}
use Rattle.head_write.proofs.Runs.{part_more, part_fails}
use Rattle.edt_base.proofs.Puts.{not_done, failed}
use Rattle.head_write.proofs.text.put_form.Goals as goal

-- a text's form is that of its front and that of the rest
form_cut : (n : ℕ) (text front rest part : List ℕ) → front ≡ take n text → rest ≡ drop n text → part ≡ form_of front → form_of text ≡ part ++ form_of rest
unfolding form_of
form_cut n text front rest part begins ends is =
    rw (is, begins, ends) (ap form_of (sym (take-append-drop n text)) ∙ flat_map-append form_char (take n text) (drop n text))

pub loop-left-preserved : goal.loop-left-preserved
loop-left-preserved g c =
    part_more (g.S.Sink.seen c.args.out.now) (g.S.Sink.seen c.loop-left.out) (g.S.Sink.seen c.put.new.out) _ _ _ _ c.as_slice.result.now _ _ _
    c.loop-left.invariant.1 (form_cut c.min.result _ _ _ _ c.split_at.ensures.front c.split_at.ensures.back (c.as_slice.ensures.value ∙ c.chunk_form.ensures)) c.loop-left.invariant.2 c.in_ok-put.ensures

pub returns-in_err-put : goal.returns-in_err-put
returns-in_err-put g c =
    not_done _ _ _ _ _ _ (failed c.from_residual.result c.from_residual.ensures.0)
    (part_fails (g.S.Sink.seen c.args.out.now) (g.S.Sink.seen c.loop-left.out) (g.S.Sink.seen c.put.new.out) _ _ _ _ c.as_slice.result.now _ _ _
    c.loop-left.invariant.1 (form_cut c.min.result _ _ _ _ c.split_at.ensures.front c.split_at.ensures.back (c.as_slice.ensures.value ∙ c.chunk_form.ensures)) c.loop-left.invariant.2 c.in_err-put.ensures)
