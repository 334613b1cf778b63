use Rattle.std.proofs.Common.{◌∙◌, ap, length}
use Rattle.c_macro.proofs.RowLaws.{spanning_goes}
use Rattle.c_macro.proofs.row.spans_of.Goals as goal

pub loop-tok-preserved : goal.loop-tok-preserved
loop-tok-preserved c =
    spanning_goes c.args.toks.now c.loop-tok.left.now c.in-Some.rest.now c.in-Some.tok.now c.loop-tok.spans.items c.push.new.self.items c.loop-tok.closers.items c.span_of.new.closers.items _
    c.loop-tok.invariant c.in-Some.ensures.cases.0 c.in_ok-push.ensures.items (λ ps l h. c.in_ok-span.ensures c.in-Some.tok.now ps c.mark_of.ensures (ap length c.as_slice-count.ensures.value ∙ l) h)
