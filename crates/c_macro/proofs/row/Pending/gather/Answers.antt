use Rattle.std.proofs.Common.{◌∙◌, sym, ap, Some}
use Rattle.c_macro.specs.Rows.{depth_at}
use Rattle.c_macro.proofs.RowLaws.{gathering_goes}
use Rattle.c_macro.proofs.row.Pending.gather.Goals as goal

pub loop-toks-preserved : goal.loop-toks-preserved
loop-toks-preserved c =
    gathering_goes c.args.self.now c.loop-toks.self c.pop.new.self c.loop-toks.toks.items c.push.new.self.items c.loop-toks.deep c.in-Some-depth_behind.deeper c.in-Some.next
    c.loop-toks.invariant (rw c.in-Some.is at c.in_ok-next.ensures) c.in_ok-push.ensures.items (sym c.in-Some-depth_behind.is ∙ (c.depth_behind.ensures ∙ ap (λ m. depth_at m c.loop-toks.deep (λ k. Some k)) c.mark_of.ensures))
