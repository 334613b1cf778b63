use Rattle.std.proofs.Common.{true, false, sym, ◌∙◌, refl, Some}
use Rattle.c_macro.proofs.JoinLaws.{glue_fed, side_fed}
use Rattle.c_macro.proofs.joiner.Joiner.feed_next.Goals as goal

pub returns-then-is_glue : goal.returns-then-is_glue
returns-then-is_glue c = record {
  fed = λ s out left i. glue_fed s c.args.self.now (record { out = c.args.self.now.out; left = Some c.args.left; glued = true }) c.args.left c.args.item (sym c.is_glue.ensures ∙ c.if-is_glue.true) refl refl refl out left;
}

pub returns : goal.returns
returns c = record {
  fed = λ s out left i. side_fed s c.args.self.now (record { out = c.push_side.new.out; left = Some c.args.item; glued = false }) c.args.left c.args.item (sym c.is_glue.ensures ∙ c.if-is_glue.false)
      (c.in_ok-push_side.ensures.is s) refl refl (c.in_ok-push_side.ensures.known s out left) i;
}
