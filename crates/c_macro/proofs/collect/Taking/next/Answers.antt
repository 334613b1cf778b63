use Rattle.std.proofs.Common.{◌∙◌, refl, sym}
use Rattle.c_macro.proofs.CollectLaws.{next_part, next_kept, next_item}
use Rattle.c_macro.proofs.collect.Taking.next.Goals as goal

pub returns-in_ok-part-in-Comma : goal.returns-in_ok-part-in-Comma
returns-in_ok-part-in-Comma c = λ row commas k.
    let e = c.in_ok-part-in-Comma.ensures in
    next_part row commas c.args.self.now c.part.new.self k (rw c.in-Comma.is at c.step.ensures) (sym c.more_commas.ensures ∙ c.if-more_commas.true) e.left.0 e.left.1 e.args e.commas

pub returns-else-more_commas : goal.returns-else-more_commas
returns-else-more_commas c = λ row commas k. next_kept row commas c.args.self.now _ k (rw c.in-Comma.is at c.step.ensures) (sym c.more_commas.ensures ∙ c.if-more_commas.false) c.skip.ensures refl refl refl

pub returns-in-Item : goal.returns-in-Item
returns-in-Item c = λ row commas k. next_item row commas c.args.self.now _ c.in-Item.count k (rw c.in-Item.is at c.step.ensures) c.skip-in-Item.ensures refl refl refl
