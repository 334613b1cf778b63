use Rattle.std.proofs.Common.{◌≡◌, ◌∙◌, ap, sym, length}
use Rattle.c_macro.specs.Pending.{marks, part_data}
use Rattle.c_macro.specs.Bodies.{part_items}
use Rattle.c_macro.proofs.EndLaws.{side_count, row_count}
use Rattle.c_macro.proofs.TurnLaws.{length_marks}
use Rattle.c_macro.proofs.text.part_count.Goals as goal

pub returns-in-Written : goal.returns-in-Written
returns-in-Written c = λ s. rw c.in-Written.is (sym (length_marks s c.written_of.result.now) ∙ (ap length (c.written_of.ensures.is s) ∙ sym (side_count _ _)))

pub returns-in-Full : goal.returns-in-Full
returns-in-Full c = λ s. rw c.in-Full.is (sym (length_marks s c.full_of.result.now) ∙ (ap length (c.full_of.ensures.is s) ∙ sym (row_count _ _)))
