use Rattle.std.proofs.Common.{sym, ◌∙◌, rules, ap, ◌||◌}
use Rattle.c_macro.specs.Bodies.{is_join, plain_part}
use Rattle.c_macro.proofs.PartLaws.{part_join, part_last, part_text, part_plain}
use Rattle.c_macro.proofs.part.next_part.Goals as goal

pub returns-then-joins-clause-part : goal.returns-then-joins-clause-part
returns-then-joins-clause-part c =
    part_join c.args.calls c.args.places.now c.args.right c.args.tok.now c.args.rest.now (sym c.joins.ensures ∙ c.if-joins.true)

pub returns-in_default-clause-part : goal.returns-in_default-clause-part
returns-in_default-clause-part c =
    part_last c.args.calls c.args.places.now c.args.right c.args.tok.now c.args.rest.now _ (search rules) (sym c.joins.ensures ∙ c.if-joins.false)
    (c.plain_part.ensures ∙ ap (plain_part c.args.right c.args.tok.now) c.number.ensures)

pub returns-in-Some-text_of-clause-part : goal.returns-in-Some-text_of-clause-part
returns-in-Some-text_of-clause-part c =
    part_text c.args.calls c.args.places.now c.args.right c.args.tok.now c.in-Some.next.now c.args.rest.now c.in-Some.behind.now c.in-Some-text_of.i
    c.in-Some.ensures.cases.0 (sym c.joins.ensures ∙ c.if-joins.false) c.in-Some-text_of.ensures

pub returns-clause-part : goal.returns-clause-part
returns-clause-part c =
    part_plain c.args.calls c.args.places.now c.args.right c.args.tok.now c.in-Some.next.now c.args.rest.now c.in-Some.behind.now _
    c.in-Some.ensures.cases.0 (sym c.joins.ensures ∙ c.if-joins.false) (rw c.in_default-text_of.is at c.text_of.ensures)
    (c.plain_part-2.ensures ∙ (ap (λ b. plain_part b c.args.tok.now c.number-2.result) c.is_side.ensures ∙ ap (plain_part (c.args.right || is_join c.in-Some.next.now) c.args.tok.now) c.number-2.ensures))
