use Rattle.std.proofs.Common.{◌≡◌, ◌∙◌, ap, sym, is_some, map, List}
use Rattle.c_macro.specs.declared.pend.Given.{Given}
use Rattle.c_macro.specs.Bodies.{joined, items}
use Rattle.c_macro.specs.Pending.{part_data, args_data}
use Rattle.c_macro.proofs.TurnLaws.{above_refused, unjoined_refused}
use Rattle.c_macro.proofs.turn.refuse_call.Goals as goal

pub returns-then-branch : goal.returns-then-branch
returns-then-branch c = λ d. above_refused d c.args.machine.now _ c.args.call.now c.args.least c.requires.call c.requires.done c.requires.least c.requires.above
    (sym c.if-branch.true ∙ (c.in_ok-are_joined.ensures ∙ ap (λ (gs : List Given). is_some (joined (items (map part_data c.args.call.now.parts.now) (args_data c.args.machine.now.sets gs)))) c.as_slice.ensures.value))

pub returns : goal.returns
returns c = λ d. unjoined_refused d c.args.machine.now _ c.args.call.now c.requires.call c.requires.done
    (sym c.if-branch.false ∙ (c.in_ok-are_joined.ensures ∙ ap (λ (gs : List Given). is_some (joined (items (map part_data c.args.call.now.parts.now) (args_data c.args.machine.now.sets gs)))) c.as_slice.ensures.value))
