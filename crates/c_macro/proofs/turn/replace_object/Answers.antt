use Rattle.std.proofs.Common.{◌≡◌, ◌∙◌, ap, [], None, map, List}
use Rattle.c_macro.specs.Bodies.{joined, items, parts_of, Part}
use Rattle.c_macro.specs.SetData.{bars_of}
use Rattle.c_macro.specs.Pending.{part_data}
use Rattle.c_macro.proofs.SetLaws.{bars_grow}
use Rattle.c_macro.proofs.TurnLaws.{object_turned, machine_grows, placed_text}
use Rattle.c_macro.proofs.turn.replace_object.Goals as goal

pub put_in_place-requires-clause-known : goal.put_in_place-requires-clause-known
put_in_place-requires-clause-known c = machine_grows c.args.machine.now c.text.new.sets c.requires.known c.in_ok-text.ensures.grown

pub returns : goal.returns
returns c = λ d l.
    let ps : map part_data c.parts.result.now ≡ parts_of c.args.def.now None = c.parts.ensures ∙ ap (parts_of c.args.def.now) c.requires.object in
    object_turned d c.args.machine.now c.put_in_place.new.machine c.text.new.sets c.in_ok-turn.turn c.args.tok c.args.def.now _ c.requires.known c.requires.tok c.in_ok-text.ensures.grown
    (placed_text c.args.machine.now.sets c.text.new.sets (λ v. v.items) c.args.tok c.args.tok.set (bars_of c.args.machine.now.sets c.args.tok.set) c.in_ok-text.text _ (c.in_ok-text.ensures.is ∙ ap (λ (x : List Part). joined (items x [])) ps)
    (bars_grow c.args.machine.now.sets c.text.new.sets c.args.tok.set c.in_ok-text.ensures.grown c.requires.tok))
    l (c.in_ok-turn.ensures d)
