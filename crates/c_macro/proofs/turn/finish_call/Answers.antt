use Rattle.std.proofs.Common.{◌≡◌, ◌∙◌, ap, map, List, Some}
use Rattle.c_macro.specs.declared.pend.Given.{Given}
use Rattle.c_macro.specs.Bodies.{joined, items, Part, Arg, parts_of}
use Rattle.c_macro.specs.Marked.{common_bars}
use Rattle.c_macro.specs.SetData.{bars_of, Grown}
use Rattle.c_macro.specs.Pending.{part_data, args_data}
use Rattle.c_macro.specs.Worklist.{names_of}
use Rattle.c_macro.proofs.SetLaws.{bars_grow, grown_trans}
use Rattle.c_macro.proofs.PendLaws.{args_known_grow, args_grow}
use Rattle.c_macro.proofs.TurnLaws.{call_turned, behind_known, placed_text}
use Rattle.c_macro.proofs.turn.finish_call.Goals as goal

pub text-requires : goal.text-requires
text-requires c = record {
  args = rw c.as_slice-args.ensures.value (args_known_grow c.args.machine.now.sets c.common.new.self c.args.call.done.items c.in_ok-set.ensures.grown c.requires.call.done);
}

pub put_in_place-requires-clause-known : goal.put_in_place-requires-clause-known
put_in_place-requires-clause-known c =
    behind_known c.args.machine.now c.args.call c.text.new.sets c.requires.known c.requires.call (grown_trans c.args.machine.now.sets c.common.new.self c.text.new.sets c.in_ok-set.ensures.grown c.in_ok-text.ensures.grown)

pub returns : goal.returns
returns c = λ d.
    let g1 : Grown c.args.machine.now.sets c.common.new.self = c.in_ok-set.ensures.grown in
    let g2 : Grown c.common.new.self c.text.new.sets = c.in_ok-text.ensures.grown in
    let ps : map part_data c.args.call.parts.now ≡ parts_of c.args.call.def.now (Some (names_of c.args.call.def.now.params)) = c.requires.call.parts in
    let done : args_data c.common.new.self c.as_slice-args.result.now ≡ args_data c.args.machine.now.sets c.args.call.done.items =
    ap (args_data c.common.new.self) c.as_slice-args.ensures.value ∙ args_grow c.args.machine.now.sets c.common.new.self c.args.call.done.items g1 c.requires.call.done in
    let bars : bars_of c.text.new.sets c.in_ok-set.set ≡ common_bars (bars_of c.args.machine.now.sets c.args.call.name.set) (bars_of c.args.machine.now.sets c.args.call.last.set) =
    bars_grow c.common.new.self c.text.new.sets c.in_ok-set.set g2 c.in_ok-set.ensures.set.0 ∙ c.in_ok-set.ensures.set.1 in
    call_turned d c.args.machine.now c.put_in_place.new.machine c.text.new.sets c.in_ok-turn-2.turn c.args.call _ c.requires.known c.requires.call (grown_trans c.args.machine.now.sets c.common.new.self c.text.new.sets g1 g2) c.requires.done
    (placed_text c.args.machine.now.sets c.text.new.sets (λ v. v.items) c.args.call.name c.in_ok-set.set _ c.in_ok-text.text _
    (c.in_ok-text.ensures.is ∙ (ap (λ (x : List Part). joined (items x (args_data c.common.new.self c.as_slice-args.result.now))) ps ∙ ap (λ (x : List Arg). joined (items (parts_of c.args.call.def.now (Some (names_of c.args.call.def.now.params))) x)) done)) bars)
    (c.in_ok-turn-2.ensures d)

pub refuse_call-requires-clause-least : goal.refuse_call-requires-clause-least
refuse_call-requires-clause-least c = λ ts j.
    c.least_count-least.ensures c.args.machine.now.sets ts (ap (λ (gs : List Given). joined (items (map part_data c.args.call.parts.now) (args_data c.args.machine.now.sets gs))) c.as_slice-args.ensures.value ∙ j)
