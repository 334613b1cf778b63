use Rattle.std.proofs.Common.{◌≡◌, ◌+◌, ◌≤◌, arith, Some, [], Bool, ℕ, Option, refl, sym, ◌∙◌, ap, subst, true, false, map, List, reverse, length}
use Rattle.c_macro.specs.MacroData.{Macro}
use Rattle.c_macro.specs.declared.pend.Pend.{Pend}
use Rattle.c_macro.specs.Bodies.{Part, parts_of, tasks}
use Rattle.c_macro.specs.Needing.{args_count, count_of}
use Rattle.c_macro.specs.Calls.{commas_of, closed, fitted}
use Rattle.c_macro.specs.Pending.{part_data, marks, KnownAll}
use Rattle.c_macro.specs.Collecting.{taken_data, rows_data, rows_size}
use Rattle.c_macro.proofs.TurnLaws.{unclosed_turned, misfit_turned, called_turned}
use Rattle.c_macro.proofs.turn.open_call.Goals as goal

pub returns-in_default : goal.returns-in_default
returns-in_default c = λ d b h e.
    let s = c.args.machine.now.sets in
    let n : c.commas_of.result ≡ commas_of c.args.names.now c.args.def.now.variadic = c.commas_of.ensures ∙ ap (commas_of c.args.names.now) c.is_variadic-variadic.ensures in
    let f = rw c.in_default.is at c.in_ok-taken.ensures.is in
    unclosed_turned d c.args.machine.now _ c.args.tok b c.args.def.now c.args.names.now e c.requires.names h (f s ∙ ap (λ (x : Option ℕ). closed x 0 (marks s (reverse c.args.machine.now.pend))) n)

pub returns-in_default-2 : goal.returns-in_default-2
returns-in_default-2 c = λ d b h e.
    let s = c.args.machine.now.sets in
    let v : c.is_variadic-variadic.result ≡ c.args.def.now.variadic = c.is_variadic-variadic.ensures in
    let n : c.commas_of.result ≡ commas_of c.args.names.now c.args.def.now.variadic = c.commas_of.ensures ∙ ap (commas_of c.args.names.now) v in
    let f = rw c.in-Some.is at c.in_ok-taken.ensures.is in
    let g = rw c.in_default-2.is at c.in_ok-args.ensures.is in
    misfit_turned d c.args.machine.now _ c.args.tok b c.args.def.now c.args.names.now (taken_data s c.in-Some.taken c.take_call.new.pend) e c.requires.names h
    (f s ∙ ap (λ (x : Option ℕ). closed x 0 (marks s (reverse c.args.machine.now.pend))) n) (g s ∙ ap (λ (x : Bool). fitted c.args.names.now x (rows_data s c.in-Some.taken.args.items)) v)

pub returns : goal.returns
returns c = λ d b h e.
    let s = c.args.machine.now.sets in
    let v : c.is_variadic-variadic.result ≡ c.args.def.now.variadic = c.is_variadic-variadic.ensures in
    let n : c.commas_of.result ≡ commas_of c.args.names.now c.args.def.now.variadic = c.commas_of.ensures ∙ ap (commas_of c.args.names.now) v in
    let f = rw c.in-Some.is at c.in_ok-taken.ensures.is in
    let g = rw c.in-Some-2.is at c.in_ok-args.ensures.is in
    let m : Macro = c.args.def.now in
    let fits : length c.in-Some-2.args.items ≤ args_count m =
    let e = rw c.in-Some-2.is at c.in_ok-args.ensures.count in
    let a : count_of (Some c.args.names.now) c.is_variadic-variadic.result ≡ args_count m = ap (count_of (Some c.args.names.now)) v ∙ ap (λ (o : Option (List (List ℕ))). count_of o m.variadic) (sym c.requires.names) in
    omega (arith, e ∙ a) in
    let ps = c.parts.ensures ∙ ap (parts_of m) c.requires.names in
    let ts = c.in_ok-todo.ensures.is s (parts_of m m.params) (args_count m) c.needs.ensures fits ∙ ap (λ (x : List Part). tasks x 0 (rows_data s c.in-Some-2.args.items)) (sym c.parts.ensures) in
    let known = rw c.in-Some.is at c.in_ok-taken.ensures.known in
    let kt = known s c.requires.known.pend in
    let rows = rw c.in-Some-2.is at c.in_ok-args.ensures.known in
    let rest : c.replace-rest.result ≡ c.take_call.new.pend = c.replace-rest.ensures.value in
    let size : rows_size c.in-Some.taken.args.items + length c.take_call.new.pend ≡ length c.args.machine.now.pend = rw c.in-Some.is at c.in_ok-taken.ensures.size in
    called_turned d c.args.machine.now _ c.args.tok b _ c.args.names.now (taken_data s c.in-Some.taken c.take_call.new.pend) c.in-Some.taken.args.items c.in-Some-2.args.items []
    c.requires.known c.requires.tok e c.requires.names h (f s ∙ ap (λ (x : Option ℕ). closed x 0 (marks s (reverse c.args.machine.now.pend))) n) refl (ap (λ (x : List Pend). marks s (reverse x)) (sym rest))
    (g s ∙ ap (λ (x : Bool). fitted c.args.names.now x (rows_data s c.in-Some.taken.args.items)) v) ps ts kt.last (subst (KnownAll s) (sym rest) kt.behind) (c.in_ok-todo.ensures.known s (rows s kt.args))
    refl (ap (λ v. v.items) c.replace-out.ensures.value) c.none-2.ensures c.new-2.ensures.items refl refl refl (rw c.replace-rest.ensures.after c.none.ensures) (rw c.replace-out.ensures.after c.new.ensures.items)
    (subst (λ (x : List Pend). rows_size c.in-Some.taken.args.items + length x ≡ length c.args.machine.now.pend) (sym rest) size) (rw c.in-Some-2.is at c.in_ok-args.ensures.size) c.in_ok-todo.ensures.weight
