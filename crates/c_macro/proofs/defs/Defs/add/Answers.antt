use Rattle.std.proofs.Common.{◌≡◌, ◌+◌, sym, subst, None, Some}
use Rattle.c_macro.specs.declared.defs.Entry.{Entry}
use Rattle.c_macro.specs.MacroData.{Macro}
use Rattle.c_macro.specs.Table.{Table, defs_of}
use Rattle.c_macro.proofs.SetLaws.{tree_sets}
use Rattle.c_macro.proofs.TableLaws.{follows_define, table_more, Sets}
use Rattle.c_macro.proofs.defs.Defs.add.Goals as goal

pub invariant_of-self-2 : goal.invariant_of-self-2
invariant_of-self-2 c =
    let m : Macro = c.args.def in
    let x : Entry = record { ready = m; at = c.self.inside.count } in
    let sets : Sets c.self.inside.map.entries c.insert.new.self.entries c.args.name.now (Some x) =
    tree_sets c.self.inside.map.entries c.insert.new.self.entries c.args.name.now (Some x) (rw (c.in_ok-name.ensures, c.in_ok-ready.ensures) at c.in_ok-insert.ensures.updates.0) in
    table_more c.self.inside.map.entries c.insert.new.self.entries c.self.inside.locked c.self.inside.count c.args.name.now m c.self.invariant sets

pub returns-clause-ok : goal.returns-clause-ok
returns-clause-ok c =
    let m : Macro = c.args.def in
    let x : Entry = record { ready = m; at = c.self.inside.count } in
    let sets : Sets c.self.inside.map.entries c.insert.new.self.entries c.args.name.now (Some x) =
    tree_sets c.self.inside.map.entries c.insert.new.self.entries c.args.name.now (Some x) (rw (c.in_ok-name.ensures, c.in_ok-ready.ensures) at c.in_ok-insert.ensures.updates.0) in
    rw (← c.self.view_is) (follows_define c.self.inside.map.entries c.insert.new.self.entries c.self.inside.locked c.self.inside.count c.args.name.now m c.self.invariant (subst (λ (t : Table). defs_of t c.args.name.now ≡ None) (sym c.self.view_is) c.requires) sets)
