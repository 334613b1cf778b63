use Rattle.std.proofs.Common.{◌≡◌, false, sym, subst, ◌∙◌, None}
use Rattle.c_macro.specs.Table.{Table, is_locked}
use Rattle.c_macro.proofs.SetLaws.{tree_sets}
use Rattle.c_macro.proofs.TableLaws.{follows_undefine, table_fewer}
use Rattle.c_macro.proofs.defs.Defs.undefine.Goals as goal

pub invariant_of-self : goal.invariant_of-self
invariant_of-self c = table_fewer c.self.inside.map.entries c.remove.new.self.entries c.self.inside.locked c.self.inside.count c.args.name.now c.self.invariant
    (tree_sets c.self.inside.map.entries c.remove.new.self.entries c.args.name.now None c.remove.ensures.updates.0)

pub returns-clause-ok : goal.returns-clause-ok
returns-clause-ok c =
    let free : is_locked c.args.self.now c.args.name.now ≡ false = sym c.is_locked.ensures ∙ c.if-is_locked.false in (
      free,
      rw (← c.self.view_is) (follows_undefine c.self.inside.map.entries c.remove.new.self.entries c.self.inside.locked c.args.name.now (subst (λ (t : Table). is_locked t c.args.name.now ≡ false) (sym c.self.view_is) free)
          (tree_sets c.self.inside.map.entries c.remove.new.self.entries c.args.name.now None c.remove.ensures.updates.0)),
    )
