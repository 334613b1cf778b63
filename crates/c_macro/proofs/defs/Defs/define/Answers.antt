use Rattle.std.proofs.Common.{◌≡◌, Some, sym, ◌∙◌}
use Rattle.c_macro.specs.Table.{defs_of}
use Rattle.c_macro.proofs.TableLaws.{follows_same, redefined_same, redefined_other}
use Rattle.c_macro.proofs.defs.Defs.define.Goals as goal

pub returns-then-same_macro-clause-ok : goal.returns-then-same_macro-clause-ok
returns-then-same_macro-clause-ok c =
    let is : defs_of c.args.self.now c.args.name.now ≡ Some c.in-Some.old.now = sym c.in-Some.ensures in
    (redefined_same _ c.in-Some.old.now _ is (sym c.same_macro.ensures ∙ c.if-same_macro.true), follows_same _ _ _ _ is)

pub returns-clause-err : goal.returns-clause-err
returns-clause-err c =
    let is : defs_of c.args.self.now c.args.name.now ≡ Some c.in-Some.old.now = sym c.in-Some.ensures in
    redefined_other _ c.in-Some.old.now _ is (sym c.same_macro.ensures ∙ c.if-same_macro.false)
