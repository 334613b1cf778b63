use Rattle.std.proofs.Common.{◌∙◌, ap, sym}
use Rattle.c_macro.specs.Marked.{Bars}
use Rattle.c_macro.specs.NumberData.{numbers_of}
use Rattle.c_macro.specs.SetData.{bars_of, has_number}
use Rattle.c_macro.proofs.SetLaws.{empty_is}
use Rattle.c_macro.proofs.sets.Sets.has.Goals as goal

pub returns-then-set-eq0 : goal.returns-then-set-eq0
returns-then-set-eq0 c = sym (ap (λ (b : Bars). b c.args.name.now) (ap (bars_of c.args.self.now) c.if-set-eq0.true ∙ empty_is c.args.self.now))

pub returns-in-None : goal.returns-in-None
returns-in-None c = rw (← c.self.view_is) (ap (has_number (numbers_of c.self.inside.sets c.args.set)) (sym c.in-None.is ∙ c.number_of.ensures))

pub returns-in-Some : goal.returns-in-Some
returns-in-Some c = rw (← c.self.view_is) (c.has.ensures ∙ ap (has_number (numbers_of c.self.inside.sets c.args.set)) (sym c.in-Some.is ∙ c.number_of.ensures))
