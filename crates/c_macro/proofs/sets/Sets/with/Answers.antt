use Rattle.std.proofs.Common.{◌∙◌, ap}
use Rattle.c_macro.specs.Marked.{Bars, with_bar}
use Rattle.c_macro.proofs.SetLaws.{grown_trans, bars_grow}
use Rattle.c_macro.proofs.sets.Sets.with.Goals as goal

pub returns-in_err-made-clause-grown : goal.returns-in_err-made-clause-grown
returns-in_err-made-clause-grown c = grown_trans c.args.self.now c.number.new.self c.with_number.new.self c.in_ok-number.ensures.grown c.in_err-made.ensures.grown

pub returns-clause-grown : goal.returns-clause-grown
returns-clause-grown c = grown_trans c.args.self.now c.number.new.self c.with_number.new.self c.in_ok-number.ensures.grown c.in_ok-made.ensures.grown

pub returns-clause-set : goal.returns-clause-set
returns-clause-set c = (c.in_ok-made.ensures.set.0, c.in_ok-made.ensures.set.1 c.args.name.now c.in_ok-number.ensures.number ∙ ap (λ (h : Bars). with_bar h c.args.name.now) (bars_grow c.args.self.now c.number.new.self c.args.set c.in_ok-number.ensures.grown c.requires))
