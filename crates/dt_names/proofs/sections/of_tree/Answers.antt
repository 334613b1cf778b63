use Rattle.std.proofs.Common.{sym, subst, ◌∙◌}
use Rattle.dt_names.specs.Inner.Keys.{GoOn}
use Rattle.dt_names.proofs.Going.{tree_goes_on}
use Rattle.dt_names.proofs.sections.of_tree.Goals as goal

pub returns-clause-going : goal.returns-clause-going
returns-clause-going c = subst GoOn (sym (c.tree.ensures ∙ c.new.ensures)) (tree_goes_on c.args.bound.now)
