use Rattle.std.proofs.Common.{sym, subst, ◌∙◌}
use Rattle.dt_names.specs.Inner.Keys.{GoOn}
use Rattle.dt_names.proofs.Going.{head_goes_on}
use Rattle.dt_names.proofs.sections.before_props.Goals as goal

pub returns-clause-going : goal.returns-clause-going
returns-clause-going c = subst GoOn (sym (c.head.ensures ∙ c.titled_head.ensures)) (head_goes_on c.args.bound.now c.args.n c.args.node.now)
