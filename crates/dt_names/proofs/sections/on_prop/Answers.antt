use Rattle.std.proofs.Common.{sym, subst, ◌∙◌}
use Rattle.edt_base.specs.Nodes.{path_at}
use Rattle.dt_names.specs.Inner.Keys.{GoOn}
use Rattle.dt_names.proofs.Going.{props_go_on}
use Rattle.dt_names.proofs.sections.on_prop.Goals as goal

pub returns-in-Some-clause-going : goal.returns-in-Some-clause-going
returns-in-Some-clause-going c =
    let nodes = c.args.bound.now.tree.nodes in
    subst GoOn (sym (c.prop-in-Some.ensures ∙ c.in-Some.ensures)) (props_go_on nodes c.args.n (path_at nodes c.args.n) c.args.prop.now)

pub returns-in-None-clause-going : goal.returns-in-None-clause-going
returns-in-None-clause-going c = subst GoOn (sym c.none.ensures.rows) (λ entry. tt)
