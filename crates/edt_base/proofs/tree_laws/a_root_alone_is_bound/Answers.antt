use Rattle.edt_base.proofs.RootAlone.{root_bound}
use Rattle.edt_base.proofs.tree_laws.a_root_alone_is_bound.Goals as goal

pub returns : goal.returns
returns c = λ t n b well one none props irqs needs supports bus ord.
    root_bound t n b well one none (record { props = props; irqs = irqs; needs = needs; supports = supports; bus = bus; ord = ord })
