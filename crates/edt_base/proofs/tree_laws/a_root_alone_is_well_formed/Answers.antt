use Rattle.edt_base.proofs.RootAlone.{root_alone}
use Rattle.edt_base.proofs.tree_laws.a_root_alone_is_well_formed.Goals as goal

pub returns : goal.returns
returns c = λ n name path parent children props. root_alone n (record { name = name; parent = parent; path = path; children = children; props = props })
