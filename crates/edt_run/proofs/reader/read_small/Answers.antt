use Rattle.edt_run.specs.Nodes.{forest_of}
use Rattle.edt_run.proofs.SmallLaws.{begun, not_begun, found_in, none_in}
use Rattle.edt_run.proofs.reader.read_small.Goals as goal

pub returns-then-not-begins-clause-none : goal.returns-then-not-begins-clause-none
returns-then-not-begins-clause-none c = not_begun _ _ _ _ c.of-tokens.ensures c.begins.ensures c.if-not-begins.true

pub returns-clause-found : goal.returns-clause-found
returns-clause-found c =
    found_in (λ nodes. forest_of nodes.items) _ _ _ c.read_root.ensures (begun _ _ _ _ c.of-tokens.ensures c.begins.ensures c.if-not-begins.false)

pub returns-clause-none : goal.returns-clause-none
returns-clause-none c =
    none_in (λ nodes. forest_of nodes.items) _ _ _ c.read_root.ensures (begun _ _ _ _ c.of-tokens.ensures c.begins.ensures c.if-not-begins.false)
