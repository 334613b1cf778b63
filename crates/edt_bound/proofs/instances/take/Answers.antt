use Rattle.std.proofs.Common.{◌∙◌}
use Rattle.bind_merge.proofs.Indexed.{tree_others}
use Rattle.edt_bound.proofs.InstanceSteps.{held_is, held_none, same_key}
use Rattle.edt_bound.proofs.instances.take.Goals as goal

pub returns-in-Some-clause-string : goal.returns-in-Some-clause-string
returns-in-Some-clause-string c = same_key c.args.compat.now c.in-Some.entry.0 c.in-Some.ensures.same_key

pub returns-in-Some-clause-nodes : goal.returns-in-Some-clause-nodes
returns-in-Some-clause-nodes c = held_is c.args.listing.now.entries c.args.compat.now c.in-Some.entry.1 c.in-Some.ensures.value

pub returns-in-Some-clause-others : goal.returns-in-Some-clause-others
returns-in-Some-clause-others c = tree_others c.args.listing.now.entries c.remove_entry.new.self.entries c.args.compat.now c.in-Some.ensures.updates.0

pub returns-in_ok-copy-in-None-clause-nodes : goal.returns-in_ok-copy-in-None-clause-nodes
returns-in_ok-copy-in-None-clause-nodes c = c.new.ensures ∙ held_none c.args.listing.now.entries c.args.compat.now c.in-None.ensures.value
