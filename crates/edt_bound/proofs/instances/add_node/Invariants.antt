use Rattle.std.proofs.Common.{take}
use Rattle.edt_bound.specs.Gathering.{AreAdded}
use Rattle.edt_bound.proofs.instances.add_node.Given as goal

abbrev pub invariant-loop-compat : goal.invariant-loop-compat
invariant-loop-compat l = AreAdded (take l.compat-index l.compats) l.id l.fn.listing.entries l.listing.entries
