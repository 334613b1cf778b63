use Rattle.std.proofs.Common.{◌+◌, length}
use Rattle.bind_merge.specs.Listing.{read_files}
use Rattle.bind_merge.specs.Inner.Spreading.{HasSpread, unread}
use Rattle.bind_merge.proofs.reached.read_reached.Given as goal

abbrev pub invariant-loop-file : goal.invariant-loop-file
invariant-loop-file l = HasSpread (read_files l.files) l.names l.fn.reads.items l.reads.items l.left.items

abbrev pub decreases-loop-file : goal.decreases-loop-file
decreases-loop-file l = unread l.reads.items + length l.left.items
