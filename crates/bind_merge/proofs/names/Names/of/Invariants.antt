use Rattle.std.proofs.Common.{take}
use Rattle.bind_merge.specs.Listing.{read_files}
use Rattle.bind_merge.specs.Inner.Resolving.{AreNames}
use Rattle.bind_merge.proofs.names.Names.of.Given as goal

abbrev pub invariant-loop-number : goal.invariant-loop-number
invariant-loop-number l = AreNames (read_files (take l.number l.files)) l.names.entries
