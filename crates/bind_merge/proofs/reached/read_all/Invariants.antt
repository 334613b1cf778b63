use Rattle.std.proofs.Common.{◌≡◌, true, take}
use Rattle.std.specs.List.{list_all}
use Rattle.bind_merge.specs.Listing.{read_files}
use Rattle.bind_merge.specs.Inner.Reading.{is_read_at}
use Rattle.bind_merge.specs.Inner.Spreading.{Spreads}
use Rattle.bind_merge.proofs.reached.read_all.Given as goal

abbrev pub invariant-loop-file : goal.invariant-loop-file
invariant-loop-file l =
    Spreads (read_files l.files) l.fn.reads.items l.fn.left.items l.reads.items l.left.items
    × (list_all (is_read_at l.reads.items) (take l.file-index l.included) ≡ true)
