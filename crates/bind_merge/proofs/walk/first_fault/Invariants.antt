use Rattle.bind_merge.specs.Listing.{read_files}
use Rattle.bind_merge.specs.Inner.Ways.{HasCome}
use Rattle.bind_merge.proofs.walk.first_fault.Given as goal

abbrev pub invariant-loop-depth : goal.invariant-loop-depth
invariant-loop-depth l = HasCome (read_files l.files) l.reads l.fn.binding l.depth l.file l.path.items
