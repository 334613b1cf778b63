use Rattle.std.proofs.Common.{sym}
use Rattle.bind_merge.specs.Listing.{read_files}
use Rattle.bind_merge.proofs.ReadingOn.{all_next}
use Rattle.bind_merge.proofs.Spreading.{spreads_on}
use Rattle.bind_merge.proofs.reached.read_all.Goals as goal

pub loop-file-preserved : goal.loop-file-preserved
loop-file-preserved c = (
  spreads_on (read_files c.args.files.now) c.args.reads.now.items c.loop-file.reads.items c.read_one.new.reads.items c.args.left.now.items c.loop-file.left.items
      c.read_one.new.left.items c.loop-file.invariant.0 c.in_ok-read_one.ensures.spreads,
  all_next (read_files c.args.files.now) c.loop-file.reads.items c.read_one.new.reads.items c.loop-file.left.items c.read_one.new.left.items c.args.included.now
      c.loop-file.file-index c.file-item.result c.loop-file-test.true (sym c.file-item.is) c.in_ok-read_one.ensures.spreads c.loop-file.invariant.1
      c.in_ok-read_one.ensures.read,
)
