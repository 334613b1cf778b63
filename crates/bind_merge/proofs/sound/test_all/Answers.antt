use Rattle.std.proofs.Common.{sym}
use Rattle.bind_merge.specs.Listing.{read_files}
use Rattle.bind_merge.proofs.Tested.{first_end, sound_more}
use Rattle.bind_merge.proofs.sound.test_all.Goals as goal

pub returns-in-Err-clause-fault : goal.returns-in-Err-clause-fault
returns-in-Err-clause-fault c =
    first_end (read_files c.args.files.now) c.args.resolved.now c.args.bindings.now c.loop-binding.binding-index c.binding-item.result c.loop-binding-test.true (sym c.binding-item.is) c.loop-binding.invariant c.in-Err.end c.in-Err.ensures.fault

pub loop-binding-preserved : goal.loop-binding-preserved
loop-binding-preserved c =
    sound_more (read_files c.args.files.now) c.args.resolved.now c.args.bindings.now c.loop-binding.binding-index c.binding-item.result c.loop-binding-test.true (sym c.binding-item.is) c.loop-binding.invariant c.in-Ok.ensures.sound
