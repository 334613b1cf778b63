use Rattle.std.proofs.Common.{take}
use Rattle.bind_merge.specs.Listing.{read_files}
use Rattle.bind_merge.specs.Loading.{AreSound}
use Rattle.bind_merge.specs.Inner.Steps.{bindings_at}
use Rattle.bind_merge.proofs.sound.test_all.Given as goal

abbrev pub invariant-loop-binding : goal.invariant-loop-binding
invariant-loop-binding l = AreSound (read_files l.files) (bindings_at l.resolved (take l.binding-index l.bindings))
