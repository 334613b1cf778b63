use Rattle.std.proofs.Common.{◌≡◌, drop}
use Rattle.dts_tree.specs.Inner.Grown.{grown_from, grown_of}
use Rattle.dts_tree.proofs.grown.Grown.new.Given as goal

abbrev pub invariant-loop-event : goal.invariant-loop-event
invariant-loop-event l = grown_from l.reader.arena.gone l.grown (drop l.event-index l.reader.events) ≡ grown_of l.reader
