use Rattle.std.proofs.Common.{◌≡◌, ◌<◌, length}
use Rattle.irq_map.specs.Written.{interrupt_parent}
use Rattle.irq_map.proofs.written.interrupt_parent.Given as goal

abbrev pub invariant-loop-value : goal.invariant-loop-value
invariant-loop-value l = (l.at < length l.t.nodes) × (interrupt_parent l.t.nodes l.at ≡ interrupt_parent l.t.nodes l.fn.id)

abbrev pub decreases-loop-value : goal.decreases-loop-value
decreases-loop-value l = l.at
