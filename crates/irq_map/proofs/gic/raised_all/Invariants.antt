use Rattle.std.proofs.Common.{◌≡◌, map}
use Rattle.irq_map.specs.Gic.{raised}
use Rattle.irq_map.proofs.gic.raised_all.Given as goal

abbrev pub invariant-loop-name : goal.invariant-loop-name
invariant-loop-name l = l.all.items ≡ map (raised l.rise) l.yielded
