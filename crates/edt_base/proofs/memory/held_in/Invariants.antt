use Rattle.std.proofs.Common.{◌≡◌, drop}
use Rattle.edt_base.specs.Outside.{held_at}
use Rattle.edt_base.proofs.memory.held_in.Given as goal

abbrev pub invariant-loop-key : goal.invariant-loop-key
invariant-loop-key l = held_at (drop l.key-index l.held) l.name ≡ held_at l.held l.name
