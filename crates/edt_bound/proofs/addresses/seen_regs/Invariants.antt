use Rattle.std.proofs.Common.{◌≡◌}
use Rattle.edt_bound.specs.Addresses.{seen_regs}
use Rattle.edt_bound.proofs.addresses.seen_regs.Given as goal

abbrev pub invariant-loop-reg : goal.invariant-loop-reg
invariant-loop-reg l = l.seen.items ≡ seen_regs l.t.nodes l.id l.yielded
