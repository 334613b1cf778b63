use Rattle.std.proofs.Common.{◌≡◌, ◌++◌, drop, option_map}
use Rattle.edt_base.specs.Values.{name_parts}
use Rattle.reg_ranges.specs.Registers.{with_names}
use Rattle.reg_ranges.proofs.registers.with_names.Given as goal

abbrev pub invariant-loop-at : goal.invariant-loop-at
invariant-loop-at l = l.regs.items ++ with_names l.at (drop l.at l.cuts) (name_parts (option_map (λ n. n.now) l.names)) ≡ with_names 0 l.cuts (name_parts (option_map (λ n. n.now) l.names))
