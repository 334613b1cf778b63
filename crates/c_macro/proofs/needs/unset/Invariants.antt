use Rattle.std.proofs.Common.{◌≡◌, ℕ, length, slice_index_or, false}
use Rattle.c_macro.proofs.needs.unset.Given as goal

abbrev pub invariant-loop : goal.invariant-loop
invariant-loop l = (length l.flags.items ≡ l.counter) × ((i : ℕ) → slice_index_or l.flags.items i false ≡ false)
