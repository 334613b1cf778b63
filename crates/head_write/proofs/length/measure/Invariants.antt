use Rattle.std.proofs.Common.{◌≡◌, ◌+◌, ◌-◌, ◌^◌, ◌<◌, length, min}
use Rattle.std.specs.List.{flat_map}
use Rattle.head_write.specs.Header.{entry_text, header_text}
use Rattle.head_write.proofs.length.measure.Given as goal

abbrev pub invariant-loop-entry : goal.invariant-loop-entry
invariant-loop-entry l =
    (l.len < 2 ^ 64) × (min (l.len + length (flat_map entry_text l.entries)) (2 ^ 64 - 1) ≡ min (length (header_text l.bound)) (2 ^ 64 - 1))

abbrev pub decreases-loop-entry : goal.decreases-loop-entry
decreases-loop-entry l = length l.entries
