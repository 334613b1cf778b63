use Rattle.std.proofs.Common.{◌≡◌, ◌+◌, ◌≤◌, ◌++◌, length, take}
use Rattle.edt_base.proofs.node.fill.Given as goal

abbrev pub invariant-loop-byte : goal.invariant-loop-byte
invariant-loop-byte l = (l.end ≤ 4) × (length l.cell ≡ 4) × (l.end ≡ l.filled + l.byte-index) × (take l.end l.cell ≡ take l.filled l.initial.cell ++ take l.byte-index l.bytes)
