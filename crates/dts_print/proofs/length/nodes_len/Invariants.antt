use Rattle.std.proofs.Common.{◌≡◌, ◌+◌, ◌-◌, ◌^◌, ◌<◌, ◌≤◌, drop, length, min}
use Rattle.dts_print.specs.Inner.Steps.{text_from}
use Rattle.dts_print.proofs.length.nodes_len.Given as goal

abbrev pub invariant-loop-place : goal.invariant-loop-place
invariant-loop-place l =
    (l.opened ≤ l.place) × (l.len < 2 ^ 64)
    × (min (l.len + length (text_from l.nodes l.place l.opened (drop l.place l.nodes))) (2 ^ 64 - 1) ≡ min (length (text_from l.nodes 0 0 l.nodes)) (2 ^ 64 - 1))
