use Rattle.std.proofs.Common.{◌≡◌, ◌+◌, ◌-◌, ◌^◌, ◌<◌, length, min}
use Rattle.std.specs.List.{flat_map}
use Rattle.dts_print.specs.Printed.{prop_text}
use Rattle.dts_print.proofs.length.props_len.Given as goal

abbrev pub invariant-loop-name : goal.invariant-loop-name
invariant-loop-name l =
    (goal.iterator-loop-name).can_next l.name-iterator × (goal.iterator-loop-name).is_finite l.name-iterator × (l.len < 2 ^ 64)
    × (min (l.len + length (flat_map (prop_text l.depth) l.name-iterator)) (2 ^ 64 - 1) ≡ min (length (flat_map (prop_text l.depth) l.props.entries)) (2 ^ 64 - 1))
