use Rattle.std.proofs.Common.{◌≡◌, ◌++◌, List, ℕ, true}
use Rattle.std.specs.List.{flat_map}
use Rattle.edt_base.specs.Put.{Put}
use Rattle.dts_print.specs.Printed.{prop_text}
use Rattle.dts_print.proofs.node.put_props.Given as goal

-- the properties so far were put, and those that are left are the rest
abbrev pub invariant-loop-name : goal.invariant-loop-name
invariant-loop-name g l =
    (goal.iterator-loop-name g).can_next l.name-iterator × (goal.iterator-loop-name g).is_finite l.name-iterator
    × (text : List ℕ) × (text ++ flat_map (prop_text l.depth) l.name-iterator ≡ flat_map (prop_text l.depth) l.props.entries)
    × Put (g.S.Sink.seen l.initial.out) (g.S.Sink.seen l.out) l.initial.block l.block text true
