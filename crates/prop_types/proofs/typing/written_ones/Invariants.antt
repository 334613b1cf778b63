use Rattle.std.proofs.Common.{◌≡◌, ◌++◌, drop, filter, map}
use Rattle.prop_types.specs.Inner.Seen.{seen}
use Rattle.prop_types.specs.Typing.{is_written}
use Rattle.prop_types.proofs.typing.written_ones.Given as goal

abbrev pub invariant-loop-one : goal.invariant-loop-one
invariant-loop-one l = map seen l.written.items ++ filter (is_written l.t.nodes l.id) (map seen (drop l.one-index l.ones))
    ≡ filter (is_written l.t.nodes l.id) (map seen l.ones)
