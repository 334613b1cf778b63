use Rattle.std.proofs.Common.{◌≡◌, ◌≤◌, ◌++◌, List, ℕ, drop, true}
use Rattle.edt_base.specs.Put.{Put}
use Rattle.dts_print.specs.Inner.Steps.{text_from}
use Rattle.dts_print.proofs.source.put_nodes.Given as goal

-- the text so far was put, and that from the place on is the rest
abbrev pub invariant-loop-place : goal.invariant-loop-place
invariant-loop-place g l =
    (l.opened ≤ l.place) × (text : List ℕ) × (text ++ text_from l.nodes l.place l.opened (drop l.place l.nodes) ≡ text_from l.nodes 0 0 l.nodes)
    × Put (g.S.Sink.seen l.initial.out) (g.S.Sink.seen l.out) l.initial.block l.block text true
