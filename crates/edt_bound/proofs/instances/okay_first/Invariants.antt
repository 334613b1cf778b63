use Rattle.std.proofs.Common.{◌≡◌, ◌++◌, filter, not, take}
use Rattle.edt_base.specs.Nodes.{is_okay, okay_of}
use Rattle.edt_bound.proofs.instances.okay_first.Given as goal

abbrev pub invariant-loop-id : goal.invariant-loop-id
invariant-loop-id l = l.nodes.items ≡ okay_of l.t.nodes (take l.id-index l.ids)

abbrev pub invariant-loop-id-2 : goal.invariant-loop-id-2
invariant-loop-id-2 l = l.nodes.items ≡ okay_of l.t.nodes l.ids ++ filter (λ id. not (is_okay l.t.nodes id)) (take l.id-index l.ids)
