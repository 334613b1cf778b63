use Rattle.std.proofs.Common.{◌≡◌, ◌++◌, map, drop}
use Rattle.edt_base.specs.Ords.{ord_at}
use Rattle.edt_base.proofs.ords.ords_rising.Given as goal

abbrev pub invariant-loop-id : goal.invariant-loop-id
invariant-loop-id l = l.ords.items ++ map (ord_at l.nodes) (drop l.id-index l.ids) ≡ map (ord_at l.nodes) l.ids
