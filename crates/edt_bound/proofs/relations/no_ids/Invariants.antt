use Rattle.std.proofs.Common.{◌≡◌, [], replicate}
use Rattle.edt_bound.proofs.relations.no_ids.Given as goal

abbrev pub invariant-loop : goal.invariant-loop
invariant-loop l = l.all.items ≡ replicate l.counter []
