use Rattle.std.proofs.Common.{◌≡◌, drop, length}
use Rattle.edt_bound.specs.Relating.{with_supporter}
use Rattle.edt_bound.proofs.relations.add_supporter.Given as goal

abbrev pub invariant-loop-other : goal.invariant-loop-other
invariant-loop-other l = (with_supporter l.supports.items (drop l.other-index l.needs) l.id
    ≡ with_supporter l.fn.supports.items l.needs l.id)
    × (length l.supports.items ≡ length l.fn.supports.items)
