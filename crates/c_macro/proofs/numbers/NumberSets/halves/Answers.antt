use Rattle.std.proofs.Common.{◌≡◌, ◌<◌, arith}
use Rattle.c_macro.specs.NumberData.{numbers_of, halved}
use Rattle.c_macro.proofs.NumberLaws.{halves_none, halves_zero, node_is}
use Rattle.c_macro.proofs.numbers.NumberSets.halves.Goals as goal

pub returns-in-0-clause-is : goal.returns-in-0-clause-is
returns-in-0-clause-is c = rw c.in-0.is (halves_none c.args.self.now)

pub returns-in-1-clause-is : goal.returns-in-1-clause-is
returns-in-1-clause-is c = rw c.in-1.is (halves_zero c.args.self.now)

pub returns-in_default : goal.returns-in_default
returns-in_default c =
    let r = node_is c.self.inside.nodes.items c.args.set c.index-node.result.now c.self.invariant (omega arith) (rw c.self.view_is c.requires) c.index-node.ensures in
    rw (← c.self.view_is) (record { is = r.0; evens = omega (arith, r.1); odds = omega (arith, r.2); earlier = λ h. (r.1, r.2) })
