-- A turn of the walk.
use Rattle.std.proofs.Common.{◌≡◌, ◌++◌, ◌∷◌, [], reverse, rules}
use Rattle.dts_tree.specs.Inner.Grown.{below_in}
use Rattle.dts_tree.proofs.Walking.{walk_turn, walk_less}
use Rattle.dts_tree.proofs.order.order_of.Goals as goal

pub loop-slot-preserved : goal.loop-slot-preserved
loop-slot-preserved c =
    let whole : c.loop-slot.waiting.items ≡ c.pop.new.self.items ++ c.in-Some.slot ∷ [] = search rules in
    let put : c.push-in-Some.new.self.items ≡ c.loop-slot.out.items ++ c.in-Some.slot ∷ [] = search rules in
    let rest : c.append.new.self.items ≡ c.pop.new.self.items ++ reverse (below_in c.args.lists.now c.in-Some.slot) = search rules in
    walk_turn c.args.lists.now c.requires.rising c.loop-slot.out.items c.push-in-Some.new.self.items c.loop-slot.waiting.items c.pop.new.self.items c.append.new.self.items c.in-Some.slot
    whole put rest c.loop-slot.invariant.0 c.loop-slot.invariant.1

pub loop-slot-smaller : goal.loop-slot-smaller
loop-slot-smaller c =
    let whole : c.loop-slot.waiting.items ≡ c.pop.new.self.items ++ c.in-Some.slot ∷ [] = search rules in
    let rest : c.append.new.self.items ≡ c.pop.new.self.items ++ reverse (below_in c.args.lists.now c.in-Some.slot) = search rules in
    walk_less c.args.lists.now c.requires.rising c.loop-slot.waiting.items c.pop.new.self.items c.append.new.self.items c.in-Some.slot whole rest c.loop-slot.invariant.1
