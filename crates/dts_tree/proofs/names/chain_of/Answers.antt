-- A slot more, whose name stands before those so far.
use Rattle.std.proofs.Common.{◌≡◌, ◌++◌, ◌∷◌, [], rules}
use Rattle.dts_tree.specs.Inner.Grown.{slot_parent}
use Rattle.dts_tree.proofs.Chains.{chain_turn}
use Rattle.dts_tree.proofs.names.chain_of.Goals as goal

pub loop-at-preserved : goal.loop-at-preserved
loop-at-preserved c =
    let some : c.loop-at.at ≡ 0 → ⊥ = search rules in
    let put : c.push.new.self.items ≡ c.loop-at.chain.items ++ c.loop-at.at ∷ [] = search rules in
    let up : c.slot_parent-at.result ≡ slot_parent c.args.spots.now c.loop-at.at = search rules in
    chain_turn c.args.spots.now c.requires c.loop-at.at c.slot_parent-at.result c.args.slot c.loop-at.chain.items c.push.new.self.items some put up c.loop-at.invariant
