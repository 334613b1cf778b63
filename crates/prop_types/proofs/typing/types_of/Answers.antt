use Rattle.std.proofs.Common.{◌≡◌, ◌+◌, ◌∷◌, Some, drop, map, refl}
use Rattle.std.proofs.lemmas.Map.Text.{btree_map_updates_str}
use Rattle.prop_types.specs.Inner.Seen.{seen}
use Rattle.prop_types.proofs.TypingLaws.{dropped, name_added}
use Rattle.prop_types.proofs.typing.types_of.Goals as goal

pub loop-property-preserved : goal.loop-property-preserved
loop-property-preserved c = λ t.
    let property = c.property-item.result in
    let all = c.args.declared.now in
    let at = c.loop-property.property-index in
    let next : drop at all ≡ property ∷ drop (at + 1) all = dropped all at property c.loop-property-test.true c.property-item.is in
    name_added t property.name.now _ _ property.ty (seen property) (map seen (drop (at + 1) all)) _
    (btree_map_updates_str property.name.now c.loop-property.types c.insert.new.self (Some property.ty) c.in_ok-insert.ensures.updates t)
    refl (rw next at (c.loop-property.invariant t))
