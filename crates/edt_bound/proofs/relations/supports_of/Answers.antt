use Rattle.std.proofs.Common.{◌<◌, [], length, subst, sym, arith}
use Rattle.std.specs.List.Sorted.{IsStrictlyIncreasing}
use Rattle.dep_order.specs.Turns.{lists}
use Rattle.dep_order.proofs.Turning.{lists_length}
use Rattle.edt_bound.proofs.SupportSteps.{all_put, ids_within, one_put}
use Rattle.edt_bound.proofs.relations.supports_of.Goals as goal

pub add_supporter-requires : goal.add_supporter-requires
add_supporter-requires c =
    ids_within (lists c.args.needs.now.items) c.loop-place.supports.items c.loop-place.place c.required.result.now c.requires.within c.loop-place.invariant c.required.ensures

pub loop-place-preserved : goal.loop-place-preserved
loop-place-preserved c =
    let there : c.loop-place.place < length (lists c.args.needs.now.items) = omega (arith, lists_length c.args.needs.now.items) in
    one_put (lists c.args.needs.now.items) c.loop-place.supports.items c.add_supporter.new.supports.items c.loop-place.place c.required.result.now
    c.loop-place.invariant c.required.ensures (subst IsStrictlyIncreasing (sym c.required.ensures) (c.requires.rising c.loop-place.place [] there))
    (ids_within (lists c.args.needs.now.items) c.loop-place.supports.items c.loop-place.place c.required.result.now c.requires.within c.loop-place.invariant c.required.ensures)
    c.in_ok-add_supporter.ensures

pub returns : goal.returns
returns c =
    all_put (lists c.args.needs.now.items) c.loop-place.supports.items c.loop-place.place (omega (arith, lists_length c.args.needs.now.items))
    (omega (arith, lists_length c.args.needs.now.items)) c.loop-place.invariant
