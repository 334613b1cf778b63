use Rattle.std.proofs.Common.{Some, length}
use Rattle.std.proofs.lemmas.Map.Text.{btree_map_updates_str}
use Rattle.c_macro.proofs.PartLaws.{places_go}
use Rattle.c_macro.proofs.places.places_of.Goals as goal

pub loop-name-preserved : goal.loop-name-preserved
loop-name-preserved c = λ q.
    places_go q c.in-Some.name.now c.args.names.now c.loop-name.left.now c.in-Some.rest.now _ _ (c.loop-name.invariant q) c.in-Some.ensures.cases.0
    (rw c.as_str.ensures at (btree_map_updates_str c.as_str.result.now c.loop-name.places c.insert.new.self (Some (length c.in-Some.rest.now)) c.in_ok-insert.ensures.updates q))
