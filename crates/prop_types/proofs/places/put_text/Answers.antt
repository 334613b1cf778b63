use Rattle.std.proofs.Common.{Some}
use Rattle.std.proofs.lemmas.Map.Text.{btree_map_updates_str}
use Rattle.prop_types.proofs.places.put_text.Goals as goal

pub returns-in_ok-insert-in-Some : goal.returns-in_ok-insert-in-Some
returns-in_ok-insert-in-Some c = λ t. rw c.in-Some.is (rw c.as_str.ensures at
    (btree_map_updates_str c.as_str.result.now c.args.places.now c.insert.new.self (Some c.args.at) c.in_ok-insert-in-Some.ensures.updates t))
