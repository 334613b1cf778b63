use Rattle.std.proofs.Common.{map, sym}
use Rattle.std.proofs.lemmas.List.{length-map}
use Rattle.edt_base.specs.YamlData.{value_of}
use Rattle.prop_types.specs.Choices.{is_number}
use Rattle.prop_types.specs.Inner.Places.{number_in}
use Rattle.prop_types.proofs.PlaceLaws.{map_last, places_go, read_number}
use Rattle.prop_types.proofs.places.number_places.Goals as goal

pub loop-entry-preserved : goal.loop-entry-preserved
loop-entry-preserved c = λ n.
    let read = number_in c.args.numbers in
    let entry = value_of c.in-Some.entry.now in
    places_go (is_number read n) (map value_of c.args.entries.now) (map value_of c.loop-entry.left.now) (map value_of c.in-Some.rest.now) entry _ _
    (c.loop-entry.invariant n) (map_last value_of _ _ _ c.in-Some.ensures.cases.0)
    (read_number read n entry _ _ _ _ _ (c.in_ok-put_number.ensures n) c.number_in.ensures (sym (length-map c.in-Some.rest.now value_of)))
