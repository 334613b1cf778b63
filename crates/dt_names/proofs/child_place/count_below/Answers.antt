use Rattle.std.proofs.Common.{sym}
use Rattle.dt_names.proofs.Places.{place_found, place_between}
use Rattle.dt_names.proofs.child_place.count_below.Goals as goal

pub returns-in-Ok : goal.returns-in-Ok
returns-in-Ok c = sym (place_found _ _ _ c.requires c.in-Ok.ensures.position)

pub returns-in-Err : goal.returns-in-Err
returns-in-Err c = sym (place_between _ _ _ c.requires c.in-Err.ensures.position)
