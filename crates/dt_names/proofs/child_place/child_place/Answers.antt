use Rattle.std.proofs.Common.{sym, subst}
use Rattle.dt_names.proofs.Places.{children_of_rise}
use Rattle.dt_names.specs.Inner.Rising.{IsRisingFrom}
use Rattle.dt_names.proofs.child_place.child_place.Goals as goal

pub count_below-requires : goal.count_below-requires
count_below-requires c = subst (λ xs. IsRisingFrom 0 xs) (sym c.children.ensures) (children_of_rise c.args.bound.now.tree _ _ c.tree_is_well_formed.ensures (sym c.in-Some.ensures))
