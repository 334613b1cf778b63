use Rattle.std.proofs.Common.{refl, length, ◌+◌}
use Rattle.c_macro.specs.SetData.{SetTable}
use Rattle.c_macro.proofs.SetLaws.{sets_grow, numbered_more, either_is}
use Rattle.c_macro.proofs.sets.Sets.either.Goals as goal

pub invariant_of-self : goal.invariant_of-self
invariant_of-self c = numbered_more c.self.inside.numbers.entries c.self.inside.sets c.either.new.self c.self.invariant (c.in_err-made.ensures.below (length c.self.inside.numbers.entries + 1))

pub invariant_of-self-2 : goal.invariant_of-self-2
invariant_of-self-2 c = numbered_more c.self.inside.numbers.entries c.self.inside.sets c.either.new.self c.self.invariant (c.in_ok-made.ensures.below (length c.self.inside.numbers.entries + 1))

pub returns-in_err-made-clause-grown : goal.returns-in_err-made-clause-grown
returns-in_err-made-clause-grown c = rw (← c.self.view_is) (sets_grow _ _ c.in_err-made.ensures.extends refl)

pub returns-clause-grown : goal.returns-clause-grown
returns-clause-grown c = rw (← c.self.view_is) (sets_grow _ _ c.in_ok-made.ensures.extends refl)

pub returns-clause-set : goal.returns-clause-set
returns-clause-set c =
    let s : SetTable = record { numbers = c.self.inside.numbers.entries; nodes = c.self.inside.sets } in
    let t : SetTable = record { numbers = c.self.inside.numbers.entries; nodes = c.either.new.self } in
    rw (← c.self.view_is) (c.in_ok-made.ensures.set.0, either_is s t c.args.a c.args.b c.in_ok-made.made refl c.in_ok-made.ensures.set.1)
