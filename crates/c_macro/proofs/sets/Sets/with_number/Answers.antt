use Rattle.std.proofs.Common.{◌≡◌, refl, sym, subst, length, ◌+◌, ℕ, List, Some}
use Rattle.c_macro.specs.declared.numbers.Node.{Node}
use Rattle.c_macro.specs.SetData.{SetTable, number_in}
use Rattle.c_macro.proofs.SetLaws.{sets_grow, numbered_more, number_below, with_is}
use Rattle.c_macro.proofs.sets.Sets.with_number.Goals as goal

abbrev table : List (List ℕ × ℕ) → List Node → SetTable
table numbers nodes = record { numbers = numbers; nodes = nodes }

pub invariant_of-self : goal.invariant_of-self
invariant_of-self c = numbered_more c.self.inside.numbers.entries c.self.inside.sets c.with.new.self c.self.invariant
    (λ h. c.in_err-made.ensures.below (length c.self.inside.numbers.entries + 1) h (number_below (table c.self.inside.numbers.entries c.self.inside.sets) c.requires.number.0 c.args.number c.self.invariant (subst (λ (s : SetTable). number_in s c.requires.number.0 ≡ Some c.args.number) (sym c.self.view_is) c.requires.number.1)))

pub invariant_of-self-2 : goal.invariant_of-self-2
invariant_of-self-2 c = numbered_more c.self.inside.numbers.entries c.self.inside.sets c.with.new.self c.self.invariant
    (λ h. c.in_ok-made.ensures.below (length c.self.inside.numbers.entries + 1) h (number_below (table c.self.inside.numbers.entries c.self.inside.sets) c.requires.number.0 c.args.number c.self.invariant (subst (λ (s : SetTable). number_in s c.requires.number.0 ≡ Some c.args.number) (sym c.self.view_is) c.requires.number.1)))

pub returns-in_err-made-clause-grown : goal.returns-in_err-made-clause-grown
returns-in_err-made-clause-grown c = rw (← c.self.view_is) (sets_grow _ _ c.in_err-made.ensures.extends refl)

pub returns-clause-grown : goal.returns-clause-grown
returns-clause-grown c = rw (← c.self.view_is) (sets_grow _ _ c.in_ok-made.ensures.extends refl)

pub returns-clause-set : goal.returns-clause-set
returns-clause-set c = rw (← c.self.view_is) (c.in_ok-made.ensures.set.0, λ name h. with_is (table c.self.inside.numbers.entries c.self.inside.sets) (table c.self.inside.numbers.entries c.with.new.self) c.args.set c.in_ok-made.made c.args.number name c.self.invariant refl h c.in_ok-made.ensures.set.1)
