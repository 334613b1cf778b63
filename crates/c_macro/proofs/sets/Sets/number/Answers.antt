use Rattle.std.proofs.Common.{◌≡◌, ◌∙◌, ap, sym, refl, Some, true, cond, ℕ, List}
use Rattle.std.specs.Str.{bytes_eq}
use Rattle.c_macro.specs.declared.numbers.Node.{Node}
use Rattle.c_macro.specs.SetData.{SetTable}
use Rattle.c_macro.proofs.SetLaws.{names_grow, named_numbered, named_number}
use Rattle.c_macro.proofs.sets.Sets.number.Goals as goal

abbrev table : List (List ℕ × ℕ) → List Node → SetTable
table numbers nodes = record { numbers = numbers; nodes = nodes }

pub returns-in-Some-clause-number : goal.returns-in-Some-clause-number
returns-in-Some-clause-number c = rw (← c.self.view_is) (sym c.number_of.ensures ∙ c.in-Some.is)

pub invariant_of-self-2 : goal.invariant_of-self-2
invariant_of-self-2 c = named_numbered c.self.inside.numbers.entries c.give_number.new.numbers.entries c.self.inside.sets c.args.name.now c.in_ok-number.number c.self.invariant (rw c.in_ok-name.ensures at c.in_ok-number.ensures.given)

pub returns-clause-grown : goal.returns-clause-grown
returns-clause-grown c = rw (← c.self.view_is)
    (names_grow (table c.self.inside.numbers.entries c.self.inside.sets) (table c.give_number.new.numbers.entries c.self.inside.sets) c.args.name.now c.in_ok-number.number c.self.invariant refl (rw c.in_ok-name.ensures at c.in_ok-number.ensures.given))

pub returns-clause-number : goal.returns-clause-number
returns-clause-number c = named_number c.self.inside.numbers.entries c.give_number.new.numbers.entries c.args.name.now c.in_ok-number.number (rw c.in_ok-name.ensures at c.in_ok-number.ensures.given)
