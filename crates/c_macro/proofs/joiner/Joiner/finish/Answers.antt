use Rattle.std.proofs.Common.{subst, Option}
use Rattle.c_macro.specs.declared.joiner.Item.{Item}
use Rattle.c_macro.specs.Joining.{KnownLeft}
use Rattle.c_macro.proofs.joiner.Joiner.finish.Goals as goal

pub returns-in_ok-push_side-in-Some-clause-known : goal.returns-in_ok-push_side-in-Some-clause-known
returns-in_ok-push_side-in-Some-clause-known c = λ s k.
    let P : Option Item → Type 0 = λ o. KnownLeft s o in
    c.in_ok-push_side-in-Some.ensures.known s k.out (subst P c.in-Some.is k.left)
