use Rattle.std.proofs.Common.{subst}
use Rattle.c_macro.specs.declared.joiner.Item.{Item}
use Rattle.c_macro.specs.Joining.{KnownItem}
use Rattle.c_macro.proofs.PendLaws.{known_append}
use Rattle.c_macro.proofs.joiner.push_side.Goals as goal

pub returns-in-One-clause-known : goal.returns-in-One-clause-known
returns-in-One-clause-known c = λ s h k.
    let P : Item → Type 0 = λ x. KnownItem s x in
    rw c.in_ok-push.ensures.items (known_append s _ _ h (subst P c.in-One.is k, tt))
