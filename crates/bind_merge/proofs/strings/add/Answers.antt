use Rattle.std.proofs.Common.{◌++◌, [], ◌∷◌, List, ℕ, subst}
use Rattle.bind_merge.specs.Inner.Stringing.{Finds, Knows}
use Rattle.bind_merge.proofs.Stringing.{knows-more, finds-same, not-false}
use Rattle.bind_merge.proofs.strings.add.Goals as goal

pub returns-in_ok-push-in-Ok-true-clause-known : goal.returns-in_ok-push-in-Ok-true-clause-known
returns-in_ok-push-in-Ok-true-clause-known c = λ all h.
    subst (λ (x : List ℕ). Knows c.insert.new.self (all ++ x ∷ [])) c.as_str.ensures
    (knows-more c.args.known.now c.insert.new.self c.as_str.result.now c.in-Ok-true.ensures.updates.0 all h)

pub returns-in-Ok-false-clause-known : goal.returns-in-Ok-false-clause-known
returns-in-Ok-false-clause-known c = λ all h.
    subst (λ (x : List ℕ). Knows c.insert.new.self (all ++ x ∷ [])) c.as_str.ensures
    (knows-more c.args.known.now c.insert.new.self c.as_str.result.now c.in-Ok-false.ensures.updates.0 all h)

pub returns-in-Ok-false-clause-finders : goal.returns-in-Ok-false-clause-finders
returns-in-Ok-false-clause-finders c = λ all h f.
    subst (λ (x : List ℕ). Finds c.args.finders.now.items (all ++ x ∷ [])) c.as_str.ensures
    (finds-same c.args.known.now c.args.finders.now.items all c.as_str.result.now h
    (not-false _ c.in-Ok-false.field-0 c.in-Ok-false.ensures.added c.in-Ok-false.field-0-test) f)
