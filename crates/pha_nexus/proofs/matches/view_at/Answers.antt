use Rattle.std.proofs.Common.{◌∙◌, ◌+◌, ◌-◌, arith, sym}
use Rattle.pha_nexus.proofs.MatchLaws.{steps_on}
use Rattle.pha_nexus.proofs.matches.view_at.Goals as goal

pub loop-preserved : goal.loop-preserved
loop-preserved c = sym (steps_on (c.args.steps - c.loop.counter) (c.args.steps - (c.loop.counter + 1)) c.loop.view c.in-Some.child
    (omega arith) (sym c.in_ok-child.ensures ∙ c.in-Some.is)) ∙ c.loop.invariant
