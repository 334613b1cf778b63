use Rattle.std.proofs.Common.{false, refl, Some}
use Rattle.c_macro.proofs.JoinLaws.{right_fed, right_fails}
use Rattle.c_macro.proofs.joiner.Joiner.feed_right.Goals as goal

pub returns-in_default-clause-fed : goal.returns-in_default-clause-fed
returns-in_default-clause-fed c = right_fails c.args.sets.now c.join.new.sets c.args.self.now.out.items c.args.self.now c.args.left c.args.item (rw c.in_default.is at c.in_ok-joined.ensures.is)

pub returns-clause-fed : goal.returns-clause-fed
returns-clause-fed c =
    right_fed c.args.sets.now c.join.new.sets c.args.self.now (record { out = c.args.self.now.out; left = Some c.in-Some.joined; glued = false }) c.args.left c.args.item c.in-Some.joined c.in_ok-joined.ensures.grown c.requires.out (rw c.in-Some.is at c.in_ok-joined.ensures.is)
    (rw c.in-Some.is at c.in_ok-joined.ensures.known) refl refl refl
