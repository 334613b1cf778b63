use Rattle.std.proofs.Common.{refl}
use Rattle.c_macro.proofs.CollectLaws.{splitting_starts, split_is, split_known, split_size}
use Rattle.c_macro.proofs.collect.split.Goals as goal

pub loop-taking-init : goal.loop-taking-init
loop-taking-init c = splitting_starts c.args.row c.args.commas _ c.requires c.new.ensures.items refl c.in_ok-left.ensures refl

pub loop-taking-smaller : goal.loop-taking-smaller
loop-taking-smaller c = (c.in_ok-next.ensures c.args.row c.args.commas c.loop-taking.invariant).1 c.if-branch.true

pub returns-clause-is : goal.returns-clause-is
returns-clause-is c = λ s last rest m.
    let n = c.in_ok-next.ensures c.args.row c.args.commas c.loop-taking.invariant in
    split_is c.args.row c.args.commas c.next.new.self c.push.new.self.items n.0 (n.2 c.if-branch.false) c.in_ok-push.ensures.items s last rest m

pub returns-clause-known : goal.returns-clause-known
returns-clause-known c = λ s h. split_known c.args.row c.args.commas c.next.new.self c.push.new.self.items (c.in_ok-next.ensures c.args.row c.args.commas c.loop-taking.invariant).0 c.in_ok-push.ensures.items s h

pub returns-clause-size : goal.returns-clause-size
returns-clause-size c = split_size c.args.row c.args.commas c.next.new.self c.push.new.self.items (c.in_ok-next.ensures c.args.row c.args.commas c.loop-taking.invariant).0 c.in_ok-push.ensures.items
