use Rattle.std.proofs.Common.{[], subst, sym, ◌∙◌, arith}
use Rattle.dep_order.specs.Turns.{lists, TurnsData, IsUnderWay}
use Rattle.dep_order.proofs.Turning.{ready_there, mark_to}
use Rattle.dep_order.proofs.turns.Turns.step.Goals as goal

pub mark-requires-clause-marks : goal.mark-requires-clause-marks
mark-requires-clause-marks c =
    let t : TurnsData = record { order = c.self.inside.order.items; done = c.self.inside.done.items; waiting = c.self.inside.waiting.items; ready = c.self.inside.ready } in
    let u : IsUnderWay (lists c.args.needs.now) t [] = subst (λ s. IsUnderWay (lists c.args.needs.now) s []) (sym c.self.view_is) c.requires.under_way in
    omega (arith, ready_there (lists c.args.needs.now) t c.in-Some.id _ u c.in-Some.ensures.first, u.marks)

pub mark-requires-clause-queues : goal.mark-requires-clause-queues
mark-requires-clause-queues c =
    let t : TurnsData = record { order = c.self.inside.order.items; done = c.self.inside.done.items; waiting = c.self.inside.waiting.items; ready = c.self.inside.ready } in
    let u : IsUnderWay (lists c.args.needs.now) t [] = subst (λ s. IsUnderWay (lists c.args.needs.now) s []) (sym c.self.view_is) c.requires.under_way in
    omega (arith, ready_there (lists c.args.needs.now) t c.in-Some.id _ u c.in-Some.ensures.first, u.queues)

pub settle_all-requires-clause-under_way : goal.settle_all-requires-clause-under_way
settle_all-requires-clause-under_way c =
    let t : TurnsData = record { order = c.self.inside.order.items; done = c.self.inside.done.items; waiting = c.self.inside.waiting.items; ready = c.self.inside.ready } in
    let u : IsUnderWay (lists c.args.needs.now) t [] = subst (λ s. IsUnderWay (lists c.args.needs.now) s []) (sym c.self.view_is) c.requires.under_way in
    mark_to (lists c.args.needs.now) t c.in-Some.id c.take_first.new.self c.mark.new.self c.as_slice.result.now u c.in-Some.ensures.first c.in-Some.ensures.least
    c.in_ok-released.ensures.marked (c.as_slice.ensures ∙ c.in_ok-released.ensures.taken)
