use Rattle.std.proofs.Common.{◌≡◌, ◌+◌, ℕ, length, rules, subst, sym}
use Rattle.dt_names.specs.Clash.{IsClash}
use Rattle.dt_names.specs.Facts.{facts}
use Rattle.dt_names.proofs.Searched.{search_begins, search_new, search_same, search_other}
use Rattle.dt_names.proofs.search.clash.Goals as goal

pub loop-doubles-init : goal.loop-doubles-init
loop-doubles-init c =
    search_begins c.args.b.now c.in_ok-labels.labels.left c.in_ok-labels.labels.texts c.new-keys.result.keys c.new-held.result.items c.new-doubles.result.items
    c.in_ok-labels.ensures c.new-keys.ensures.empty c.new-held.ensures.items c.new-doubles.ensures.items

pub loop-doubles-preserved-in-New : goal.loop-doubles-preserved-in-New
loop-doubles-preserved-in-New c =
    search_new c.args.b.now c.loop-doubles.labels c.next.new.self c.in-Some.labelled.fact c.in-Some.labelled.key
    c.loop-doubles.keys.keys c.meet.new.keys.keys c.loop-doubles.held.items c.meet.new.held.items c.loop-doubles.doubles.items c.held-said.result
    c.held-said.ensures (rw c.in-Some.is at c.in_ok-labelled.ensures) (rw c.in-New.is at c.in_ok-meet.ensures) c.loop-doubles.invariant

pub loop-doubles-preserved : goal.loop-doubles-preserved
loop-doubles-preserved c =
    let place : c.len.result + c.len-in-Same.result ≡ length c.meet.new.held.items + length c.loop-doubles.doubles.items
    = search rules in
    search_same c.args.b.now c.loop-doubles.labels c.next.new.self c.in-Some.labelled.fact c.in-Some.labelled.key
    c.loop-doubles.keys.keys c.meet.new.keys.keys c.loop-doubles.held.items c.meet.new.held.items c.loop-doubles.doubles.items c.push.new.self.items
    c.held-said.result (c.len.result + c.len-in-Same.result)
    c.held-said.ensures (rw c.in-Some.is at c.in_ok-labelled.ensures) (rw c.in-Same.is at c.in_ok-meet.ensures) place c.in_ok-push-in-Same.ensures.items
    c.loop-doubles.invariant

pub returns-in-Other : goal.returns-in-Other
returns-in-Other c =
    let clashes = search_other c.args.b.now c.loop-doubles.labels c.next.new.self c.in-Some.labelled.fact c.in-Some.labelled.key
    c.loop-doubles.keys.keys c.meet.new.keys.keys c.loop-doubles.held.items c.meet.new.held.items c.loop-doubles.doubles.items c.held-said.result
    c.held-said.ensures (rw c.in-Some.is at c.in_ok-labelled.ensures) (rw c.in-Other.is at c.in_ok-meet.ensures) c.loop-doubles.invariant in
    subst (λ (node : ℕ). IsClash (facts c.args.b.now) node) (sym c.owner.ensures) clashes
