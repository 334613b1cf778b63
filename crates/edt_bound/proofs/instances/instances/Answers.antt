use Rattle.edt_bound.proofs.InstanceSteps.{all_taken, few_left, none_left, none_taken, one_taken}
use Rattle.edt_bound.proofs.instances.instances.Goals as goal

pub loop-compat-init : goal.loop-compat-init
loop-compat-init c =
    none_taken c.args.t.now.nodes c.in_ok-listing.listing c.in_ok-insts.insts.items c.len.ensures.ordered c.in_ok-listing.ensures c.in_ok-insts.ensures.items

pub inst-requires : goal.inst-requires
inst-requires c =
    few_left c.args.t.now c.in_ok-listing.listing.entries c.loop-compat.insts.items c.loop-compat.listing.entries c.pop_first.new.self.entries
    c.in-Some.compat c.in-Some.ids c.is_well_formed.ensures c.loop-compat.invariant c.in-Some.ensures.removal

pub loop-compat-preserved : goal.loop-compat-preserved
loop-compat-preserved c =
    one_taken c.args.t.now.nodes c.in_ok-listing.listing.entries c.loop-compat.insts.items c.push.new.self.items c.loop-compat.listing.entries
    c.pop_first.new.self.entries c.in-Some.compat c.in-Some.ids c.in_ok-inst.field-0 c.loop-compat.invariant c.in-Some.ensures.removal c.in_ok-inst.ensures
    c.in_ok-push.ensures.items

pub returns : goal.returns
returns c =
    all_taken c.args.t.now.nodes c.in_ok-listing.listing.entries c.loop-compat.insts.items c.loop-compat.listing.entries
    (none_left c.loop-compat.listing.entries c.in_default.ensures.variant.1) c.loop-compat.invariant c.in_ok-listing.ensures c.len.ensures.ordered
