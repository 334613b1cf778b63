use Rattle.std.proofs.Common.{rules, ◌≡◌, ◌∙◌, take}
use Rattle.edt_base.specs.NodeData.{bytes_of}
use Rattle.pha_nexus.proofs.PassLaws.{aligned_of, as_long}
use Rattle.pha_nexus.proofs.passing.aligned.Goals as goal

pub returns : goal.returns
returns c =
    let bytes : c.of-pass.result ≡ bytes_of c.args.pass.now = search rules in
    let before : c.in_ok-before.before.items ≡ take c.saturating_sub-kept.result c.args.parent.now = c.in_ok-before.ensures.items ∙ c.split_at-2.ensures.front in
    aligned_of c.args.spec.now c.args.parent.now (bytes_of c.args.pass.now) c.of-pass.result c.skip.new.cells c.split_at.result.1.now c.in_ok-before.before.items
    c.split_at-2.result.1.now c.in_ok-sent.sent.items c.saturating_sub-cut.result c.saturating_sub-kept.result c.skip.result bytes
    (as_long c.args.spec.now c.args.pass.now c.requires) c.saturating_sub-cut.ensures c.saturating_sub-kept.ensures
    c.split_at.ensures.back before c.split_at-2.ensures.back c.skip.ensures.there c.skip.ensures.short c.in_ok-sent.ensures
