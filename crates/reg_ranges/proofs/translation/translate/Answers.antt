use Rattle.std.proofs.Common.{◌≡◌, ◌∙◌, ◌+◌, ◌-◌, length, suc, sym, ap, arith}
use Rattle.reg_ranges.proofs.TranslationLaws.{way_begins, way_at_root, way_is_whole, way_stops, way_goes}
use Rattle.reg_ranges.proofs.translation.translate.Goals as goal

pub loop-init : goal.loop-init
loop-init c = let w = way_begins c.args.t.now.nodes c.args.id c.args.a c.requires.whole in (c.requires.there, w.0, w.1)

pub returns-in_default : goal.returns-in_default
returns-in_default c = way_at_root c.args.t.now.nodes _ c.loop.at c.loop.address _ (sym c.in_default.is ∙ c.parent.ensures.parent) c.loop.invariant.1

pub pass-requires-clause-whole : goal.pass-requires-clause-whole
pass-requires-clause-whole c =
    let e : length c.args.t.now.nodes - c.loop.counter ≡ suc (length c.args.t.now.nodes - (c.loop.counter + 1)) = omega (arith, ap length c.nodes.ensures) in
    (way_is_whole c.args.t.now.nodes _ _ c.loop.at c.in-Some.up e (sym c.in-Some.is ∙ c.parent.ensures.parent) c.loop.invariant.2).0

pub returns-in_default-pass : goal.returns-in_default-pass
returns-in_default-pass c =
    let e : length c.args.t.now.nodes - c.loop.counter ≡ suc (length c.args.t.now.nodes - (c.loop.counter + 1)) = omega (arith, ap length c.nodes.ensures) in
    way_stops c.args.t.now.nodes _ _ c.loop.at c.in-Some.up c.loop.address _ e (sym c.in-Some.is ∙ c.parent.ensures.parent) (sym c.in_default-pass.is ∙ c.pass.ensures) c.loop.invariant.1

pub loop-preserved : goal.loop-preserved
loop-preserved c =
    let e : length c.args.t.now.nodes - c.loop.counter ≡ suc (length c.args.t.now.nodes - (c.loop.counter + 1)) = omega (arith, ap length c.nodes.ensures) in (
      c.in-Some.ensures.there,
      way_goes c.args.t.now.nodes _ _ c.loop.at c.in-Some.up c.loop.address c.in-Some-pass.next _ e (sym c.in-Some.is ∙ c.parent.ensures.parent) (sym c.in-Some-pass.is ∙ c.pass.ensures) c.loop.invariant.1,
      (way_is_whole c.args.t.now.nodes _ _ c.loop.at c.in-Some.up e (sym c.in-Some.is ∙ c.parent.ensures.parent) c.loop.invariant.2).1,
    )
