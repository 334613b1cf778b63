use Rattle.std.proofs.Common.{rules, ◌≡◌, subst, Some, None}
use Rattle.bind_merge.specs.Levels.{EntryData}
use Rattle.bind_merge.specs.ViewData.{AreTyped, prop_in}
use Rattle.bind_merge.proofs.Typed.{never_untyped}
use Rattle.bind_merge.proofs.view.View.prop.Goals as goal

pub returns-in_err-settings : goal.returns-in_err-settings
returns-in_err-settings c =
    let z : EntryData = c.settings-settings.result.now in
    let found : prop_in c.args.name.now c.args.self.now ≡ Some z = search rules in
    let untyped : z.ty ≡ None = search rules in
    absurd (never_untyped c.args.self.now c.args.name.now z (subst (λ l. AreTyped l) c.self.view_is c.self.invariant.1) found untyped)
