use Rattle.std.proofs.Common.{◌≡◌, ◌↔◌, IsTrue, ap, subst}
use Rattle.bind_merge.specs.Levels.{EntryData}
use Rattle.bind_merge.specs.Joining.{AgreeOn}
use Rattle.bind_merge.proofs.Disagreeing.{ty_differs}
use Rattle.bind_merge.proofs.entry.Settings.agrees.Goals as goal

pub returns-then-not-agree_types : goal.returns-then-not-agree_types
returns-then-not-agree_types c =
    let ea : c.self.inside.ty ≡ c.args.self.now.ty = ap (λ (x : EntryData). x.ty) c.self.view_is in
    let eb : c.other.inside.ty ≡ c.args.other.now.ty = ap (λ (x : EntryData). x.ty) c.other.view_is in
    let h : IsTrue c.agree_types.result ↔ AgreeOn c.args.self.now.ty c.args.other.now.ty =
    subst (λ t. IsTrue c.agree_types.result ↔ AgreeOn c.args.self.now.ty t) eb
    (subst (λ t. IsTrue c.agree_types.result ↔ AgreeOn t c.other.inside.ty) ea c.agree_types.ensures) in
    ty_differs c.args.self.now c.args.other.now c.agree_types.result h c.if-not-agree_types.true
