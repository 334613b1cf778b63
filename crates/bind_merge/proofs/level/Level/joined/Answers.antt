use Rattle.std.proofs.Common.{◌≡◌, ◌↔◌, IsTrue, ◌∙◌, ap, subst}
use Rattle.bind_merge.specs.Levels.{LevelTable}
use Rattle.bind_merge.specs.Joining.{AgreeOn, ClashIn}
use Rattle.bind_merge.proofs.Disagreeing.{not-so}
use Rattle.bind_merge.proofs.LevelClashes.{buses-clash, bus-clash, spaces-clash, props-clash}
use Rattle.bind_merge.proofs.level.Level.joined.Goals as goal

pub returns-then-not-agree_names : goal.returns-then-not-agree_names
returns-then-not-agree_names c =
    let ea : c.self.inside.buses ≡ c.args.self.now.buses = ap (λ (l : LevelTable). l.buses) c.self.view_is in
    let eb : c.other.inside.buses ≡ c.args.other.now.buses = ap (λ (l : LevelTable). l.buses) c.other.view_is in
    let h : IsTrue c.agree_names.result ↔ AgreeOn c.args.self.now.buses c.args.other.now.buses =
    subst (λ t. IsTrue c.agree_names.result ↔ AgreeOn c.args.self.now.buses t) eb
    (subst (λ t. IsTrue c.agree_names.result ↔ AgreeOn t c.other.inside.buses) ea c.agree_names.ensures) in
    buses-clash c.args.self.now c.args.other.now (not-so c.agree_names.result h c.if-not-agree_names.true)

pub returns-then-not-agree_texts : goal.returns-then-not-agree_texts
returns-then-not-agree_texts c =
    let ea : c.self.inside.on_bus ≡ c.args.self.now.on_bus = ap (λ (l : LevelTable). l.on_bus) c.self.view_is in
    let eb : c.other.inside.on_bus ≡ c.args.other.now.on_bus = ap (λ (l : LevelTable). l.on_bus) c.other.view_is in
    let h : IsTrue c.agree_texts.result ↔ AgreeOn c.args.self.now.on_bus c.args.other.now.on_bus =
    subst (λ t. IsTrue c.agree_texts.result ↔ AgreeOn c.args.self.now.on_bus t) eb
    (subst (λ t. IsTrue c.agree_texts.result ↔ AgreeOn t c.other.inside.on_bus) ea c.agree_texts.ensures) in
    bus-clash c.args.self.now c.args.other.now (not-so c.agree_texts.result h c.if-not-agree_texts.true)

pub returns-in_default : goal.returns-in_default
returns-in_default c =
    let k : ClashIn c.as_slice.result.now c.as_slice-2.result.now = rw c.in_default.is at c.in_ok-spaces.ensures in
    let e1 : c.as_slice.result.now ≡ c.args.self.now.spaces = c.as_slice.ensures.value ∙ ap (λ (l : LevelTable). l.spaces) c.self.view_is in
    let e2 : c.as_slice-2.result.now ≡ c.args.other.now.spaces = c.as_slice-2.ensures.value ∙ ap (λ (l : LevelTable). l.spaces) c.other.view_is in
    spaces-clash c.args.self.now c.args.other.now
    (subst (λ r. ClashIn c.args.self.now.spaces r) e2 (subst (λ r. ClashIn r c.as_slice-2.result.now) e1 k))

pub returns-in_default-2 : goal.returns-in_default-2
returns-in_default-2 c =
    let k : ClashIn c.as_slice-3.result.now c.as_slice-4.result.now = rw c.in_default-2.is at c.in_ok-props.ensures in
    let e1 : c.as_slice-3.result.now ≡ c.args.self.now.props = c.as_slice-3.ensures.value ∙ ap (λ (l : LevelTable). l.props) c.self.view_is in
    let e2 : c.as_slice-4.result.now ≡ c.args.other.now.props = c.as_slice-4.ensures.value ∙ ap (λ (l : LevelTable). l.props) c.other.view_is in
    props-clash c.args.self.now c.args.other.now
    (subst (λ r. ClashIn c.args.self.now.props r) e2 (subst (λ r. ClashIn r c.as_slice-4.result.now) e1 k))
