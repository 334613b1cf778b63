use Rattle.std.proofs.Common.{◌≡◌, ◌∙◌, ap, subst}
use Rattle.bind_merge.specs.Joining.{ClashIn}
use Rattle.bind_merge.specs.Levels.{OwnData}
use Rattle.bind_merge.proofs.LevelClashes.{spaces-clash, props-clash}
use Rattle.bind_merge.proofs.own.OwnLevel.table.Goals as goal

pub returns-in_default : goal.returns-in_default
returns-in_default c =
    let k : ClashIn c.as_slice.result.now c.as_slice.result.now = rw c.in_default.is at c.in_ok-spaces.ensures in
    let e : c.as_slice.result.now ≡ c.args.self.now.table.spaces = c.as_slice.ensures.value ∙ ap (λ (l : OwnData). l.table.spaces) c.self.view_is in
    spaces-clash c.args.self.now.table c.args.self.now.table (subst (λ r. ClashIn r r) e k)

pub returns-in_default-2 : goal.returns-in_default-2
returns-in_default-2 c =
    let k : ClashIn c.as_slice-2.result.now c.as_slice-2.result.now = rw c.in_default-2.is at c.in_ok-props.ensures in
    let e : c.as_slice-2.result.now ≡ c.args.self.now.table.props = c.as_slice-2.ensures.value ∙ ap (λ (l : OwnData). l.table.props) c.self.view_is in
    props-clash c.args.self.now.table c.args.self.now.table (subst (λ r. ClashIn r r) e k)
