use Rattle.std.proofs.Common.{ap, not, ◌∙◌, ◌||◌}
use Rattle.prop_types.specs.Typing.{is_free}
use Rattle.prop_types.proofs.TypingLaws.{any_same}
use Rattle.prop_types.proofs.typing.has_undeclared.Goals as goal

pub returns : goal.returns
returns c = c.has_neither.ensures ∙ any_same _ _ c.args.node.now.props (λ p. ap (λ b. not (b || is_free p.0)) (c.in_ok-types.ensures p.0))
