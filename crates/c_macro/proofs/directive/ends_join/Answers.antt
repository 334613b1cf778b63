use Rattle.std.proofs.Common.{◌∙◌}
use Rattle.c_macro.proofs.DirectiveLaws.{ends_with_last}
use Rattle.c_macro.proofs.directive.ends_join.Goals as goal

pub returns-in-Some : goal.returns-in-Some
returns-in-Some c = c.is_punct.ensures ∙ ends_with_last _ _ _ c.in-Some.ensures.cases.0
