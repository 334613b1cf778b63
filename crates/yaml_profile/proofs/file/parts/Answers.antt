use Rattle.yaml_profile.proofs.Utf8Laws.{whole_text, never_broken}
use Rattle.yaml_profile.proofs.file.parts.Goals as goal

pub returns-in-Ok-clause-text : goal.returns-in-Ok-clause-text
returns-in-Ok-clause-text c = whole_text c.args.src.now c.in-Ok.text.now c.in-Ok.ensures.cases.0 c.in-Ok.ensures.cases.1

pub returns-in-Ok-clause-broken : goal.returns-in-Ok-clause-broken
returns-in-Ok-clause-broken c = never_broken c.args.src.now c.in-Ok.ensures.cases.1
