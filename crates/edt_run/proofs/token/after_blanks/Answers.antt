use Rattle.std.proofs.Common.{arith}
use Rattle.std.proofs.lemmas.Grind.{common_steps}
use Rattle.std.proofs.lemmas.List.Sums.{prefix_len-le-length}
use Rattle.edt_run.proofs.TokenLaws.{behind_blanks, behind_stops}
use Rattle.edt_run.specs.Small.{is_blank}
use Rattle.edt_run.proofs.token.after_blanks.Goals as goal

pub split_at-requires : goal.split_at-requires
split_at-requires c = grind (arith, common_steps, prefix_len-le-length is_blank c.args.bytes.now)

pub returns-clause-same : goal.returns-clause-same
returns-clause-same c = rw (c.split_at.ensures.back, c.blank_length.ensures) (behind_blanks c.args.bytes.now)

pub returns-clause-no_blank : goal.returns-clause-no_blank
returns-clause-no_blank c = rw (c.split_at.ensures.back, c.blank_length.ensures) (behind_stops is_blank c.args.bytes.now)
