use Rattle.dts_lex.proofs.SpellLaws.{blanks_are_no_tokens, spelled_tokens_are_read as law}
use Rattle.dts_lex.proofs.laws.spelled_tokens_are_read.Goals as goal

pub returns : goal.returns
returns c = record { read = law; blanks = blanks_are_no_tokens }
