use Rattle.dts_parse.proofs.Whole.{one_script}
use Rattle.dts_parse.proofs.laws.a_source_has_one_script.Goals as goal

pub returns : goal.returns
returns c = one_script
