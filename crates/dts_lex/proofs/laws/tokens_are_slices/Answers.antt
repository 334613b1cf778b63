use Rattle.dts_lex.proofs.SliceLaws.{are_ends_gaps, are_faults_within, are_slices}
use Rattle.dts_lex.proofs.laws.tokens_are_slices.Goals as goal

pub returns : goal.returns
returns c = record { slices = are_slices; faults = are_faults_within; ends = are_ends_gaps }
