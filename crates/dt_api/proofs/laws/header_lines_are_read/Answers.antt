use Rattle.dt_api.proofs.HeaderLines.{lines_are_read}
use Rattle.dt_api.proofs.laws.header_lines_are_read.Goals as goal

pub returns : goal.returns
returns c = lines_are_read
