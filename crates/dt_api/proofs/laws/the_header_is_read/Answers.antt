use Rattle.dt_api.proofs.HeaderText.{header_is_read}
use Rattle.dt_api.proofs.laws.the_header_is_read.Goals as goal

pub returns : goal.returns
returns c = header_is_read
