use Rattle.std.proofs.Common.{ap, is_ok}
use Rattle.rows.proofs.three_nodes.is_whole_at.Goals as goal

pub returns-in-Ok : goal.returns-in-Ok
returns-in-Ok c = λ yes'. ap is_ok c.in-Ok.ensures.cut
