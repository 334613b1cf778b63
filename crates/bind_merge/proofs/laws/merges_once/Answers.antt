use Rattle.bind_merge.proofs.United.{merges_once}
use Rattle.bind_merge.proofs.laws.merges_once.Goals as goal

pub returns : goal.returns
returns c = merges_once
