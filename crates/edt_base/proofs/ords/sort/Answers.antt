use Rattle.edt_base.proofs.RisingLaws.{sorted_is}
use Rattle.edt_base.proofs.ords.sort.Goals as goal

pub returns : goal.returns
returns c = sorted_is c.args.ords.now.items _ c.sort_unstable.ensures.permutation c.sort_unstable.ensures.sorted
