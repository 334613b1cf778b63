use Rattle.c_macro.proofs.SetLaws.{numbered_first}
use Rattle.c_macro.proofs.sets.Sets.new.Goals as goal

pub invariant_of-result : goal.invariant_of-result
invariant_of-result c = numbered_first _ _ c.new.ensures.empty c.new-2.ensures
