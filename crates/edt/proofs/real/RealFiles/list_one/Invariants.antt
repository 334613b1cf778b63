use Rattle.edt_base.specs.Outside.{AreBelow}
use Rattle.edt.proofs.real.RealFiles.list_one.Given as goal

abbrev pub invariant-loop-entry : goal.invariant-loop-entry
invariant-loop-entry g l = AreBelow l.dir l.names.items
