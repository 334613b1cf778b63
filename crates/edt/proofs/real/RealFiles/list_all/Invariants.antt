use Rattle.std.proofs.Common.{◌≤◌, vec_len}
use Rattle.edt_base.specs.Outside.{AreBelow}
use Rattle.edt.proofs.real.RealFiles.list_all.Given as goal

abbrev pub invariant-loop : goal.invariant-loop
invariant-loop g l = (vec_len l.names ≤ l.most) × AreBelow l.dir l.names.items
