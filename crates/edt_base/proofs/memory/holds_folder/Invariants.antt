use Rattle.std.proofs.Common.{◌≡◌, drop}
use Rattle.edt_base.specs.Memory.{holds_folder}
use Rattle.edt_base.proofs.memory.holds_folder.Given as goal

abbrev pub invariant-loop-name : goal.invariant-loop-name
invariant-loop-name l = holds_folder (drop l.name-index l.held) l.dir ≡ holds_folder l.held l.dir
