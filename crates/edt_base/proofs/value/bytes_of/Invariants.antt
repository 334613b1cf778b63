use Rattle.std.proofs.Common.{◌≡◌, ◌++◌, drop}
use Rattle.edt_base.specs.NodeData.{bytes_of}
use Rattle.edt_base.proofs.value.bytes_of.Given as goal

abbrev pub invariant-loop-part : goal.invariant-loop-part
invariant-loop-part l = l.bytes.items ++ bytes_of (drop l.part-index l.parts) ≡ bytes_of l.parts
