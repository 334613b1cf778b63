use Rattle.std.proofs.Common.{◌≡◌, take}
use Rattle.std.specs.List.{flat_map}
use Rattle.c_macro.specs.Bodies.{escaped}
use Rattle.c_macro.proofs.strings.escape_bytes.Given as goal

abbrev pub invariant-loop-byte : goal.invariant-loop-byte
invariant-loop-byte l = l.out.items ≡ flat_map escaped (take l.byte-index l.bytes)
