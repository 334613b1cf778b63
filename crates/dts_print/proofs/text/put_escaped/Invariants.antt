use Rattle.std.proofs.Common.{take, true}
use Rattle.std.specs.List.{flat_map}
use Rattle.dts_print.specs.Printed.{escaped}
use Rattle.edt_base.specs.Put.{Put}
use Rattle.dts_print.proofs.text.put_escaped.Given as goal

abbrev pub invariant-loop-byte : goal.invariant-loop-byte
invariant-loop-byte g l =
    Put (g.S.Sink.seen l.initial.out) (g.S.Sink.seen l.out) l.initial.block l.block (flat_map escaped (take l.byte-index l.text)) true
