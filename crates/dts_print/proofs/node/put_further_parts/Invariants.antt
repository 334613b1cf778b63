use Rattle.std.proofs.Common.{codes, ◌++◌, take, true}
use Rattle.std.specs.List.{flat_map}
use Rattle.dts_print.specs.Printed.{part_text}
use Rattle.edt_base.specs.Put.{Put}
use Rattle.dts_print.proofs.node.put_further_parts.Given as goal

abbrev pub invariant-loop-part : goal.invariant-loop-part
invariant-loop-part g l =
    Put (g.S.Sink.seen l.initial.out) (g.S.Sink.seen l.out) l.initial.block l.block (flat_map (λ p. codes ", " ++ part_text p) (take l.part-index l.parts)) true
