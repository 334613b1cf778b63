use Rattle.std.proofs.Common.{take, true}
use Rattle.std.specs.List.{flat_map}
use Rattle.dts_print.specs.Printed.{label_text}
use Rattle.edt_base.specs.Put.{Put}
use Rattle.dts_print.proofs.node.put_labels.Given as goal

abbrev pub invariant-loop-label : goal.invariant-loop-label
invariant-loop-label g l =
    Put (g.S.Sink.seen l.initial.out) (g.S.Sink.seen l.out) l.initial.block l.block (flat_map label_text (take l.label-index l.labels)) true
