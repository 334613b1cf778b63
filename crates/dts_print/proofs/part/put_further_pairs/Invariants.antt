use Rattle.std.proofs.Common.{codes, ◌++◌, take, true}
use Rattle.std.specs.List.{flat_map}
use Rattle.dts_print.specs.Printed.{pair_text}
use Rattle.edt_base.specs.Put.{Put}
use Rattle.dts_print.proofs.part.put_further_pairs.Given as goal

abbrev pub invariant-loop-byte : goal.invariant-loop-byte
invariant-loop-byte g l =
    Put (g.S.Sink.seen l.initial.out) (g.S.Sink.seen l.out) l.initial.block l.block (flat_map (λ b. codes " " ++ pair_text b) (take l.byte-index l.bytes)) true
