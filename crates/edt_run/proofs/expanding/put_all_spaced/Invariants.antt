use Rattle.std.proofs.Common.{take, true}
use Rattle.std.specs.List.{flat_map}
use Rattle.c_tokens.specs.Shown.{with_space}
use Rattle.edt_base.specs.Put.{Put}
use Rattle.edt_run.proofs.expanding.put_all_spaced.Given as goal

abbrev pub invariant-loop-tok : goal.invariant-loop-tok
invariant-loop-tok g l =
    Put (g.S.Sink.seen l.initial.out) (g.S.Sink.seen l.out) l.initial.block l.block
    (flat_map with_space (take l.tok-index l.toks)) true
