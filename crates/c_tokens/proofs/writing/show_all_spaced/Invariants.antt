use Rattle.std.proofs.Common.{take, true}
use Rattle.std.specs.List.{flat_map}
use Rattle.edt_base.specs.Outside.{Wrote}
use Rattle.c_tokens.specs.Shown.{with_space}
use Rattle.c_tokens.proofs.writing.show_all_spaced.Given as goal

abbrev pub invariant-loop-tok : goal.invariant-loop-tok
invariant-loop-tok g l = Wrote (g.S.Sink.seen l.initial.out) (g.S.Sink.seen l.out) (flat_map with_space (take l.tok-index l.toks)) true
