use Rattle.std.proofs.Common.{length}
use Rattle.edt_base.proofs.WriteLaws.{SoFar}
use Rattle.edt_base.proofs.outside.write_text.Given as goal

abbrev pub invariant-loop-rest : goal.invariant-loop-rest
invariant-loop-rest g l = SoFar (g.S.Sink.seen l.initial.out) (g.S.Sink.seen l.out) l.text l.rest

abbrev pub decreases-loop-rest : goal.decreases-loop-rest
decreases-loop-rest g l = length l.rest
