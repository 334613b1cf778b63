use Rattle.std.proofs.Common.{◌≡◌, vec_len}
use Rattle.std.specs.Prelude.{reverse}
use Rattle.dts_parse.specs.Inner.Machine.{climbed}
use Rattle.dts_parse.proofs.frames.climb.Given as goal

abbrev pub invariant-loop-frame : goal.invariant-loop-frame
invariant-loop-frame l = climbed l.level (reverse l.frames.items) l.worth ≡ climbed l.level (reverse l.fn.frames.items) l.fn.worth

abbrev pub decreases-loop-frame : goal.decreases-loop-frame
decreases-loop-frame l = vec_len l.frames
