use Rattle.std.proofs.Common.{length}
use Rattle.yaml_profile.proofs.front.+is_deeper.Given as goal

abbrev pub decreases-is_deeper : goal.decreases-is_deeper
decreases-is_deeper l = length l.frames.now
