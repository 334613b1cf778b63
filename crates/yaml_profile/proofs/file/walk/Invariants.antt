use Rattle.std.proofs.Common.{◌≡◌, length}
use Rattle.yaml_profile.specs.Reading.{at_start, walk}
use Rattle.yaml_profile.specs.Inner.Shown.{shown}
use Rattle.yaml_profile.proofs.file.walk.Given as goal

abbrev pub invariant-loop-here : goal.invariant-loop-here
invariant-loop-here l = walk (shown l.reader) l.source.at l.source.chars ≡ walk at_start l.initial.source.at l.initial.source.chars

abbrev pub decreases-loop-here : goal.decreases-loop-here
decreases-loop-here l = length l.source.chars
