use Rattle.std.proofs.Common.{◌≡◌, length}
use Rattle.edt_base.specs.YamlData.{value_of}
use Rattle.yaml_profile.specs.Fronts.{all_closed}
use Rattle.yaml_profile.specs.Inner.Shown.{frames_of}
use Rattle.yaml_profile.proofs.file.close_all.Given as goal

abbrev pub invariant-loop-frame : goal.invariant-loop-frame
invariant-loop-frame l = all_closed (frames_of l.frames.items) (value_of l.value) ≡ all_closed (frames_of l.initial.frames.items) (value_of l.initial.value)

abbrev pub decreases-loop-frame : goal.decreases-loop-frame
decreases-loop-frame l = length l.frames.items
