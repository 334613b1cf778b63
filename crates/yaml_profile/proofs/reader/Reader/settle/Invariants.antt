use Rattle.std.proofs.Common.{◌≡◌, length}
use Rattle.edt_base.specs.YamlData.{value_of}
use Rattle.yaml_profile.specs.Layout.{settle}
use Rattle.yaml_profile.specs.Inner.Shown.{frames_of}
use Rattle.yaml_profile.proofs.reader.Reader.settle.Given as goal

abbrev pub invariant-loop-frame : goal.invariant-loop-frame
invariant-loop-frame l =
    settle (frames_of l.self.frames.items) (value_of l.value) l.start l.here.at l.here.c l.rest
    ≡ settle (frames_of l.initial.self.frames.items) (value_of l.initial.value) l.start l.here.at l.here.c l.rest

abbrev pub decreases-loop-frame : goal.decreases-loop-frame
decreases-loop-frame l = length l.self.frames.items
