use Rattle.std.proofs.Common.{◌≡◌, drop}
use Rattle.dts_tree.specs.Inner.Grown.{lens_from, lens_of}
use Rattle.dts_tree.proofs.names.path_lens.Given as goal

abbrev pub invariant-loop-spot : goal.invariant-loop-spot
invariant-loop-spot l = lens_from l.lens.items (drop l.spot-index l.spots) ≡ lens_of l.spots
