-- What a slot is.
use Rattle.std.specs.Prelude.{Bool, true, false}
use Rattle.dts_tree.specs.declared.spot.Step.{Step}
use Rattle.dts_tree.specs.declared.spot.Step.TheVariants.{Child, Prop}
use Rattle.dts_tree.specs.declared.spot.Spot.{Spot}

abbrev pub is_node_step : Step → Bool
is_node_step (Child n) = true
is_node_step (Prop n) = false

-- a slot of a node
abbrev pub is_node : Spot → Bool
is_node s = is_node_step s.step
