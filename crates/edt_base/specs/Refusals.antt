-- How a rule that a node breaks is told.
use Rattle.std.specs.Prelude.{◌≡◌, ℕ, List, Result, Err, ⊤}
use Rattle.edt_base.specs.declared.fault.End.{End}
use Rattle.edt_base.specs.declared.fault.End.TheVariants as ending
use Rattle.edt_base.specs.declared.fault.Place.TheVariants as place
use Rattle.edt_base.specs.declared.fault.Rule.{Rule}
use Rattle.edt_base.specs.declared.stop.Stop.{Stop}
use Rattle.edt_base.specs.declared.stop.Stop.TheVariants as stop

-- what is told where this rule is broken at the node of this path: the rule at the path, or that memory was wanted
abbrev pub IsFaultAt : Rule → List ℕ → End → Type 0
IsFaultAt r path (ending.Fault f) = (f.rule ≡ r) × (f.place ≡ place.Node path)
IsFaultAt r path (ending.Memory e) = ⊤

-- where an answer is a rule that is broken, or what was asked for: why it isn't what was asked for, told at the node of
-- this path
abbrev pub IsRefused : {X : Type 0} → Result X Rule → List ℕ → End → Type 0
IsRefused answer path (ending.Fault f) = (answer ≡ Err f.rule) × (f.place ≡ place.Node path)
IsRefused answer path (ending.Memory e) = ⊤

-- the same before the place is told
abbrev pub IsStop : {X : Type 0} → Result X Rule → Stop → Type 0
IsStop answer (stop.Broken r) = answer ≡ Err r
IsStop answer (stop.Memory e) = ⊤

-- what is told of a stop
abbrev pub IsToldAs : Stop → List ℕ → End → Type 0
IsToldAs (stop.Broken r) path end = IsFaultAt r path end
IsToldAs (stop.Memory e) path (ending.Fault f) = ⊥
IsToldAs (stop.Memory e) path (ending.Memory d) = ⊤
