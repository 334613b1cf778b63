-- Why the statements of a source weren't carried out, as the end of a call. No part of what is promised.
use Rattle.std.specs.Prelude.{◌≡◌, ℕ, List}
use Rattle.edt_base.specs.declared.fault.End.{End}
use Rattle.edt_base.specs.declared.fault.End.TheVariants as ending
use Rattle.dts_tree.specs.declared.stop.Stop.{Stop}
use Rattle.dts_tree.specs.declared.stop.Stop.TheVariants as stop
use Rattle.dts_tree.specs.References.{unnamed_fault, IsFault}

abbrev pub EndsAs : List (List ℕ) → ℕ → Stop → End → Type 0
EndsAs files source (stop.Unnamed at) end = IsFault (unnamed_fault files source at) end
EndsAs files source (stop.Memory e) end = end ≡ ending.Memory e
