-- The typed properties of a node, by its merged binding.
use Rattle.std.specs.Prelude.{ℕ, List, Result, option_map}
use Rattle.edt_base.specs.NodeData.{NodeData}
use Rattle.edt_base.specs.PropData.{PropData}
use Rattle.edt_base.specs.declared.fault.Rule.{Rule}
use Rattle.bind_merge.specs.LibraryData.{LibData}
use Rattle.pha_nexus.specs.Matching.{binding_at}
use Rattle.prop_types.specs.Declaring.{declared_in}
use Rattle.prop_types.specs.Typing.{typed_of}

-- what is asked of the node at a place: its typed properties, in which a phandle-array has no entries, or the first
-- rule that is broken
abbrev pub typed_at : List NodeData → LibData → ℕ → Result (List PropData) Rule
typed_at nodes lib id = typed_of nodes id (option_map declared_in (binding_at nodes lib id))
