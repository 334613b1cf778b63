-- What a library keeps of a load.
use Rattle.std.specs.Prelude.{List, [], Option, Some, None}
use Rattle.bind_merge.specs.LibraryData.{BindingData}
use Rattle.bind_merge.specs.Listing.{File, read_files}
use Rattle.bind_merge.specs.Loading.{AreSound}
use Rattle.bind_merge.specs.declared.library.Loaded.{Loaded}
use Rattle.bind_merge.specs.Inner.Indexing.{IsIndexOf}
use Rattle.bind_merge.specs.Inner.Steps.{bindings_at}

abbrev pub bindings_in : Option Loaded → List BindingData
bindings_in None = []
bindings_in (Some l) = bindings_at l.resolved.items l.bindings.items

-- the bindings are without fault, and the index finds them
abbrev pub IsKept : List File → Option Loaded → Type 0
IsKept files None = Unit {0}
IsKept files (Some l) = AreSound (read_files files) (bindings_at l.resolved.items l.bindings.items)
    × IsIndexOf files (bindings_at l.resolved.items l.bindings.items) l.index.groups.entries
