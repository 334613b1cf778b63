-- The levels of a filter, from one on.
use Rattle.std.specs.Prelude.{List, [], Option, Some, None}
use Rattle.std.specs.Borrow.{Bor}
use Rattle.bind_load.specs.RecordData.{FilterLevel}
use Rattle.bind_load.specs.RecordSeen.{filter_of}
use Rattle.bind_load.specs.declared.record.Filter.{Filter}

abbrev pub filters_of : Option (Bor Filter) → List FilterLevel
filters_of None = []
filters_of (Some f) = filter_of f.now
