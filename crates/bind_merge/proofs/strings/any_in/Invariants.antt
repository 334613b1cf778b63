use Rattle.std.proofs.Common.{◌≡◌, drop}
use Rattle.std.specs.List.{list_any}
use Rattle.bind_merge.specs.Loading.{is_within}
use Rattle.bind_merge.proofs.strings.any_in.Given as goal

abbrev pub invariant-loop-finder : goal.invariant-loop-finder
invariant-loop-finder l = list_any (is_within l.bytes) l.finders ≡ list_any (is_within l.bytes) (drop l.finder-index l.finders)
