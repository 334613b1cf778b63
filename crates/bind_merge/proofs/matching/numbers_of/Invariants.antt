use Rattle.std.proofs.Common.{◌≡◌, take}
use Rattle.bind_merge.specs.Inner.Steps.{numbers_of}
use Rattle.bind_merge.proofs.matching.numbers_of.Given as goal

abbrev pub invariant-loop-found : goal.invariant-loop-found
invariant-loop-found l = l.numbers.items ≡ numbers_of (take l.found-index l.matches)
