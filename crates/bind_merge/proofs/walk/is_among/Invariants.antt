use Rattle.std.proofs.Common.{◌≡◌, drop, nat_eq}
use Rattle.std.specs.List.{list_any}
use Rattle.bind_merge.proofs.walk.is_among.Given as goal

abbrev pub invariant-loop-at : goal.invariant-loop-at
invariant-loop-at l = list_any (λ k. nat_eq k l.file) l.path ≡ list_any (λ k. nat_eq k l.file) (drop l.at-index l.path)
