use Rattle.std.proofs.Common.{◌≡◌, map, option_map}
use Rattle.std.specs.List.{range_with_len}
use Rattle.pha_nexus.specs.Matching.{Bus, match_at}
use Rattle.edt_bound.proofs.matching.matches.Given as goal

abbrev pub invariant-loop-place : goal.invariant-loop-place
invariant-loop-place l = (l.found.items ≡ map (match_at l.t.nodes l.lib) (range_with_len 0 l.place))
    × (l.of.items ≡ map (λ id. (match_at l.t.nodes l.lib id).binding) (range_with_len 0 l.place))
    × (l.bus.items ≡ map (λ id. option_map (λ (b : Bus). b.node) (match_at l.t.nodes l.lib id).bus) (range_with_len 0 l.place))
