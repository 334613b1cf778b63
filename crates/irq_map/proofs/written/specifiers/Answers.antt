use Rattle.std.proofs.Common.{rules, ◌≡◌, ◌∙◌, ◌<◌, ◌++◌, ◌∷◌, [], ℕ, List, ap, drop, length, min, take}
use Rattle.std.proofs.lemmas.List.{drop_min, take_min}
use Rattle.pha_nexus.specs.Passing.{Hop}
use Rattle.reg_ranges.proofs.EntryLaws.{read_more}
use Rattle.irq_map.specs.Written.{first_at}
use Rattle.irq_map.proofs.WrittenLaws.{all_more}
use Rattle.irq_map.proofs.written.specifiers.Goals as goal

pub loop-left-preserved : goal.loop-left-preserved
loop-left-preserved c =
    let left : List ℕ = c.loop-left.left.now in
    let spec : List ℕ = c.in_ok-from_slice.field-0.items in
    let at_node : List ℕ → Hop = λ cells. record { node = c.args.node; spec = cells } in
    let hop : Hop = record { node = c.args.node; spec = spec } in
    let more : 0 < length left = search rules in
    let some : 0 < c.args.width = c.loop-left.invariant.0 more in
    let count : c.min.result ≡ min c.args.width (length left) = search rules in
    let taken : spec ≡ take c.min.result left = c.in_ok-from_slice.ensures.items ∙ c.split_at.ensures.front in
    let first : spec ≡ take c.args.width left = taken ∙ (ap (λ (n : ℕ). take n left) count ∙ take_min c.args.width left) in
    let is : hop ≡ first_at c.args.node c.args.width left = ap at_node first in
    let rest : c.split_at.result.1.now ≡ drop c.args.width left = c.split_at.ensures.back ∙ (ap (λ (n : ℕ). drop n left) count ∙ drop_min c.args.width left) in
    let pushed : c.push.new.self.items ≡ c.loop-left.specs.items ++ hop ∷ [] = c.in_ok-push.ensures.items in (
      λ l. some,
      read_more (first_at c.args.node c.args.width) c.args.width left c.split_at.result.1.now hop c.loop-left.specs.items _ c.push.new.self.items some more is rest pushed c.loop-left.invariant.1,
      all_more (length c.args.t.now.nodes) c.loop-left.specs.items c.push.new.self.items hop c.loop-left.invariant.2 c.requires.there pushed,
    )
