use Rattle.std.proofs.Common.{◌≡◌, ◌∙◌, ℕ, List, sym, ap, cond, Some, None, rules}
use Rattle.std.specs.Option.{option_or}
use Rattle.std.specs.Str.{bytes_eq}
use Rattle.dts_tree.specs.Inner.Naming.{finder}
use Rattle.dts_tree.proofs.PathLaws.{node_at_more}
use Rattle.dts_tree.proofs.named.paths_of.Goals as goal

pub loop-place-preserved : goal.loop-place-preserved
loop-place-preserved c = λ q.
    let d = c.index-drafts-place.result in
    let e : c.as_bytes.result.now ≡ d.path = first_of (search rules, cc) in
    let m = node_at_more c.args.drafts.now c.loop-place.place d q c.loop-place-test.true c.index-drafts-place.is in
    c.in_ok-note.ensures q
    ∙ (ap (λ p. option_or (finder c.loop-place.paths q) (cond (bytes_eq p q) (Some c.loop-place.place) None)) e
    ∙ (ap (λ o. option_or o (cond (bytes_eq d.path q) (Some c.loop-place.place) None)) (c.loop-place.invariant q) ∙ sym m))
