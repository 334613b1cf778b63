use Rattle.std.proofs.Common.{◌∷◌, ◌++◌, ◌+◌, [], List, ℕ, ◌∙◌, sym, ap, append_assoc, drop, string_bytes}
use Rattle.yaml_profile.specs.BlockText.{feed_each}
use Rattle.yaml_profile.proofs.BlockTextLaws.{feed_drop}
use Rattle.yaml_profile.proofs.block_text.feed_each.Goals as goal

pub loop-preserved : goal.loop-preserved
loop-preserved c =
    let e = feed_drop c.args.leading.now c.loop.index c.loop-test.true in
    let a = append_assoc (string_bytes c.loop.text) (10 ∷ []) (feed_each (drop (c.loop.index + 1) c.args.leading.now)) in
    let r = ap (λ (b : List ℕ). b ++ feed_each (drop (c.loop.index + 1) c.args.leading.now)) c.in_ok-push_str.ensures.bytes in
    r ∙ (a ∙ (ap (λ ys. string_bytes c.loop.text ++ ys) (sym e) ∙ c.loop.invariant))
