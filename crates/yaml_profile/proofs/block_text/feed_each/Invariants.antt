use Rattle.std.proofs.Common.{◌≡◌, ◌++◌, drop, string_bytes}
use Rattle.yaml_profile.specs.BlockText.{feed_each}
use Rattle.yaml_profile.proofs.block_text.feed_each.Given as goal

abbrev pub invariant-loop : goal.invariant-loop
invariant-loop l = string_bytes l.text ++ feed_each (drop l.index l.leading) ≡ string_bytes l.initial.text ++ feed_each l.leading
