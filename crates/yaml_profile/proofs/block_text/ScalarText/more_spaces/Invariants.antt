use Rattle.std.proofs.Common.{◌≡◌, ◌-◌}
use Rattle.yaml_profile.specs.BlockText.{more_spaces}
use Rattle.yaml_profile.proofs.block_text.ScalarText.more_spaces.Given as goal

abbrev pub invariant-loop : goal.invariant-loop
invariant-loop l = more_spaces l.self (l.count - l.counter) ≡ more_spaces l.initial.self l.count
