use Rattle.std.proofs.Common.{◌≡◌, drop}
use Rattle.yaml_profile.specs.BlockText.{lead_in}
use Rattle.yaml_profile.proofs.block_text.ScalarText.lead_in.Given as goal

abbrev pub invariant-loop-spaces : goal.invariant-loop-spaces
invariant-loop-spaces l = lead_in l.self l.indent (drop l.spaces-index l.leading) ≡ lead_in l.initial.self l.indent l.leading
