use Rattle.std.proofs.Common.{◌+◌, ◌-◌, ◌∙◌, sym, ap}
use Rattle.yaml_profile.specs.BlockText.{BlockText, more_spaces}
use Rattle.yaml_profile.proofs.BlockTextLaws.{more_left}
use Rattle.yaml_profile.proofs.block_text.ScalarText.more_spaces.Goals as goal

pub loop-preserved : goal.loop-preserved
loop-preserved c =
    ap (λ (b : BlockText). more_spaces b (c.args.count - (c.loop.counter + 1))) c.in_ok-go_on.ensures
    ∙ (sym (more_left c.loop.self c.args.count c.loop.counter c.loop-test.true) ∙ c.loop.invariant)
