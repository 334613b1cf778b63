use Rattle.std.proofs.Common.{◌∙◌, ap, sym, length}
use Rattle.dts_tree.specs.Final.{all_props}
use Rattle.dts_tree.proofs.Settling.{props_long}
use Rattle.dts_tree.proofs.finish.numbered.Goals as goal

pub first_mistyped-requires : goal.first_mistyped-requires
first_mistyped-requires c =
    ap length c.as_slice-5.ensures.value
    ∙ (ap length c.in_ok-all.ensures
    ∙ (ap (λ ds. length (all_props ds)) c.as_slice.ensures.value
    ∙ (props_long c.args.drafts.items ∙ ap length (sym c.as_slice-4.ensures.value))))
