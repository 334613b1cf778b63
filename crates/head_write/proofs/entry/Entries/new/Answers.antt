use Rattle.std.proofs.Common.{◌∙◌, ap}
use Rattle.edt_base.specs.BoundData.{BoundData}
use Rattle.head_write.proofs.Doubles.{entries_are}
use Rattle.head_write.proofs.entry.Entries.new.Goals as goal

pub returns : goal.returns
returns c =
    entries_are c.args.bound.now _ _ (c.as_slice.ensures.value ∙ ap (λ (b : BoundData). b.doubles) c.bound.view_is) c.new.ensures
