use Rattle.std.proofs.Common.{◌∙◌, ℕ, codes, sym}
use Rattle.edt_base.specs.Nodes.{prop_at}
use Rattle.irq_map.proofs.WrittenLaws.{found_above}
use Rattle.irq_map.proofs.written.interrupt_parent.Goals as goal

pub loop-value-preserved : goal.loop-value-preserved
loop-value-preserved c = (
  c.in_ok-at.ensures.there,
  sym (found_above (λ (at : ℕ). prop_at c.args.t.now.nodes at (codes "interrupt-parent")) c.args.t.now c.loop-value.at c.in_ok-at.at c.is_well_formed.ensures
      (sym c.in_default.ensures) (sym c.in_ok-at.ensures.parent))
      ∙ c.loop-value.invariant.1,
)
