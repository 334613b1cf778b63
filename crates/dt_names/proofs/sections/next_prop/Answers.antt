use Rattle.std.proofs.Common.{sym, ◌∙◌}
use Rattle.dt_names.specs.Inner.Parts.{base_left}
use Rattle.dt_names.proofs.Stepped.{prop_first, prop_base}
use Rattle.dt_names.proofs.sections.next_prop.Goals as goal

pub returns : goal.returns
returns c = record {
  first = prop_first c.args.left.bound.now.tree.nodes c.args.left.node c.args.prop.now c.args.node c.on_prop-section.result.rows _ c.requires c.on_prop-section.ensures.rows;
  base = sym (c.on_prop-section.ensures.base (base_left c.args.left) ∙ prop_base c.args.left.bound.now.tree.nodes c.args.left.node c.args.prop.now c.args.node c.requires);
  based = c.on_prop-section.ensures.based;
  own = c.on_prop-section.ensures.own;
  going = c.on_prop-section.ensures.going;
}
