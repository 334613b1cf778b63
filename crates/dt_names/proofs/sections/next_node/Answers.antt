use Rattle.std.proofs.Common.{◌≡◌, sym, []}
use Rattle.dt_names.specs.Inner.Parts.{base_left, props_left}
use Rattle.dt_names.proofs.Stepped.{node_first, past_props}
use Rattle.dt_names.proofs.sections.next_node.Goals as goal

pub returns : goal.returns
returns c =
    let none : props_left c.args.left.bound.now.tree.nodes c.args.left.node ≡ [] = past_props c.args.left.bound.now.tree.nodes c.args.left.node c.requires.past in
    record {
      first = node_first c.args.left.bound.now c.args.left.index c.args.node.now _ _ c.before_props-section.result.rows c.props_at-props.result.now none c.requires.stands c.before_props-section.ensures.rows c.props_at-props.ensures;
      base = sym (c.before_props-section.ensures.base (base_left c.args.left));
      based = c.before_props-section.ensures.based;
      own = c.before_props-section.ensures.own;
      going = c.before_props-section.ensures.going;
    }
