use Rattle.std.proofs.Common.{◌≡◌, sym, []}
use Rattle.dt_names.specs.Inner.Parts.{base_left, props_left}
use Rattle.dt_names.proofs.Stepped.{tree_last, past_props}
use Rattle.dt_names.proofs.sections.last_section.Goals as goal

pub returns : goal.returns
returns c =
    let none : props_left c.args.left.bound.now.tree.nodes c.args.left.node ≡ [] = past_props c.args.left.bound.now.tree.nodes c.args.left.node c.requires.past in
    record {
      first = tree_last c.args.left.bound.now c.args.left.index c.args.left.tree _ c.of_tree-section.result.rows none c.requires.none c.requires.tree c.of_tree-section.ensures.rows;
      base = sym (c.of_tree-section.ensures.base (base_left c.args.left));
      based = c.of_tree-section.ensures.based;
      own = c.of_tree-section.ensures.own;
      going = c.of_tree-section.ensures.going;
    }
