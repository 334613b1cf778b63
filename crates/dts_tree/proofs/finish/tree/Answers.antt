use Rattle.std.proofs.Common.{◌≡◌, List, length, map, subst}
use Rattle.std.specs.List.{range_with_len}
use Rattle.edt_base.specs.TreeData.{TreeData}
use Rattle.dts_tree.specs.Drafts.{DraftData}
use Rattle.dts_tree.specs.Final.{below_from, tree_of}
use Rattle.dts_tree.proofs.Settling.{low_parents, tree_made, tree_formed, same_ok}
use Rattle.dts_tree.proofs.finish.tree.Goals as goal

pub nodes-requires : goal.nodes-requires
nodes-requires c = low_parents c.args.drafts.items c.requires.numbered.drafts

pub new-requires : goal.new-requires
new-requires c =
    let K : List DraftData → Type 0 = λ ds. c.in_ok-children.children.items ≡ map (below_from 0 ds) (range_with_len 0 (length ds)) in
    let kids : K c.args.drafts.items = subst K c.as_slice.ensures.value c.in_ok-children.ensures in
    let t : TreeData = record { nodes = c.in_ok-nodes.nodes.items; aliases = c.args.names.aliases.items; chosen = c.args.names.chosen.items } in
    tree_formed c.args.drafts.items t c.requires.numbered
    (tree_made c.args.drafts.items c.args.all.items c.in_ok-children.children.items c.in_ok-nodes.nodes.items c.args.names.aliases.items c.args.names.chosen.items
    c.requires.props kids c.in_ok-nodes.ensures c.requires.aliases c.requires.chosen)

pub returns : goal.returns
returns c =
    let K : List DraftData → Type 0 = λ ds. c.in_ok-children.children.items ≡ map (below_from 0 ds) (range_with_len 0 (length ds)) in
    let kids : K c.args.drafts.items = subst K c.as_slice.ensures.value c.in_ok-children.ensures in
    let t : TreeData = record { nodes = c.in_ok-nodes.nodes.items; aliases = c.args.names.aliases.items; chosen = c.args.names.chosen.items } in
    same_ok c.new.result t (tree_of c.args.drafts.items) c.new.ensures
    (tree_made c.args.drafts.items c.args.all.items c.in_ok-children.children.items c.in_ok-nodes.nodes.items c.args.names.aliases.items c.args.names.chosen.items
    c.requires.props kids c.in_ok-nodes.ensures c.requires.aliases c.requires.chosen)
