-- What is kept, from what was gathered.
use Rattle.std.proofs.Common.{◌≡◌, true, false, IfOk, length, replicate, subst, rules}
use Rattle.dts_tree.specs.Inner.Grown.{kids_of, order_of, stays_list, wanted_from}
use Rattle.dts_tree.proofs.Leaving.{kept_made}
use Rattle.dts_tree.proofs.left.kept.Goals as goal

pub returns : goal.returns
returns c =
    let none : c.in_ok-wanted.wanted.items ≡ replicate (length c.args.known.now.finder.arena.spots) false = search rules in
    let wanted : c.want_nodes.new.marks.items ≡ wanted_from c.args.known.now.finder c.args.known.now.grown c.args.known.now.props.items c.in_ok-wanted.wanted.items c.args.whole.now = search rules in
    let stay : c.in_ok-staying.staying.items ≡ stays_list c.args.keep.now c.args.known.now.grown.marks c.want_nodes.new.marks.items = search rules in
    let kept : c.as_slice-3.result.now ≡ order_of (kids_of c.args.known.now.finder.arena.spots c.in_ok-staying.staying.items true) = search rules in
    subst (λ x. IfOk c.drafts.result (λ v. v.items ≡ x))
    (kept_made c.args.known.now.finder c.args.known.now.grown c.args.known.now.props.items c.args.keep.now c.in_ok-wanted.wanted.items c.want_nodes.new.marks.items c.in_ok-staying.staying.items
    c.args.whole.now c.as_slice-3.result.now c.requires.grown c.requires.props c.requires.keep c.requires.whole none wanted stay kept) c.drafts.ensures
