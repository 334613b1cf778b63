-- Slots below slots stand behind.
use Rattle.std.proofs.Common.{◌≡◌, true, rules}
use Rattle.dts_tree.specs.Inner.Grown.{kids_of}
use Rattle.dts_tree.proofs.Ordering.{rising_kids, some_kids}
use Rattle.dts_tree.proofs.left.order.Goals as goal

pub order_of-requires : goal.order_of-requires
order_of-requires c =
    let e : c.as_slice-2.result.now ≡ kids_of c.args.reader.now.arena.spots c.args.keep.now true = search rules in
    record {
      some = rw e (some_kids c.args.reader.now.arena.spots c.args.keep.now true c.requires);
      rising = rw e (rising_kids c.args.reader.now.arena.spots c.args.keep.now true c.requires);
    }
