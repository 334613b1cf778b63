use Rattle.std.proofs.Common.{refl, length, arith}
use Rattle.std.proofs.lemmas.Option.{slice_get_read}
use Rattle.dts_tree.proofs.values.all_props.Goals as goal

pub props_of-requires : goal.props_of-requires
props_of-requires c = c.requires.props_apart c.loop-place.place c.index-drafts-place.result (slice_get_read c.args.drafts.now (length c.args.drafts.now) c.loop-place.place c.index-drafts-place.result refl (omega arith) c.index-drafts-place.is)
