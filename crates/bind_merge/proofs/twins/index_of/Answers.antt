use Rattle.std.proofs.Common.{refl, sym}
use Rattle.bind_merge.specs.declared.index.Index.{Index}
use Rattle.bind_merge.proofs.Gone.{got}
use Rattle.bind_merge.proofs.Matched.{string_at}
use Rattle.bind_merge.proofs.Twinned.{indexed_more, twin_end}
use Rattle.bind_merge.proofs.twins.index_of.Goals as goal

pub add_match-requires : goal.add_match-requires
add_match-requires c =
    string_at c.args.files.now c.args.matches.now c.loop-found.found-index c.found-item.result
    (got c.args.matches.now c.loop-found.found-index c.loop-found.found-index c.found-item.result refl c.loop-found-test.true c.found-item.is) c.requires

pub returns-in-Err-clause-fault : goal.returns-in-Err-clause-fault
returns-in-Err-clause-fault c =
    twin_end c.args.files.now c.args.resolved.now c.args.matches.now c.loop-found.found-index c.found-item.result c.loop-found-test.true (sym c.found-item.is) c.requires c.loop-found.index.groups.entries c.add_match.new.index.groups.entries
    c.loop-found.invariant.0 c.loop-found.invariant.1 Index c.in-Err.end c.in-Err.ensures.taken c.in-Err.ensures.fault

pub loop-found-preserved : goal.loop-found-preserved
loop-found-preserved c =
    indexed_more c.args.files.now c.args.resolved.now c.args.matches.now c.loop-found.found-index c.found-item.result c.loop-found-test.true (sym c.found-item.is) c.requires c.loop-found.index.groups.entries c.add_match.new.index.groups.entries
    c.loop-found.invariant.0 c.loop-found.invariant.1 c.in-Ok.ensures.free c.in-Ok.ensures.added
