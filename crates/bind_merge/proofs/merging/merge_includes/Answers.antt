use Rattle.std.proofs.Common.{◌≡◌, ◌⊎◌, ◌≤◌, [], length, map, drop, arith}
use Rattle.std.proofs.lemmas.List.{drop_all}
use Rattle.bind_load.specs.RecordSeen.{include_of}
use Rattle.bind_merge.specs.Files.{at_level}
use Rattle.bind_merge.specs.Inner.Bringing.{Brings, IsSpoiled, Collides}
use Rattle.bind_merge.proofs.Bringing.{going-starts, brings-length, includes-ready, includes-next, includes-stop, includes-end}
use Rattle.bind_merge.proofs.merging.merge_includes.Goals as goal

pub loop-included-init : goal.loop-included-init
loop-included-init c = record {
  at_in = c.requires.at_in;
  ready = c.requires.ready;
  going = going-starts c.args.names.now c.args.resolved.now c.args.levels.now.items (at_level c.args.at (map include_of c.args.includes.now));
}

pub merge_include-requires-clause-ready : goal.merge_include-requires-clause-ready
merge_include-requires-clause-ready c =
    (includes-ready c.args.names.now c.args.resolved.now include_of c.args.at c.args.includes.now c.loop-included.included-index c.included-item.result
    c.loop-included-test.true c.included-item.is c.loop-included.invariant.ready).0

pub returns-then-not-branch : goal.returns-then-not-branch
returns-then-not-branch c =
    let x : IsSpoiled c.args.names.now c.args.resolved.now (c.args.at, include_of c.included-item.result)
    ⊎ Collides c.args.names.now c.args.resolved.now c.loop-included.levels.items (c.args.at, include_of c.included-item.result) =
    rw c.if-not-branch.true at c.in_ok-merge_include.ensures in
    includes-stop c.args.names.now c.args.resolved.now include_of c.args.at c.args.includes.now c.loop-included.included-index c.included-item.result
    c.loop-included-test.true c.included-item.is c.args.levels.now.items (at_level c.args.at (map include_of c.args.includes.now))
    c.loop-included.levels.items c.merge_include.new.levels.items c.loop-included.invariant.going x

pub loop-included-preserved : goal.loop-included-preserved
loop-included-preserved c =
    let x : Brings c.args.names.now c.args.resolved.now c.loop-included.levels.items (c.args.at, include_of c.included-item.result) c.merge_include.new.levels.items =
    rw c.if-not-branch.false at c.in_ok-merge_include.ensures in
    let before : c.args.at ≤ length c.loop-included.levels.items = c.loop-included.invariant.at_in in
    let longer : length c.loop-included.levels.items ≤ length c.merge_include.new.levels.items =
    brings-length c.args.names.now c.args.resolved.now c.loop-included.levels.items (c.args.at, include_of c.included-item.result) c.merge_include.new.levels.items x in
    record {
      at_in = omega (arith, before, longer);
      ready = (includes-ready c.args.names.now c.args.resolved.now include_of c.args.at c.args.includes.now c.loop-included.included-index c.included-item.result
          c.loop-included-test.true c.included-item.is c.loop-included.invariant.ready).1;
      going = includes-next c.args.names.now c.args.resolved.now include_of c.args.at c.args.includes.now c.loop-included.included-index c.included-item.result
          c.loop-included-test.true c.included-item.is c.args.levels.now.items (at_level c.args.at (map include_of c.args.includes.now))
          c.loop-included.levels.items c.merge_include.new.levels.items c.loop-included.invariant.going x;
    }

pub returns : goal.returns
returns c =
    let d : drop c.loop-included.included-index c.args.includes.now ≡ [] = drop_all c.loop-included.included-index c.args.includes.now (omega arith) in
    includes-end c.args.names.now c.args.resolved.now include_of c.args.at (drop c.loop-included.included-index c.args.includes.now)
    c.args.levels.now.items (at_level c.args.at (map include_of c.args.includes.now)) c.loop-included.levels.items d c.loop-included.invariant.going
