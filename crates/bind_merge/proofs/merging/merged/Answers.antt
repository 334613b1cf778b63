use Rattle.std.proofs.Common.{◌≡◌, ◌≤◌, ◌<◌, ◌∙◌, ◌+◌, sym, ap, subst, refl, true, false, [], length, map, drop, arith}
use Rattle.std.specs.List.{list_all}
use Rattle.std.proofs.lemmas.List.{drop_all}
use Rattle.bind_load.specs.RecordSeen.{include_of}
use Rattle.bind_merge.specs.Adding.{AreTablesOf}
use Rattle.bind_merge.specs.Answering.{ClashAmong}
use Rattle.bind_merge.specs.Files.{at_level}
use Rattle.bind_merge.specs.Levels.{OwnData}
use Rattle.bind_merge.specs.Inner.Bringing.{BringsAll}
use Rattle.bind_merge.specs.Inner.Resolving.{is_ready, own_includes}
use Rattle.bind_merge.proofs.Bringing.{tables-length, all-length, going-starts, own-ready, own-next, own-stop, own-end}
use Rattle.bind_merge.proofs.MergedRecord.{merges-clash, merges-stop, merges-all}
use Rattle.bind_merge.proofs.merging.merged.Goals as goal

pub returns-in_default : goal.returns-in_default
returns-in_default c =
    let k : ClashAmong c.args.own.now = rw c.in_default.is at c.in_ok-levels.ensures in
    merges-clash c.args.names.now c.args.resolved.now c.args.own.now k

pub loop-level-init : goal.loop-level-init
loop-level-init c =
    let t : AreTablesOf c.args.own.now c.in-Some.levels.items = rw c.in-Some.is at c.in_ok-levels.ensures in
    let same : length c.in-Some.levels.items ≡ length c.args.own.now = tables-length c.args.own.now c.in-Some.levels.items t in
    record {
      at_is = refl;
      at_in = omega (arith, same);
      ready = c.requires;
      going = going-starts c.args.names.now c.args.resolved.now c.in-Some.levels.items (own_includes 0 c.args.own.now);
    }

pub merge_includes-requires-clause-at_in : goal.merge_includes-requires-clause-at_in
merge_includes-requires-clause-at_in c =
    let a : c.loop-level.at ≡ c.loop-level.level-index = c.loop-level.invariant.at_is in
    let b : length c.args.own.now ≤ length c.loop-level.levels.items = c.loop-level.invariant.at_in in
    let l : c.loop-level.level-index < length c.args.own.now = c.loop-level-test.true in
    omega (arith, a, b, l)

pub merge_includes-requires-clause-ready : goal.merge_includes-requires-clause-ready
merge_includes-requires-clause-ready c =
    let e : map include_of c.as_slice-includes.result.now ≡ c.level-item.result.includes =
    ap (map include_of) c.as_slice-includes.ensures.value ∙ ap (λ (o : OwnData). o.includes) c.level.view_is in
    let r : list_all (is_ready c.args.names.now c.args.resolved.now) (at_level c.loop-level.level-index c.level-item.result.includes) ≡ true =
    (own-ready c.args.names.now c.args.resolved.now c.args.own.now c.loop-level.level-index c.level-item.result c.loop-level-test.true c.level-item.is c.loop-level.invariant.ready).0 in
    subst (λ k. list_all (is_ready c.args.names.now c.args.resolved.now) (at_level k (map include_of c.as_slice-includes.result.now)) ≡ true) (sym c.loop-level.invariant.at_is)
    (subst (λ is. list_all (is_ready c.args.names.now c.args.resolved.now) (at_level c.loop-level.level-index is) ≡ true) (sym e) r)

pub returns-then-not-branch : goal.returns-then-not-branch
returns-then-not-branch c =
    let t : AreTablesOf c.args.own.now c.in-Some.levels.items = rw c.in-Some.is at c.in_ok-levels.ensures in
    let e : map include_of c.as_slice-includes.result.now ≡ c.level-item.result.includes =
    ap (map include_of) c.as_slice-includes.ensures.value ∙ ap (λ (o : OwnData). o.includes) c.level.view_is in
    let x : BringsAll c.args.names.now c.args.resolved.now false c.loop-level.levels.items
    (at_level c.loop-level.at (map include_of c.as_slice-includes.result.now)) c.merge_includes.new.levels.items =
    rw c.if-not-branch.true at c.in_ok-merge_includes.ensures in
    let y : BringsAll c.args.names.now c.args.resolved.now false c.loop-level.levels.items (at_level c.loop-level.level-index c.level-item.result.includes) c.merge_includes.new.levels.items =
    subst (λ is. BringsAll c.args.names.now c.args.resolved.now false c.loop-level.levels.items (at_level c.loop-level.level-index is) c.merge_includes.new.levels.items) e
    (subst (λ k. BringsAll c.args.names.now c.args.resolved.now false c.loop-level.levels.items (at_level k (map include_of c.as_slice-includes.result.now)) c.merge_includes.new.levels.items)
    c.loop-level.invariant.at_is x) in
    merges-stop c.args.names.now c.args.resolved.now c.args.own.now c.in-Some.levels.items c.merge_includes.new.levels.items t
    (own-stop c.args.names.now c.args.resolved.now c.args.own.now c.loop-level.level-index c.level-item.result c.loop-level-test.true c.level-item.is
    c.in-Some.levels.items (own_includes 0 c.args.own.now) c.loop-level.levels.items c.merge_includes.new.levels.items c.loop-level.invariant.going y)

pub loop-level-preserved : goal.loop-level-preserved
loop-level-preserved c =
    let e : map include_of c.as_slice-includes.result.now ≡ c.level-item.result.includes =
    ap (map include_of) c.as_slice-includes.ensures.value ∙ ap (λ (o : OwnData). o.includes) c.level.view_is in
    let x : BringsAll c.args.names.now c.args.resolved.now true c.loop-level.levels.items
    (at_level c.loop-level.at (map include_of c.as_slice-includes.result.now)) c.merge_includes.new.levels.items =
    rw c.if-not-branch.false at c.in_ok-merge_includes.ensures in
    let y : BringsAll c.args.names.now c.args.resolved.now true c.loop-level.levels.items (at_level c.loop-level.level-index c.level-item.result.includes) c.merge_includes.new.levels.items =
    subst (λ is. BringsAll c.args.names.now c.args.resolved.now true c.loop-level.levels.items (at_level c.loop-level.level-index is) c.merge_includes.new.levels.items) e
    (subst (λ k. BringsAll c.args.names.now c.args.resolved.now true c.loop-level.levels.items (at_level k (map include_of c.as_slice-includes.result.now)) c.merge_includes.new.levels.items)
    c.loop-level.invariant.at_is x) in
    let before : length c.args.own.now ≤ length c.loop-level.levels.items = c.loop-level.invariant.at_in in
    let longer : length c.loop-level.levels.items ≤ length c.merge_includes.new.levels.items =
    all-length c.args.names.now c.args.resolved.now true c.loop-level.levels.items (at_level c.loop-level.level-index c.level-item.result.includes) c.merge_includes.new.levels.items y refl in
    record {
      at_is = ap (λ n. n + 1) c.loop-level.invariant.at_is;
      at_in = omega (arith, before, longer);
      ready = (own-ready c.args.names.now c.args.resolved.now c.args.own.now c.loop-level.level-index c.level-item.result c.loop-level-test.true c.level-item.is c.loop-level.invariant.ready).1;
      going = own-next c.args.names.now c.args.resolved.now c.args.own.now c.loop-level.level-index c.level-item.result c.loop-level-test.true c.level-item.is
          c.in-Some.levels.items (own_includes 0 c.args.own.now) c.loop-level.levels.items c.merge_includes.new.levels.items c.loop-level.invariant.going y;
    }

pub returns : goal.returns
returns c =
    let t : AreTablesOf c.args.own.now c.in-Some.levels.items = rw c.in-Some.is at c.in_ok-levels.ensures in
    let d : drop c.loop-level.level-index c.args.own.now ≡ [] = drop_all c.loop-level.level-index c.args.own.now (omega arith) in
    merges-all c.args.names.now c.args.resolved.now c.args.own.now c.in-Some.levels.items c.loop-level.levels.items t
    (own-end c.args.names.now c.args.resolved.now c.loop-level.level-index (drop c.loop-level.level-index c.args.own.now)
    c.in-Some.levels.items (own_includes 0 c.args.own.now) c.loop-level.levels.items d c.loop-level.invariant.going)
