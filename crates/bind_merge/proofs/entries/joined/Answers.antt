use Rattle.std.proofs.Common.{◌≡◌, ◌+◌, ◌++◌, ◌∙◌, sym, ap, subst, drop, [], ◌∷◌, arith}
use Rattle.std.specs.Cmp.Lexicographic.{slice_cmp}
use Rattle.std.specs.Ordering.{nat_cmp}
use Rattle.std.specs.declared.cmp.Ordering.TheVariants.{Less, Equal, Greater}
use Rattle.bind_merge.specs.Joining.{Joins, joined}
use Rattle.bind_merge.proofs.JoinSteps.{Goes, at-left, at-right, at-both, at-clash, no-left, no-right, tail-is}
use Rattle.bind_merge.proofs.entries.joined.Goals as goal
use Rattle.bind_merge.proofs.entries.joined.Goals.{then-loop-i-test+else-j-b, else-loop-i-test}

pub loop-i-preserved-in-Less : goal.loop-i-preserved-in-Less
loop-i-preserved-in-Less c =
    let x1 : c.name.result.now ≡ c.index-a-i.result.name = c.name.ensures in
    let x2 : c.name-in-loop-i.result.now ≡ c.index-b-j.result.name = c.name-in-loop-i.ensures in
    let x3 : c.cmp.result ≡ slice_cmp nat_cmp c.name.result.now c.name-in-loop-i.result.now = c.cmp.ensures in
    let x4 : c.cmp.result ≡ Less = c.in-Less.is in
    let order : slice_cmp nat_cmp c.index-a-i.result.name c.index-b-j.result.name ≡ Less = cc in
    let out : c.push.new.self.items ≡ c.loop-i.out.items ++ c.index-a-i.result ∷ [] =
    c.in_ok-push-in-Less.ensures.items ∙ ap (λ z. c.loop-i.out.items ++ z ∷ []) c.in_ok-share-in-Less.ensures in
    record {
      i_in = omega arith;
      j_in = c.loop-i.invariant.j_in;
      goes = subst (λ r. Goes c.args.a.now c.args.b.now (drop (c.loop-i.i + 1) c.args.a.now) (drop c.loop-i.j c.args.b.now) r) (sym out)
          (at-left c.args.a.now c.args.b.now c.loop-i.out.items c.loop-i.i c.loop-i.j c.index-a-i.result c.index-b-j.result c.loop-i-test.true c.if-j-b.true c.index-a-i.is c.index-b-j.is c.loop-i.invariant.goes order);
    }

pub loop-i-preserved-in-Greater : goal.loop-i-preserved-in-Greater
loop-i-preserved-in-Greater c =
    let x1 : c.name.result.now ≡ c.index-a-i.result.name = c.name.ensures in
    let x2 : c.name-in-loop-i.result.now ≡ c.index-b-j.result.name = c.name-in-loop-i.ensures in
    let x3 : c.cmp.result ≡ slice_cmp nat_cmp c.name.result.now c.name-in-loop-i.result.now = c.cmp.ensures in
    let x4 : c.cmp.result ≡ Greater = c.in-Greater.is in
    let order : slice_cmp nat_cmp c.index-a-i.result.name c.index-b-j.result.name ≡ Greater = cc in
    let out : c.push-in-Greater.new.self.items ≡ c.loop-i.out.items ++ c.index-b-j.result ∷ [] =
    c.in_ok-push-in-Greater.ensures.items ∙ ap (λ z. c.loop-i.out.items ++ z ∷ []) c.in_ok-share-in-Greater.ensures in
    record {
      i_in = c.loop-i.invariant.i_in;
      j_in = omega arith;
      goes = subst (λ r. Goes c.args.a.now c.args.b.now (drop c.loop-i.i c.args.a.now) (drop (c.loop-i.j + 1) c.args.b.now) r) (sym out)
          (at-right c.args.a.now c.args.b.now c.loop-i.out.items c.loop-i.i c.loop-i.j c.index-a-i.result c.index-b-j.result c.loop-i-test.true c.if-j-b.true c.index-a-i.is c.index-b-j.is c.loop-i.invariant.goes order);
    }

pub loop-i-preserved : goal.loop-i-preserved
loop-i-preserved c =
    let x1 : c.name.result.now ≡ c.index-a-i.result.name = c.name.ensures in
    let x2 : c.name-in-loop-i.result.now ≡ c.index-b-j.result.name = c.name-in-loop-i.ensures in
    let x3 : c.cmp.result ≡ slice_cmp nat_cmp c.name.result.now c.name-in-loop-i.result.now = c.cmp.ensures in
    let x4 : c.cmp.result ≡ Equal = c.in-Equal.is in
    let order : slice_cmp nat_cmp c.index-a-i.result.name c.index-b-j.result.name ≡ Equal = cc in
    let out : c.push-in-Equal.new.self.items ≡ c.loop-i.out.items ++ joined c.index-a-i.result c.index-b-j.result ∷ [] =
    c.in_ok-push-in-Equal.ensures.items ∙ ap (λ z. c.loop-i.out.items ++ z ∷ []) c.in_ok-joined-in-Equal.ensures in
    record {
      i_in = omega arith;
      j_in = omega arith;
      goes = subst (λ r. Goes c.args.a.now c.args.b.now (drop (c.loop-i.i + 1) c.args.a.now) (drop (c.loop-i.j + 1) c.args.b.now) r) (sym out)
          (at-both c.args.a.now c.args.b.now c.loop-i.out.items c.loop-i.i c.loop-i.j c.index-a-i.result c.index-b-j.result c.loop-i-test.true c.if-j-b.true c.index-a-i.is c.index-b-j.is c.loop-i.invariant.goes order c.if-not-agrees.ensures);
    }

pub returns-then-not-agrees : goal.returns-then-not-agrees
returns-then-not-agrees c =
    let x1 : c.name.result.now ≡ c.index-a-i.result.name = c.name.ensures in
    let x2 : c.name-in-loop-i.result.now ≡ c.index-b-j.result.name = c.name-in-loop-i.ensures in
    let x3 : c.cmp.result ≡ slice_cmp nat_cmp c.name.result.now c.name-in-loop-i.result.now = c.cmp.ensures in
    let x4 : c.cmp.result ≡ Equal = c.in-Equal.is in
    let order : slice_cmp nat_cmp c.index-a-i.result.name c.index-b-j.result.name ≡ Equal = cc in
    at-clash c.args.a.now c.args.b.now c.loop-i.out.items c.loop-i.i c.loop-i.j c.index-a-i.result c.index-b-j.result c.loop-i-test.true c.if-j-b.true c.index-a-i.is c.index-b-j.is c.loop-i.invariant.goes order c.if-not-agrees.ensures

pub returns : goal.returns
returns c =
    let e1 : c.share_into.new.out.items ≡ c.loop-i.out.items ++ drop c.loop-i.i c.args.a.now =
    c.in_ok-share_into.ensures ∙ ap (λ r. c.loop-i.out.items ++ r) (tail-is c.args.a.now c.loop-i.i) in
    let e2 : c.share_into-2.new.out.items ≡ c.share_into.new.out.items ++ drop c.loop-i.j c.args.b.now =
    c.in_ok-share_into-2.ensures ∙ ap (λ r. c.share_into.new.out.items ++ r) (tail-is c.args.b.now c.loop-i.j) in
    subst (λ r. Joins c.args.a.now c.args.b.now r) (sym (e2 ∙ ap (λ r. r ++ drop c.loop-i.j c.args.b.now) e1))
    (elim c.loop-i-test.branch [
      | then-loop-i-test+else-j-b w ↦ no-right c.args.a.now c.args.b.now c.loop-i.out.items c.loop-i.i c.loop-i.j w.if-j-b.false c.loop-i.invariant.goes
      | else-loop-i-test w ↦ no-left c.args.a.now c.args.b.now c.loop-i.out.items c.loop-i.i c.loop-i.j w.loop-i-test.false c.loop-i.invariant.goes
    ])
