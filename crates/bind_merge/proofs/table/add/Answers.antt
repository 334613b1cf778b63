use Rattle.std.proofs.Common.{◌≡◌, ◌++◌, sym, subst, [], ◌∷◌, length, arith}
use Rattle.bind_merge.specs.Joining.{JoinsLevel, ClashOf}
use Rattle.bind_merge.specs.Adding.{AddsAt}
use Rattle.bind_merge.proofs.LevelClashes.{adds-end, adds-onto, clash-at}
use Rattle.bind_merge.proofs.table.add.Goals as goal

pub returns-then-at-len : goal.returns-then-at-len
returns-then-at-len c =
    let same : length c.args.levels.now.items ≡ c.args.at = omega arith in
    let items : c.push.new.self.items ≡ c.args.levels.now.items ++ c.args.level ∷ [] = c.in_ok-push.ensures.items in
    subst (λ r. AddsAt c.args.levels.now.items c.args.at c.args.level r) (sym items)
    (subst (λ n. AddsAt c.args.levels.now.items n c.args.level (c.args.levels.now.items ++ c.args.level ∷ [])) same
    (adds-end c.args.levels.now.items c.args.level))

pub returns-in-Some : goal.returns-in-Some
returns-in-Some c =
    let j : JoinsLevel c.index.result.now c.args.level c.in-Some.joined = rw c.in-Some.is at c.in_ok-joined.ensures in
    adds-onto c.args.levels.now.items c.args.at c.index.result.now c.args.level c.in-Some.joined (omega arith) c.index.ensures j

pub returns : goal.returns
returns c =
    let k : ClashOf c.index.result.now c.args.level = rw c.in-None.is at c.in_ok-joined.ensures in
    clash-at c.args.levels.now.items c.args.at c.index.result.now c.args.level (omega arith) c.index.ensures k
