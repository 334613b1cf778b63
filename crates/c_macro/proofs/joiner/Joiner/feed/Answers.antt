use Rattle.std.proofs.Common.{◌≡◌, true, false, sym, ◌∙◌, refl, Some, None, subst, Option}
use Rattle.c_macro.specs.declared.joiner.Item.{Item}
use Rattle.c_macro.specs.Joining.{KnownItem, KnownLeft}
use Rattle.c_macro.proofs.JoinLaws.{first_fed, fed_from}
use Rattle.c_macro.proofs.joiner.Joiner.feed.Goals as goal

pub returns-in-None-clause-fed : goal.returns-in-None-clause-fed
returns-in-None-clause-fed c =
    let e : c.args.self.now.left ≡ None = sym c.replace.ensures.value ∙ c.in-None.is in
    first_fed c.args.sets.now c.args.self.now (record { out = c.args.self.now.out; left = Some c.args.item; glued = false }) c.args.item e c.requires.known.out c.requires.item refl refl refl

pub returns-in_ok-feed_next-in-Some-clause-fed : goal.returns-in_ok-feed_next-in-Some-clause-fed
returns-in_ok-feed_next-in-Some-clause-fed c =
    let e : c.args.self.now.left ≡ Some c.in-Some.left = sym c.replace.ensures.value ∙ c.in-Some.is in
    let P : Option Item → Type 0 = λ o. KnownLeft c.args.sets.now o in
    let left : KnownItem c.args.sets.now c.in-Some.left = subst P e c.requires.known.left in
    fed_from c.args.sets.now c.args.sets.now c.args.self.now c.feed_next.new.self c.in-Some.left c.args.item true false e c.if-self.false
    (c.in_ok-feed_next-in-Some.ensures.fed c.args.sets.now c.requires.known.out left c.requires.item)
