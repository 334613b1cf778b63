-- The last of a label's slots that is there.
use Rattle.std.proofs.Common.{◌≡◌, ◌∙◌, ap, sym, rules}
use Rattle.dts_tree.specs.Inner.Arena.{named}
use Rattle.dts_tree.specs.Inner.Machine.{named_slot}
use Rattle.dts_tree.specs.Inner.Finding.{tops_of, top_at}
use Rattle.dts_tree.proofs.Chains.{tops_named}
use Rattle.dts_tree.proofs.finder.Finder.find.Goals as goal

pub returns-in-ByLabel : goal.returns-in-ByLabel
returns-in-ByLabel c =
    let e : c.top_at.result ≡ top_at (tops_of c.args.self.now) (named c.in-ByLabel.label c.args.self.now.labels.numbers) = search rules in
    e ∙ (tops_named c.args.self.now c.in-ByLabel.label ∙ ap (named_slot c.args.self.now) (sym c.in-ByLabel.is))
