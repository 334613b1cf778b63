use Rattle.std.proofs.Common.{◌≡◌, ◌∙◌, IfOk, Option, option_and_then, sym, subst}
use Rattle.pha_nexus.specs.Matching.{Binding, levels_at}
use Rattle.pha_nexus.proofs.MatchLaws.{IsOfLibrary, at_bound, at_match}
use Rattle.pha_nexus.proofs.matches.Matches.view.Goals as goal

pub view_of-requires : goal.view_of-requires
view_of-requires c = subst (IsOfLibrary c.args.lib.now) (sym c.binding.ensures)
    (at_bound c.args.t.now.nodes c.args.lib.now c.args.self.now c.args.id c.requires.matches c.requires.there)

pub returns : goal.returns
returns c = subst (λ (o : Option Binding). IfOk c.view_of.result (λ v. v ≡ option_and_then (levels_at c.args.lib.now) o))
    (c.binding.ensures ∙ at_match c.args.t.now.nodes c.args.lib.now c.args.self.now c.args.id c.requires.matches c.requires.there)
    c.view_of.ensures
