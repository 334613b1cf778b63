use Rattle.std.proofs.Common.{◌∙◌, ap, ℕ, List}
use Rattle.std.specs.List.{list_any}
use Rattle.std.specs.Str.{bytes_eq}
use Rattle.bind_merge.proofs.strings.Strings.has.Goals as goal

pub returns : goal.returns
returns c =
    c.is_known.ensures ∙ (c.self.invariant.0 c.args.text.now
    ∙ ap (λ (ss : List (List ℕ)). list_any (λ s. bytes_eq s c.args.text.now) ss) c.self.view_is)
