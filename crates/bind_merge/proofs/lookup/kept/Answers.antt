use Rattle.std.proofs.Common.{◌∙◌, sym, ap, Some}
use Rattle.std.specs.List.{filter}
use Rattle.std.specs.Option.{option_map}
use Rattle.bind_merge.specs.Levels.{EntryData}
use Rattle.bind_merge.specs.Looking.{is_kept_where}
use Rattle.bind_merge.proofs.Kept.{kept-none}
use Rattle.bind_merge.proofs.lookup.kept.Goals as goal

pub returns-in_default : goal.returns-in_default
returns-in_default c = c.in_ok-all.ensures ∙ kept-none c.args.among _ c.args.entries.now (ap (option_map (λ n. n.items)) c.in_default.is)

pub returns : goal.returns
returns c =
    c.in_ok-kept.ensures
    ∙ ap (λ o. filter (λ (e : EntryData). is_kept_where c.args.among o e.name) c.args.entries.now)
    (ap Some c.as_slice.ensures.value ∙ sym (ap (option_map (λ n. n.items)) c.in-Some.is))
