use Rattle.std.proofs.Common.{rules, ◌≡◌, ◌∙◌, sym, ap, refl, true, false, Some, map}
use Rattle.std.specs.List.{filter}
use Rattle.std.specs.Option.{option_map}
use Rattle.bind_load.specs.RecordSeen.{filter_of}
use Rattle.bind_load.specs.declared.record.Filter.{Filter, out-Filter, the_lemmas}
use Rattle.bind_merge.specs.Adding.{top_filter}
use Rattle.bind_merge.specs.Filtering.{filters_of}
use Rattle.bind_merge.specs.Joining.{inherited, passed_props}
use Rattle.bind_merge.specs.Levels.{EntryData}
use Rattle.bind_merge.specs.Looking.{is_kept_where}
use Rattle.bind_merge.proofs.Kept.{passed-none, kept-twice}
use Rattle.bind_merge.proofs.level.passed_props.Goals as goal

pub returns-in_default : goal.returns-in_default
returns-in_default c = c.in_ok-all.ensures ∙ passed-none _ c.args.props.now (ap (λ o. top_filter (filters_of o)) c.in_default.is)

pub returns : goal.returns
returns c =
    let g : Filter = c.in-Some.filter.now in
    let t : top_filter (filter_of g) ≡ Some (record { allow = option_map (λ n. n.items) (out-Filter g).allow; block = option_map (λ n. n.items) (out-Filter g).block }) = search (rules, the_lemmas) in
    let f : top_filter (filters_of c.args.filter) ≡ top_filter (filter_of g) = ap (λ o. top_filter (filters_of o)) c.in-Some.is in
    let a : c.as_slice.result.now ≡ filter (λ (e : EntryData). is_kept_where true (option_map (λ n. n.items) (out-Filter g).allow) e.name) c.args.props.now =
    c.as_slice.ensures.value ∙ c.in_ok-allowed.ensures in
    let b : c.as_slice-2.result.now ≡ filter (λ (e : EntryData). is_kept_where false (option_map (λ n. n.items) (out-Filter g).block) e.name) c.as_slice.result.now =
    c.as_slice-2.ensures.value ∙ c.in_ok-unblocked.ensures in
    c.in_ok-all-2.ensures ∙ ap (map inherited) (b ∙ ap (filter (λ (e : EntryData). is_kept_where false (option_map (λ n. n.items) (out-Filter g).block) e.name)) a
    ∙ kept-twice _ _ (record { allow = option_map (λ n. n.items) (out-Filter g).allow; block = option_map (λ n. n.items) (out-Filter g).block }) c.args.props.now refl refl)
    ∙ ap (λ o. passed_props o c.args.props.now) (sym (f ∙ t))
