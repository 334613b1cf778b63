use Rattle.std.proofs.Common.{◌+◌, List, Option, Ok, Some, refl, subst, sym, take}
use Rattle.std.specs.List.{slice_set}
use Rattle.bind_merge.specs.declared.matching.Found.{Found}
use Rattle.bind_merge.specs.declared.matching.Match.{Match}
use Rattle.bind_merge.specs.Inner.Steps.{HasMatched, IsMatched}
use Rattle.bind_merge.proofs.Matched.{matched_not, matched_one, text_end}
use Rattle.bind_merge.proofs.matching.match_at.Goals as goal

pub returns-in-Err-clause-fault : goal.returns-in-Err-clause-fault
returns-in-Err-clause-fault c =
    text_end c.args.files.now c.args.strings.now c.args.at c.index-files-at.result c.args.matches.now.items c.args.reads.now.items c.requires.listed (sym c.index-files-at.is) c.requires.had c.in-Err.end c.in-Err.ensures

pub returns-in_ok-push-in-Some-clause-has : goal.returns-in_ok-push-in-Some-clause-has
returns-in_ok-push-in-Some-clause-has c =
    subst (λ (ms : List Match). HasMatched c.args.files.now (take (c.args.at + 1) c.args.files.now) c.args.strings.now ms
    (slice_set c.args.reads.now.items c.args.at (Some c.in-Some.field-0.read)))
    (sym c.in_ok-push-in-Some.ensures.items)
    (matched_one c.args.files.now c.args.strings.now c.args.at c.index-files-at.result c.args.matches.now.items c.args.reads.now.items c.requires.listed (sym c.index-files-at.is) c.requires.had c.in-Some.field-0 _ (slice_set c.args.reads.now.items c.args.at (Some c.in-Some.field-0.read))
    (subst (λ (o : Option Found). IsMatched c.args.strings.now c.index-files-at.result (Ok o)) c.in-Some.is c.in-Ok.ensures) refl refl refl)

pub returns-in-None-clause-has : goal.returns-in-None-clause-has
returns-in-None-clause-has c =
    matched_not c.args.files.now c.args.strings.now c.args.at c.index-files-at.result c.args.matches.now.items c.args.reads.now.items c.requires.listed (sym c.index-files-at.is) c.requires.had (subst (λ (o : Option Found). IsMatched c.args.strings.now c.index-files-at.result (Ok o)) c.in-None.is c.in-Ok.ensures)
