-- What is handed on to be settled, and what ends before.
use Rattle.std.proofs.Common.{◌≡◌, List, Result, Ok, Err, sym, ap, subst}
use Rattle.edt_base.specs.TreeData.{TreeData}
use Rattle.edt_base.specs.declared.fault.Fault.{Fault}
use Rattle.edt_base.specs.declared.fault.End.{End}
use Rattle.edt_base.specs.declared.fault.End.TheVariants as ending
use Rattle.dts_tree.specs.Drafts.{DraftData}
use Rattle.dts_tree.specs.Outcome.{settled, settled_or}
use Rattle.dts_tree.specs.References.{AnswersAs, Answers}

pub ends_before : {T : Type 0} (seen : T → List DraftData) (w : Result (List DraftData) Fault) (e : End) → AnswersAs {T = T} (Err e) seen w → Answers (settled_or w) (Err e)
ends_before seen w (ending.Fault g) h = ap settled_or h
ends_before seen w (ending.Memory e) h = h

pub goes_on : (w : Result (List DraftData) Fault) (ds : List DraftData) (result : Result TreeData End) → w ≡ Ok ds → Answers (settled ds) result → Answers (settled_or w) result
goes_on w ds result h t = subst (λ x. Answers (settled_or x) result) (sym h) t
