-- What is refused where statements are carried out is what the definitions refuse.
use Rattle.std.proofs.Common.{◌≡◌, ◌∙◌, ℕ, List, Result, Ok, Err, IsOk, refl, sym, ap}
use Rattle.edt_base.specs.declared.fault.End.{End}
use Rattle.edt_base.specs.declared.fault.End.TheVariants as ending
use Rattle.edt_base.specs.declared.fault.Fault.{Fault}
use Rattle.dts_tree.specs.Reading.{Before, Unnamed}
use Rattle.dts_tree.specs.Inner.Machine.{ReaderData}
use Rattle.dts_tree.specs.References.{or_fault, unnamed_fault, Answers, Tells}
use Rattle.dts_tree.proofs.Following.{FollowsAll}

pub tells_ok : (files : List (List ℕ)) (x : Result ReaderData Unnamed) (y : Result Before Unnamed) (r : ReaderData) → FollowsAll x y
    → or_fault files x ≡ Ok r → IsOk (or_fault files y)
tells_ok files (Ok q) (Ok b) r f h = refl
tells_ok files (Ok q) (Err y) r f h = absurd f
tells_ok files (Err x) y r f h = cc

pub err_by : (files : List (List ℕ)) (x : Result ReaderData Unnamed) (y : Result Before Unnamed) (g : Fault) → FollowsAll x y
    → or_fault files x ≡ Err g → or_fault files y ≡ Err g
err_by files (Ok q) y g f h = cc
err_by files (Err x) (Ok b) g f h = absurd f
err_by files (Err x) (Err y) g f h =
    let same : unnamed_fault files x.source x.at ≡ g = cc in
    let k : unnamed_fault files y.source y.at ≡ g = ap (λ (u : Unnamed). unnamed_fault files u.source u.at) (sym f) ∙ same in
    ap Err k

pub tells_err : (T : Type 0) (files : List (List ℕ)) (x : Result ReaderData Unnamed) (y : Result Before Unnamed) (e : End) → FollowsAll x y
    → Answers (or_fault files x) (Err e) → Tells {T = T} (or_fault files y) (Err e)
tells_err T files x y (ending.Fault g) f h = err_by files x y g f h
tells_err T files x y (ending.Memory e) f h = h
