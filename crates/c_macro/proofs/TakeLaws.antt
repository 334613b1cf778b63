-- The arguments of a call, taken from what is pending.
use Rattle.std.proofs.Common.{◌≡◌, ℕ, ◌+◌, ◌<◌, List, ◌∷◌, ◌++◌, Option, Some, length, reverse, sym, ap, subst, ◌∙◌, arith, length-append}
use Rattle.std.proofs.lemmas.List.{reverse-reverse, length-reverse}
use Rattle.c_macro.specs.declared.pend.Pend.{Pend}
use Rattle.c_macro.specs.declared.row.Enclosed.{Enclosed}
use Rattle.c_macro.specs.Marked.{Marked}
use Rattle.c_macro.specs.Calls.{Closes, closed, mark_of}
use Rattle.c_macro.specs.SetData.{set_count, SetTable}
use Rattle.c_macro.specs.Pending.{mark, marks, KnownAll}
use Rattle.c_macro.specs.Walking.{IsEnclosed}
use Rattle.c_macro.specs.Collecting.{rows_data, rows_size}
use Rattle.c_macro.proofs.PendLaws.{known_front, known_back}
use Rattle.c_macro.proofs.PlaceLaws.{known_reverse}
use Rattle.c_macro.proofs.CollectLaws.{marks_both}

pub called_is : (s : SetTable) (commas : Option ℕ) (old new : List Pend) (e : Enclosed) (args : List (List Pend)) → IsEnclosed (reverse old) e (reverse new)
    → ((last : Marked) (rest : List Marked) → mark_of last.tok ≡ Closes → closed commas 0 (marks s e.toks ++ last ∷ rest) ≡ Some (record { args = rows_data s args; last = last; rest = rest }))
    → Some (record { args = rows_data s args; last = mark s e.last; rest = marks s (reverse new) }) ≡ closed commas 0 (marks s (reverse old))
called_is s commas old new e args k f =
    sym (ap (λ xs. closed commas 0 (marks s xs)) k.whole ∙ (ap (closed commas 0) (marks_both s e.toks (e.last ∷ reverse new)) ∙ f (mark s e.last) (marks s (reverse new)) k.closes))

pub called_known : (s : SetTable) (old new : List Pend) (e : Enclosed) → IsEnclosed (reverse old) e (reverse new) → KnownAll s old → KnownAll s e.toks × (e.last.set < set_count s) × KnownAll s new
called_known s old new e k h =
    let a : KnownAll s (e.toks ++ e.last ∷ reverse new) = subst (KnownAll s) k.whole (known_reverse s old h) in
    let b : KnownAll s (e.last ∷ reverse new) = known_back s e.toks (e.last ∷ reverse new) a in
    (known_front s e.toks (e.last ∷ reverse new) a, b.0, subst (KnownAll s) (reverse-reverse new) (known_reverse s (reverse new) b.1))

pub called_size : (old new : List Pend) (e : Enclosed) (args : List (List Pend)) → IsEnclosed (reverse old) e (reverse new) → rows_size args ≡ length e.toks + 1 → rows_size args + length new ≡ length old
called_size old new e args k z =
    let a = ap length k.whole ∙ length-append e.toks (e.last ∷ reverse new) in
    let b = length-reverse old in
    let c = length-reverse new in
    omega (arith, a, b, c, z)
