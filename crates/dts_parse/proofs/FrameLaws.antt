-- The innermost case leaves the stack.
use Rattle.std.proofs.Common.{◌≡◌, ◌<◌, ℕ, zero, suc, ◌-◌, List, [], ◌∷◌, ◌++◌, Option, Some, length, take, sym, ap, ◌∙◌, arith}
use Rattle.std.specs.Prelude.{reverse}
use Rattle.std.specs.List.{slice_get}
use Rattle.std.proofs.lemmas.List.{reverse-append}
use Rattle.std.proofs.lemmas.Option.{slice_get_within}
use Rattle.dts_parse.specs.Inner.Machine.{climbed, reduced}
use Rattle.dts_parse.specs.declared.mode.Frame.{Frame}
use Rattle.dts_parse.proofs.ExprReads.{climbed_some}

last_split : (xs : List Frame) (k : ℕ) (f : Frame) → slice_get xs k ≡ Some f → length xs ≡ suc k → xs ≡ take k xs ++ f ∷ []
last_split [] k f e n = cc
last_split (x ∷ []) zero f e n = let same : x ≡ f = cc in ap (λ z. z ∷ []) same
last_split (x ∷ []) (suc k) f e n = cc
last_split (x ∷ y ∷ zs) zero f e n = absurd (omega arith)
last_split (x ∷ y ∷ zs) (suc k) f e n = ap (λ ys. x ∷ ys) (last_split (y ∷ zs) k f e (omega arith))

pub climb_pop : (level : ℕ) (worth next : Option ℕ) (old new : List Frame) (f : Frame) → new ≡ take (length old - 1) old → slice_get old (length old - 1) ≡ Some f → reduced level f worth ≡ Some next
    → climbed level (reverse new) next ≡ climbed level (reverse old) worth
climb_pop level worth next old new f a b c =
    let k : length old - 1 < length old = slice_get_within old (length old - 1) f b in
    let parts : old ≡ new ++ f ∷ [] = last_split old (length old - 1) f b (omega arith) ∙ ap (λ ys. ys ++ f ∷ []) (sym a) in
    let turned : reverse old ≡ f ∷ reverse new = ap (λ (ys : List Frame). reverse ys) parts ∙ reverse-append new (f ∷ []) in
    sym (ap (λ ys. climbed level ys worth) turned ∙ climbed_some level f (reverse new) worth next c)
