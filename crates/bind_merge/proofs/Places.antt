-- A list at a place.
use Rattle.std.proofs.Common.{◌≡◌, ◌∙◌, sym, ap, ℕ, ◌+◌, ◌<◌, ◌++◌, List, [], ◌∷◌, length, get_or, take, drop, append_assoc, take-append-drop}
use Rattle.std.proofs.lemmas.List.{take_more}

pub at_take : {X : Type 0} (xs : List X) (i : ℕ) (x : X) → i < length xs → get_or xs i x ≡ x → take (i + 1) xs ≡ take i xs ++ x ∷ []
at_take xs i x l e = take_more xs i x l ∙ ap (λ y. take i xs ++ y ∷ []) e

pub at_split : {X : Type 0} (xs : List X) (i : ℕ) (x : X) → i < length xs → get_or xs i x ≡ x → xs ≡ take i xs ++ x ∷ drop (i + 1) xs
at_split xs i x l e =
    sym (take-append-drop (i + 1) xs) ∙ (ap (λ ys. ys ++ drop (i + 1) xs) (at_take xs i x l e) ∙ append_assoc (take i xs) (x ∷ []) (drop (i + 1) xs))
