-- A list that is read item by item, where an item may not be there.
use Rattle.std.proofs.Common.{◌≡◌, ◌++◌, List, [], ◌∷◌, Option, Some, None, ap, sym, refl}
use Rattle.std.proofs.lemmas.List.{append_assoc}
use Rattle.prop_types.specs.AllThere.{before}

-- what comes after some things
abbrev pub there_after : {X : Type 0} → List X → Option (List X) → Option (List X)
there_after xs None = None
there_after xs (Some ys) = Some (xs ++ ys)

pub after_nothing : {X : Type 0} (o : Option (List X)) → there_after [] o ≡ o
after_nothing None = refl
after_nothing (Some ys) = refl

pub after_next : {X : Type 0} (xs : List X) (x : X) (o : Option (List X)) → there_after xs (before (Some x) o) ≡ there_after (xs ++ x ∷ []) o
after_next xs x None = refl
after_next xs x (Some ys) = ap Some (sym (append_assoc xs (x ∷ []) ys))
