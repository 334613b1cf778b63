-- What holds of each definition of a list, in the ways in which the table makes its lists.
use Rattle.std.proofs.Common.{ℕ, ◌+◌, List, [], ◌∷◌, ◌++◌, Option, Some, None, map, option_map}
use Rattle.std.specs.List.{flat_map}
use Rattle.std.specs.Option.{option_map_or}
use Rattle.dt_names.specs.Facts.{FactData, each, there}

abbrev pub Hold : (FactData → Type 0) → List FactData → Type 0
Hold P [] = Unit {0}
Hold P (f ∷ fs) = P f × Hold P fs

pub both_hold : (P : FactData → Type 0) (fs gs : List FactData) → Hold P fs → Hold P gs → Hold P (fs ++ gs)
both_hold P [] gs p q = q
both_hold P (f ∷ fs) gs p q = (p.0, both_hold P fs gs p.1 q)

pub each_hold : {A : Type 0} (P : FactData → Type 0) (f : ℕ → A → List FactData) → ((n : ℕ) (x : A) → Hold P (f n x)) → (n : ℕ) (xs : List A) → Hold P (each f n xs)
each_hold P f h n [] = tt
each_hold P f h n (x ∷ xs) = both_hold P (f n x) (each f (n + 1) xs) (h n x) (each_hold P f h (n + 1) xs)

pub flat_hold : {A : Type 0} (P : FactData → Type 0) (f : A → List FactData) → ((x : A) → Hold P (f x)) → (xs : List A) → Hold P (flat_map f xs)
flat_hold P f h [] = tt
flat_hold P f h (x ∷ xs) = both_hold P (f x) (flat_map f xs) (h x) (flat_hold P f h xs)

pub map_hold : {A : Type 0} (P : FactData → Type 0) (f : A → FactData) → ((x : A) → P (f x)) → (xs : List A) → Hold P (map f xs)
map_hold P f h [] = tt
map_hold P f h (x ∷ xs) = (h x, map_hold P f h xs)

pub there_hold : {A : Type 0} (P : FactData → Type 0) (f : A → FactData) → ((x : A) → P (f x)) → (o : Option A) → Hold P (there (option_map f o))
there_hold P f h None = tt
there_hold P f h (Some x) = (h x, tt)

pub maybe_hold : {A : Type 0} (P : FactData → Type 0) (f : A → List FactData) → ((x : A) → Hold P (f x)) → (o : Option A) → Hold P (option_map_or f o [])
maybe_hold P f h None = tt
maybe_hold P f h (Some x) = h x
