-- The places of the first items of lists, and a table that is filled from the last item on.
use Rattle.std.proofs.Common.{◌≡◌, ℕ, ◌+◌, Bool, true, false, ◌||◌, List, [], ◌∷◌, ◌++◌, Option, Some, None, is_some, length, map, nat_eq, position, refl, sym, ap, ◌∙◌, arith, if◌then◌else◌}
use Rattle.std.proofs.lemmas.Iterator.Adapters.{position_from-zero}
use Rattle.std.proofs.lemmas.List.{map-append}
use Rattle.std.specs.List.{list_any, position_from}
use Rattle.std.specs.Option.{option_map_or}
use Rattle.std.specs.Str.{bytes_eq}
use Rattle.prop_types.specs.Choices.{is_number, is_text}
use Rattle.prop_types.specs.Given.{text_in}
use Rattle.edt_base.specs.YamlData.{Value}

-- the place in one list or behind it in the other
abbrev pub place_or : Option ℕ → Option ℕ → Option ℕ
place_or (Some i) o = Some i
place_or None o = o

pub or_none : (o : Option ℕ) → place_or o None ≡ o
or_none None = refl
or_none (Some i) = refl

from_zero : {X : Type 0} (p : X → Bool) (xs : List X) → position p xs ≡ position_from p 0 xs
from_zero p xs = position_from-zero p xs

some_from : {X : Type 0} (p : X → Bool) (k : ℕ) (xs : List X) → is_some (position_from p k xs) ≡ list_any p xs
some_from p k [] = refl
some_from p k (x ∷ xs) = by (p x) (some_from p (k + 1) xs)
  where
    by : (b : Bool) → is_some (position_from p (k + 1) xs) ≡ list_any p xs → is_some (if b then Some k else position_from p (k + 1) xs) ≡ (b || list_any p xs)
    by true h = refl
    by false h = h

pub is_some_position : {X : Type 0} (p : X → Bool) (xs : List X) → is_some (position p xs) ≡ list_any p xs
is_some_position p xs = ap is_some (from_zero p xs) ∙ some_from p 0 xs

push_from : {X : Type 0} (p : X → Bool) (k : ℕ) (xs : List X) (y : X) (at : ℕ) → at ≡ k + length xs → position_from p k (xs ++ y ∷ []) ≡ place_or (position_from p k xs) (if p y then Some at else None)
push_from p k [] y at e = let z : k ≡ at = omega (arith, e) in ap (λ i. if p y then Some i else None) z
push_from p k (x ∷ xs) y at e = let z : at ≡ (k + 1) + length xs = omega (arith, e) in by (p x) (push_from p (k + 1) xs y at z)
  where
    by : (b : Bool) → position_from p (k + 1) (xs ++ y ∷ []) ≡ place_or (position_from p (k + 1) xs) (if p y then Some at else None)
        → (if b then Some k else position_from p (k + 1) (xs ++ y ∷ [])) ≡ place_or (if b then Some k else position_from p (k + 1) xs) (if p y then Some at else None)
    by true h = refl
    by false h = h

position_push : {X : Type 0} (p : X → Bool) (xs : List X) (y : X) → position p (xs ++ y ∷ []) ≡ place_or (position p xs) (if p y then Some (length xs) else None)
position_push p xs y = let z : length xs ≡ 0 + length xs = omega arith in from_zero p (xs ++ y ∷ []) ∙ (push_from p 0 xs y (length xs) z ∙ ap (λ o. place_or o (if p y then Some (length xs) else None)) (sym (from_zero p xs)))

-- the last item that is left goes into the table
pub places_go : {X : Type 0} (p : X → Bool) (all left rest : List X) (x : X) (old new : Option ℕ) → place_or (position p left) old ≡ position p all → left ≡ rest ++ x ∷ []
    → new ≡ (if p x then Some (length rest) else old) → place_or (position p rest) new ≡ position p all
places_go p all left rest x old new k e n =
    ap (place_or (position p rest)) n ∙ (over (position p rest) (p x) ∙ (ap (λ o. place_or o old) (sym (ap (position p) e ∙ position_push p rest x)) ∙ k))
  where
    over : (o : Option ℕ) (b : Bool) → place_or o (if b then Some (length rest) else old) ≡ place_or (place_or o (if b then Some (length rest) else None)) old
    over (Some i) b = refl
    over None true = refl
    over None false = refl

-- a list that is read through a function has its places
pub position_map : {X Y : Type 0} (f : X → Y) (p : Y → Bool) (xs : List X) → position p (map f xs) ≡ position (λ x. p (f x)) xs
position_map f p xs = from_zero p (map f xs) ∙ (map_from f p 0 xs ∙ sym (from_zero (λ x. p (f x)) xs))
  where
    map_from : {X Y : Type 0} (f : X → Y) (p : Y → Bool) (k : ℕ) (xs : List X) → position_from p k (map f xs) ≡ position_from (λ x. p (f x)) k xs
    map_from f p k [] = refl
    map_from f p k (x ∷ xs) = ap (λ o. if p (f x) then Some k else o) (map_from f p (k + 1) xs)

-- the test of what a value is read as
pub read_number : (read : Value → Option ℕ) (n : ℕ) (v : Value) (number : Option ℕ) (at len : ℕ) (old new : Option ℕ)
    → new ≡ (if option_map_or (nat_eq n) number false then Some at else old) → number ≡ read v → at ≡ len
    → new ≡ (if is_number read n v then Some len else old)
read_number read n v number at len old new h r a =
    h ∙ (ap (λ o. if option_map_or (nat_eq n) o false then Some at else old) r ∙ ap (λ k. if is_number read n v then Some k else old) a)

pub read_text : (t : List ℕ) (v : Value) (text : Option (List ℕ)) (at len : ℕ) (old new : Option ℕ)
    → new ≡ (if option_map_or (λ e. bytes_eq e t) text false then Some at else old) → text ≡ text_in v → at ≡ len
    → new ≡ (if is_text t v then Some len else old)
read_text t v text at len old new h r a =
    h ∙ (ap (λ o. if option_map_or (λ e. bytes_eq e t) o false then Some at else old) r ∙ ap (λ k. if is_text t v then Some k else old) a)

pub map_last : {X Y : Type 0} (f : X → Y) (xs ys : List X) (x : X) → xs ≡ ys ++ x ∷ [] → map f xs ≡ map f ys ++ f x ∷ []
map_last f xs ys x e = ap (map f) e ∙ map-append f ys (x ∷ [])
