-- Declared properties that are typed one after another.
use Rattle.std.proofs.Common.{◌≡◌, ◌+◌, ◌<◌, ◌++◌, suc, length, get_or, drop, add-one, drop-cons, ℕ, Bool, true, false, List, [], ◌∷◌, Option, Some, None, Result, Ok, Err, filter, is_some, map, ap, sym, refl, ◌∙◌, ◌||◌, if◌then◌else◌}
use Rattle.std.proofs.lemmas.List.{append_assoc}
use Rattle.std.specs.List.{list_any}
use Rattle.edt_base.specs.PropData.{PropData}
use Rattle.edt_base.specs.declared.fault.Rule.{Rule}
use Rattle.std.specs.Str.{bytes_eq}
use Rattle.prop_types.specs.Typing.{DeclaredData, is_declared, joined}

pub joined_nothing : (r : Result (List PropData) Rule) → joined (Ok []) r ≡ r
joined_nothing (Err r) = refl
joined_nothing (Ok ps) = refl

pub joined_next : (xs ys : List PropData) (r : Result (List PropData) Rule) → joined (Ok xs) (joined (Ok ys) r) ≡ joined (Ok (xs ++ ys)) r
joined_next xs ys (Err r) = refl
joined_next xs ys (Ok zs) = ap Ok (sym (append_assoc xs ys zs))

nothing_more : (xs : List PropData) → xs ++ [] ≡ xs
nothing_more [] = refl
nothing_more (x ∷ xs) = ap (λ ys. x ∷ ys) (nothing_more xs)

pub joined_whole : (xs : List PropData) → joined (Ok xs) (Ok []) ≡ Ok xs
joined_whole xs = ap Ok (nothing_more xs)

pub any_same : {X : Type 0} (p q : X → Bool) (xs : List X) → ((x : X) → p x ≡ q x) → list_any p xs ≡ list_any q xs
any_same p q [] h = refl
any_same p q (x ∷ xs) h = ap (λ b. b || list_any p xs) (h x) ∙ ap (λ b. q x || b) (any_same p q xs h)

-- one more of some that pass a test
pub one_more : {X Y : Type 0} (f : X → Y) (test : Y → Bool) (xs new : List X) (x : X) (b : Bool) (rest : List Y) (whole : List Y)
    → b ≡ test (f x) → new ≡ xs ++ (if b then x ∷ [] else []) → map f xs ++ filter test (f x ∷ rest) ≡ whole → map f new ++ filter test rest ≡ whole
one_more f test xs new x true rest whole t n w =
    ap (λ ys. map f ys ++ filter test rest) n ∙ (ap (λ ys. ys ++ filter test rest) (mapped f xs x) ∙ (append_assoc (map f xs) (f x ∷ []) (filter test rest) ∙ rw (sym t) at w))
  where
    mapped : {X Y : Type 0} (f : X → Y) (xs : List X) (x : X) → map f (xs ++ x ∷ []) ≡ map f xs ++ f x ∷ []
    mapped f [] x = refl
    mapped f (y ∷ ys) x = ap (λ zs. f y ∷ zs) (mapped f ys x)
one_more f test xs new x false rest whole t n w = ap (λ ys. map f ys ++ filter test rest) n ∙ rw (nothing xs) (rw (sym t) at w)
  where
    nothing : {X : Type 0} (xs : List X) → xs ++ [] ≡ xs
    nothing [] = refl
    nothing (x ∷ xs) = ap (λ ys. x ∷ ys) (nothing xs)

-- one more name in a table of names
pub name_added : {X : Type 0} (t name : List ℕ) (old new : Option X) (x : X) (d : DeclaredData) (rest : List DeclaredData) (whole : Bool)
    → new ≡ (if bytes_eq name t then Some x else old) → d.name ≡ name → (is_some old || is_declared (d ∷ rest) t) ≡ whole → (is_some new || is_declared rest t) ≡ whole
name_added {X = X} t name old new x d rest whole n e w =
    ap (λ o. is_some o || is_declared rest t) n ∙ go (bytes_eq name t) old (is_declared rest t) (rw e at w)
  where
    go : (b : Bool) (o : Option X) (more : Bool) → (is_some o || (b || more)) ≡ whole → (is_some (if b then Some x else o) || more) ≡ whole
    go true None more h = h
    go true (Some y) more h = h
    go false o more h = h

pub eight : {X : Type 0} (a b c d e f g h a' b' c' d' e' f' g' h' : X) → a ≡ a' → b ≡ b' → c ≡ c' → d ≡ d' → e ≡ e' → f ≡ f' → g ≡ g' → h ≡ h'
    → (a ∷ b ∷ c ∷ d ∷ e ∷ f ∷ g ∷ h ∷ []) ≡ (a' ∷ b' ∷ c' ∷ d' ∷ e' ∷ f' ∷ g' ∷ h' ∷ [])
eight a b c d e f g h a' b' c' d' e' f' g' h' pa pb pc pd pe pf pg ph = rw (pa, pb, pc, pd, pe, pf, pg, ph) refl

pub dropped : {X : Type 0} (xs : List X) (i : ℕ) (x : X) → i < length xs → x ≡ get_or xs i x → drop i xs ≡ x ∷ drop (i + 1) xs
dropped xs i x h e = rw add-one (drop-cons xs i x h ∙ ap (λ y. y ∷ drop (suc i) xs) (sym e))
