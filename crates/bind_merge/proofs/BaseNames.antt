-- What stands after the last `/` of a name.
use Rattle.std.proofs.Common.{◌≡◌, ℕ, suc, Some, None, ◌+◌, ◌<◌, ◌≤◌, ◌≢◌, Bool, true, false, cond, if◌then◌else◌, nat_eq, List, [], ◌∷◌, ◌++◌, length, get_or, take, drop, refl, sym, ap, subst, ◌∙◌, arith, take-append-drop}
use Rattle.std.proofs.lemmas.Bool.{ne_eqb, eq-eqb}
use Rattle.std.proofs.lemmas.Str.Pattern.{NoCharPasses-char, drop_at_char}
use Rattle.std.specs.Str.{NoCharPasses}
use Rattle.std.specs.Str.Pattern.{HasCharAt, RFindsChar}
use Rattle.bind_merge.specs.Files.{base_from, base_name}

-- no `/` stands in a text
abbrev Without : List ℕ → Type 0
Without [] = Unit {0}
Without (c ∷ cs) = (c ≢ 47) × Without cs

without-here : (bs : List ℕ) → ((i : ℕ) → i < length bs → get_or bs i 0 ≢ 47) → Without bs
without-here [] h = tt
without-here (c ∷ cs) h = (h 0 (omega arith), without-here cs (λ i l. h (suc i) (omega arith)))

base-without : (base cs : List ℕ) → Without cs → base_from base cs ≡ base
base-without base [] h = refl
base-without base (c ∷ cs) h = rw (ne_eqb c 47 h.0) (base-without base cs h.1)

base-after : (base before after : List ℕ) → Without after → base_from base (before ++ 47 ∷ after) ≡ after
base-after base [] after h = base-without after after h
base-after base (c ∷ cs) after h = base-after (if nat_eq c 47 then cs ++ 47 ∷ after else base) cs after h

pub base-none : (name : List ℕ) → RFindsChar 47 name None → base_name name ≡ name
base-none name h = base-without name name (without-here name (λ i l. NoCharPasses-char 47 name i h (omega arith) l))

pub base-split : (name base : List ℕ) → (i j : ℕ) → RFindsChar 47 name (Some (i, j)) → base ≡ drop j name → base_name name ≡ base
base-split name base i j h e =
    let w : Without (drop j name) = without-here (drop j name) (λ k l. NoCharPasses-char 47 (drop j name) k h.0 (omega arith) l) in
    let d : drop i name ≡ 47 ∷ drop j name = drop_at_char 47 name i j h.1 (omega arith) in
    let p : name ≡ take i name ++ 47 ∷ drop j name = sym (take-append-drop i name) ∙ ap (λ t. take i name ++ t) d in
    ap (λ t. base_from name t) p ∙ base-after name (take i name) (drop j name) w ∙ sym e
