-- Parameters and parts.
use Rattle.std.proofs.Common.{◌≡◌, ℕ, suc, ◌+◌, Bool, true, false, ◌&&◌, ◌||◌, not, List, [], ◌∷◌, ◌++◌, Option, Some, None, option_map, is_some, length, refl, sym, ap, ◌∙◌, arith, inl, inr, if◌then◌else◌}
use Rattle.std.proofs.lemmas.Bool.{cases_Bool}
use Rattle.std.proofs.lemmas.Slice.Eq.{bytes_eq-Decides}
use Rattle.std.specs.List.{list_any}
use Rattle.std.specs.Str.{bytes_eq}
use Rattle.c_tokens.specs.declared.tok.Tok.{Tok}
use Rattle.c_macro.specs.Directive.{all_params, is_word, is_va_args, va_args, is_among}
use Rattle.c_macro.specs.Bodies.{place_of, param_of, Part, Text, Join, is_join, plain_part, text_of, text_or_plain, parts}

-- the place in one list or behind it in the other
abbrev pub place_or : Option ℕ → Option ℕ → Option ℕ
place_or (Some i) o = Some i
place_or None o = o

place_append : (name : List ℕ) (xs ys : List (List ℕ)) → place_of name (xs ++ ys) ≡ place_or (place_of name xs) (option_map (λ i. length xs + i) (place_of name ys))
place_append name [] ys = none (place_of name ys)
  where
    none : (o : Option ℕ) → o ≡ option_map (λ i. 0 + i) o
    none None = refl
    none (Some i) = let e : i ≡ 0 + i = omega arith in ap Some e
place_append name (x ∷ xs) ys = elim (cases_Bool (bytes_eq name x)) [
  | inl h ↦ rw h refl
  | inr h ↦ rw h (ap (option_map suc) (place_append name xs ys) ∙ over (place_of name xs) (place_of name ys))
]
  where
    over : (o p : Option ℕ) → option_map suc (place_or o (option_map (λ i. length xs + i) p)) ≡ place_or (option_map suc o) (option_map (λ i. suc (length xs) + i) p)
    over (Some i) p = refl
    over None None = refl
    over None (Some i) = let e : suc (length xs + i) ≡ suc (length xs) + i = omega arith in ap Some e

or_none : (o : Option ℕ) → place_or o None ≡ o
or_none None = refl
or_none (Some i) = refl

or_or : (a b c : Option ℕ) → place_or (place_or a b) c ≡ place_or a (place_or b c)
or_or None b c = refl
or_or (Some i) b c = refl

bytes_sym : (a b : List ℕ) → bytes_eq a b ≡ bytes_eq b a
bytes_sym a b = elim (cases_Bool (bytes_eq a b)) [
  | inl h ↦ h ∙ sym ((bytes_eq-Decides b a).1 (sym ((bytes_eq-Decides a b).0 h)))
  | inr h ↦ elim (cases_Bool (bytes_eq b a)) [
    | inl k ↦ (bytes_eq-Decides a b).1 (sym ((bytes_eq-Decides b a).0 k)) ∙ sym k
    | inr k ↦ h ∙ sym k
  ]
]

-- no name is in the table yet
pub places_start : (q : List ℕ) (names : List (List ℕ)) (o : Option ℕ) → o ≡ None → place_or (place_of q names) o ≡ place_of q names
places_start q names o e = rw e (or_none (place_of q names))

-- the last name that is left goes into the table
pub places_go : (q name : List ℕ) (names left rest : List (List ℕ)) (old new : Option ℕ) → place_or (place_of q left) old ≡ place_of q names → left ≡ rest ++ name ∷ []
    → new ≡ (if bytes_eq name q then Some (length rest) else old) → place_or (place_of q rest) new ≡ place_of q names
places_go q name names left rest old new k e n = elim (cases_Bool (bytes_eq name q)) [
  | inl h ↦ by (Some (length rest)) (n ∙ rw h refl) (let s : bytes_eq q name ≡ true = bytes_sym q name ∙ h in let z : length rest + 0 ≡ length rest = omega arith in rw (s, z) refl)
  | inr h ↦ by None (n ∙ rw h refl) (let s : bytes_eq q name ≡ false = bytes_sym q name ∙ h in rw s refl)
]
  where
    by : (o : Option ℕ) → new ≡ place_or o old → option_map (λ i. length rest + i) (place_of q (name ∷ [])) ≡ o → place_or (place_of q rest) new ≡ place_of q names
    by o m p = ap (place_or (place_of q rest)) m ∙ (sym (or_or (place_of q rest) o old) ∙ (ap (λ x. place_or x old) (ap (place_or (place_of q rest)) (sym p) ∙ sym (ap (place_of q) e ∙ place_append q rest (name ∷ []))) ∙ k))

pub param_named : (names : List (List ℕ)) (variadic : Bool) (t : Tok) (i : ℕ) → is_word t ≡ true → Some i ≡ place_of t.spell names → Some i ≡ param_of (all_params names variadic) t
param_named names variadic t i w e = rw w (sym (place_append t.spell names _ ∙ ap (λ o. place_or o (option_map (λ k. length names + k) (place_of t.spell (if variadic then va_args ∷ [] else [])))) (sym e)))

pub param_rest : (names : List (List ℕ)) (variadic : Bool) (t : Tok) → is_word t ≡ true → None ≡ place_of t.spell names
    → (if variadic && is_va_args t then Some (length names) else None) ≡ param_of (all_params names variadic) t
param_rest names variadic t w e =
    rw w (by variadic ∙ sym (place_append t.spell names _ ∙ ap (λ o. place_or o (option_map (λ k. length names + k) (place_of t.spell (if variadic then va_args ∷ [] else [])))) (sym e)))
  where
    by : (v : Bool) → (if v && (true && bytes_eq t.spell va_args) then Some (length names) else None) ≡ option_map (λ k. length names + k) (place_of t.spell (if v then va_args ∷ [] else []))
    by false = refl
    by true = elim (cases_Bool (bytes_eq t.spell va_args)) [
      | inl h ↦ rw h (let e : length names ≡ length names + 0 = omega arith in ap Some e)
      | inr h ↦ rw h refl
    ]

pub param_none : (names : List (List ℕ)) (t : Tok) → is_word t ≡ false → None ≡ param_of names t
param_none names t w = rw w refl

-- ---- one part more

pub part_join : (calls : Bool) (names : List (List ℕ)) (right : Bool) (t : Tok) (rest : List Tok) → (is_join t && not right) ≡ true → parts calls names right (t ∷ rest) ≡ Join ∷ parts calls names true rest
part_join calls names right t [] h = rw h refl
part_join calls names right t (u ∷ us) h = rw h refl

pub part_last : (calls : Bool) (names : List (List ℕ)) (right : Bool) (t : Tok) (rest : List Tok) (p : Part) → length rest ≡ 0 → (is_join t && not right) ≡ false → p ≡ plain_part right t (param_of names t)
    → parts calls names right (t ∷ rest) ≡ p ∷ parts calls names false rest
part_last calls names right t [] p e h q = rw (h, q) refl
part_last calls names right t (u ∷ us) p e h q = absurd (omega arith)

pub part_text : (calls : Bool) (names : List (List ℕ)) (right : Bool) (t u : Tok) (rest us : List Tok) (i : ℕ) → rest ≡ u ∷ us → (is_join t && not right) ≡ false → Some i ≡ text_of calls names t u
    → parts calls names right (t ∷ rest) ≡ Text t.spaced i ∷ parts calls names false us
part_text calls names right t u rest us i e h q = rw (e, h) (ap (λ o. text_or_plain o t (parts calls names false us) (plain_part (right || is_join u) t (param_of names t) ∷ parts calls names false (u ∷ us))) (sym q))

pub part_plain : (calls : Bool) (names : List (List ℕ)) (right : Bool) (t u : Tok) (rest us : List Tok) (p : Part) → rest ≡ u ∷ us → (is_join t && not right) ≡ false → None ≡ text_of calls names t u
    → p ≡ plain_part (right || is_join u) t (param_of names t) → parts calls names right (t ∷ rest) ≡ p ∷ parts calls names false rest
part_plain calls names right t u rest us p e h q is =
    rw (e, h, is) (ap (λ o. text_or_plain o t (parts calls names false us) (plain_part (right || is_join u) t (param_of names t) ∷ parts calls names false (u ∷ us))) (sym q))

some_place : (q : List ℕ) (names : List (List ℕ)) → is_some (place_of q names) ≡ list_any (bytes_eq q) names
some_place q [] = refl
some_place q (n ∷ ns) = elim (cases_Bool (bytes_eq q n)) [
  | inl h ↦ rw h refl
  | inr h ↦ rw h (mapped (place_of q ns) ∙ some_place q ns)
]
  where
    mapped : (o : Option ℕ) → is_some (option_map suc o) ≡ is_some o
    mapped None = refl
    mapped (Some i) = refl

pub some_param : (names : List (List ℕ)) (t : Tok) → is_some (param_of names t) ≡ is_among names t
some_param names t = elim (cases_Bool (is_word t)) [
  | inl h ↦ rw h (some_place t.spell names)
  | inr h ↦ rw h refl
]
