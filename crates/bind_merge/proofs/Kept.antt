-- What lists of names keep of entries.
use Rattle.std.proofs.Common.{◌≡◌, ◌&&◌, ◌∙◌, ◌+◌, ◌<◌, ◌++◌, sym, ap, refl, ℕ, Bool, true, false, not, List, [], ◌∷◌, Option, Some, None, map, cond, drop, get_or, length, append_assoc}
use Rattle.std.specs.List.{filter, list_any}
use Rattle.std.specs.Str.{bytes_eq}
use Rattle.std.proofs.lemmas.List.{drop_more}
use Rattle.bind_load.specs.RecordData.{FilterLevel}
use Rattle.bind_merge.specs.Levels.{EntryData}
use Rattle.bind_merge.specs.Joining.{inherited, passed_props}
use Rattle.bind_merge.specs.Looking.{is_kept, is_kept_where}
use Rattle.bind_merge.specs.Passing.{level_lets, is_allowed, is_unblocked}

all-kept : (t : EntryData → Bool) (es : List EntryData) → ((e : EntryData) → t e ≡ true) → es ≡ filter t es
all-kept t [] h = refl
all-kept t (e ∷ es) h = ap (λ l. e ∷ l) (all-kept t es h) ∙ sym (ap (λ b. cond b (e ∷ filter t es) (filter t es)) (h e))

pub kept-none : (among : Bool) (o : Option (List (List ℕ))) (es : List EntryData) → o ≡ None
    → es ≡ filter (λ (e : EntryData). is_kept_where among o e.name) es
kept-none among o es is = all-kept (λ (e : EntryData). is_kept_where among o e.name) es (λ e. ap (λ x. is_kept_where among x e.name) is)

pub passed-none : (f : Option FilterLevel) (es : List EntryData) → f ≡ None → map inherited es ≡ passed_props f es
passed-none f es is = ap (map inherited) (all-kept (λ (e : EntryData). level_lets e.name f) es (λ e. ap (λ x. level_lets e.name x) is))

allowed-is : (p : List ℕ) (o : Option (List (List ℕ))) → is_kept_where true o p ≡ is_allowed p o
allowed-is p None = refl
allowed-is p (Some ns) = refl

unblocked-is : (p : List ℕ) (o : Option (List (List ℕ))) → is_kept_where false o p ≡ is_unblocked p o
unblocked-is p None = refl
unblocked-is p (Some ns) = refl

-- two tests, one after the other
step : (t u : EntryData → Bool) (e : EntryData) (es : List EntryData) (a b : Bool) → t e ≡ a → u e ≡ b
    → filter u (cond (t e) (e ∷ es) es) ≡ cond (a && b) (e ∷ filter u es) (filter u es)
step t u e es true b p q = ap (λ x. filter u (cond x (e ∷ es) es)) p ∙ ap (λ x. cond x (e ∷ filter u es) (filter u es)) q
step t u e es false b p q = ap (λ x. filter u (cond x (e ∷ es) es)) p

twice : (t u v : EntryData → Bool) (es : List EntryData) → ((e : EntryData) → (t e && u e) ≡ v e) → filter u (filter t es) ≡ filter v es
twice t u v [] h = refl
twice t u v (e ∷ es) h =
    step t u e (filter t es) (t e) (u e) refl refl
    ∙ ap (λ l. cond (t e && u e) (e ∷ l) l) (twice t u v es h)
    ∙ ap (λ b. cond b (e ∷ filter v es) (filter v es)) (h e)

pub kept-twice : (allow block : Option (List (List ℕ))) (f : FilterLevel) (es : List EntryData) → f.allow ≡ allow → f.block ≡ block
    → filter (λ (e : EntryData). is_kept_where false block e.name) (filter (λ (e : EntryData). is_kept_where true allow e.name) es)
    ≡ filter (λ (e : EntryData). level_lets e.name (Some f)) es
kept-twice allow block f es p q =
    twice (λ (e : EntryData). is_kept_where true allow e.name) (λ (e : EntryData). is_kept_where false block e.name) (λ (e : EntryData). level_lets e.name (Some f)) es
    (λ e. ap (λ x. x && is_kept_where false block e.name) (allowed-is e.name allow ∙ ap (λ o. is_allowed e.name o) (sym p))
    ∙ ap (λ x. is_allowed e.name f.allow && x) (unblocked-is e.name block ∙ ap (λ o. is_unblocked e.name o) (sym q)))

-- ---- one entry after another

module _ (t : EntryData → Bool) (ks es : List EntryData) (i : ℕ) (z : EntryData) (all : List EntryData)
    (l : i < length es) (is : z ≡ get_or es i z) (so_far : ks ++ filter t (drop i es) ≡ all) where
  opened : filter t (drop i es) ≡ filter t (z ∷ drop (i + 1) es)
  opened = ap (filter t) (drop_more es i z l ∙ ap (λ w. w ∷ drop (i + 1) es) (sym is))

  pub keeps-one : t z ≡ true → (ks ++ z ∷ []) ++ filter t (drop (i + 1) es) ≡ all
  keeps-one h =
      append_assoc ks (z ∷ []) (filter t (drop (i + 1) es))
      ∙ ap (λ xs. ks ++ xs) (sym (opened ∙ ap (λ b. cond b (z ∷ filter t (drop (i + 1) es)) (filter t (drop (i + 1) es))) h))
      ∙ so_far

  pub leaves-one : t z ≡ false → ks ++ filter t (drop (i + 1) es) ≡ all
  leaves-one h =
      ap (λ xs. ks ++ xs) (sym (opened ∙ ap (λ b. cond b (z ∷ filter t (drop (i + 1) es)) (filter t (drop (i + 1) es))) h))
      ∙ so_far

pub kept-when : (among : Bool) (names : List (List ℕ)) (p : List ℕ) (b : Bool) → b ≡ list_any (λ n. bytes_eq n p) names → b ≡ among → is_kept among names p ≡ true
kept-when true names p b e f = sym e ∙ f
kept-when false names p b e f = ap not (sym e ∙ f)

pub left-when : (among : Bool) (names : List (List ℕ)) (p : List ℕ) (b : Bool) → b ≡ list_any (λ n. bytes_eq n p) names → (b ≡ among → ⊥) → is_kept among names p ≡ false
left-when true names p true e f = absurd (f refl)
left-when true names p false e f = sym e
left-when false names p true e f = ap not (sym e)
left-when false names p false e f = absurd (f refl)
