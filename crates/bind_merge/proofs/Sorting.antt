-- Sorting by joining halves.
use Rattle.std.proofs.Common.{inl, inr, ◌⊎◌, ◌<◌, ◌++◌, ℕ, List, [], ◌∷◌, Option, Some, None, length, arith}
use Rattle.bind_merge.specs.Facts.{Setting, IsGiven}
use Rattle.bind_merge.specs.Levels.{EntryData}
use Rattle.bind_merge.specs.Joining.{ClashIn}
use Rattle.bind_merge.specs.Adding.{IsSortedOf}
use Rattle.bind_merge.specs.Answering.{JoinsOr, SortedOr}
use Rattle.bind_merge.proofs.JoinedLists.{joins-left, joins-right, joins-cases, joins-rise}

given-front : (xs ys : List EntryData) (p : List ℕ) (s : Setting) → IsGiven xs p s → IsGiven (xs ++ ys) p s
given-front [] ys p s g = absurd g
given-front (x ∷ xs) ys p s (inl g) = inl g
given-front (x ∷ xs) ys p s (inr g) = inr (given-front xs ys p s g)

given-back : (xs ys : List EntryData) (p : List ℕ) (s : Setting) → IsGiven ys p s → IsGiven (xs ++ ys) p s
given-back [] ys p s g = g
given-back (x ∷ xs) ys p s g = inr (given-back xs ys p s g)

given-parts : (xs ys : List EntryData) (p : List ℕ) (s : Setting) → IsGiven (xs ++ ys) p s → IsGiven xs p s ⊎ IsGiven ys p s
given-parts [] ys p s g = inr g
given-parts (x ∷ xs) ys p s (inl g) = inl (inl g)
given-parts (x ∷ xs) ys p s (inr g) = elim (given-parts xs ys p s g) [ inl h ↦ inl (inr h) | inr h ↦ inr h ]

clash-wider : (xs ys us vs : List EntryData) → ((p : List ℕ) (s : Setting) → IsGiven xs p s → IsGiven us p s) → ((p : List ℕ) (s : Setting) → IsGiven ys p s → IsGiven vs p s) → ClashIn xs ys → ClashIn us vs
clash-wider xs ys us vs f g c = record {
  name = c.name;
  one = c.one;
  other = c.other;
  given_one = f c.name c.one c.given_one;
  given_other = g c.name c.other c.given_other;
  differ = c.differ;
}

pub sorted-short : (es : List EntryData) → length es < 2 → IsSortedOf es es
sorted-short [] h = record { rises = tt; given = λ p s g. g; all = λ p s g. g }
sorted-short (x ∷ []) h = record { rises = (tt, tt); given = λ p s g. g; all = λ p s g. g }
sorted-short (x ∷ y ∷ es) h = absurd (omega arith)

-- the halves in order, joined
pub sorted-halves : (xs ys fs bs : List EntryData) → IsSortedOf xs fs → IsSortedOf ys bs → (r : Option (List EntryData)) → JoinsOr fs bs r → SortedOr (xs ++ ys) r
sorted-halves xs ys fs bs f b (Some zs) j = record {
  rises = joins-rise fs bs zs j f.rises b.rises;
  given = λ p s g. elim (joins-cases fs bs zs j p s g) [ inl h ↦ given-front xs ys p s (f.given p s h) | inr h ↦ given-back xs ys p s (b.given p s h) ];
  all = λ p s g. elim (given-parts xs ys p s g) [ inl h ↦ joins-left fs bs zs j p s (f.all p s h) | inr h ↦ joins-right fs bs zs j p s (b.all p s h) ];
}
sorted-halves xs ys fs bs f b None c =
    clash-wider fs bs (xs ++ ys) (xs ++ ys) (λ p s g. given-front xs ys p s (f.given p s g)) (λ p s g. given-back xs ys p s (b.given p s g)) c

pub clash-front : (xs ys : List EntryData) → ClashIn xs xs → ClashIn (xs ++ ys) (xs ++ ys)
clash-front xs ys c = clash-wider xs xs (xs ++ ys) (xs ++ ys) (given-front xs ys) (given-front xs ys) c

pub clash-back : (xs ys : List EntryData) → ClashIn ys ys → ClashIn (xs ++ ys) (xs ++ ys)
clash-back xs ys c = clash-wider ys ys (xs ++ ys) (xs ++ ys) (given-back xs ys) (given-back xs ys) c
