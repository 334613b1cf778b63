-- The steps of joining two lists in order.
use Rattle.std.proofs.Common.{inl, inr, ◌≡◌, ◌+◌, ◌<◌, ◌≤◌, ◌++◌, sym, ap, refl, subst, ℕ, suc, List, [], ◌∷◌, length, drop, get_or, append_assoc, drop-cons, arith, ◌-◌, take, length-drop}
use Rattle.std.proofs.Math.Seq.{take-length}
use Rattle.std.proofs.lemmas.Grind.{common_steps}
use Rattle.std.specs.Cmp.Lexicographic.{slice_cmp}
use Rattle.std.specs.Ordering.{nat_cmp}
use Rattle.std.specs.declared.cmp.Ordering.TheVariants.{Less, Equal, Greater}
use Rattle.std.proofs.lemmas.Map.Lookups.{exact_bytes}
use Rattle.bind_merge.specs.Levels.{EntryData}
use Rattle.bind_merge.specs.Joining.{Agree, Disagree, joined, Joins, none_left, none_right, left_first, right_first, together, ClashIn}

-- what is left, joined, comes behind what is out; and a clash in what is left is one in the whole
pub record Goes (a b left right out : List EntryData) : Type 0 where
  pub joins : (zs : List EntryData) → Joins left right zs → Joins a b (out ++ zs)
  pub clash : ClashIn left right → ClashIn a b

pub starts : (a b : List EntryData) → Goes a b a b []
starts a b = record { joins = λ zs j. j; clash = λ c. c }

pub takes-left : (a b out : List EntryData) (x : EntryData) (xs : List EntryData) (y : EntryData) (ys : List EntryData)
    → slice_cmp nat_cmp x.name y.name ≡ Less → Goes a b (x ∷ xs) (y ∷ ys) out → Goes a b xs (y ∷ ys) (out ++ x ∷ [])
takes-left a b out x xs y ys e g = record {
  joins = λ zs j. subst (λ l. Joins a b l) (sym (append_assoc out (x ∷ []) zs)) (g.joins (x ∷ zs) (left_first x xs y ys zs e j));
  clash = λ c. g.clash (record { name = c.name; one = c.one; other = c.other; given_one = inr c.given_one; given_other = c.given_other; differ = c.differ });
}

pub takes-right : (a b out : List EntryData) (x : EntryData) (xs : List EntryData) (y : EntryData) (ys : List EntryData)
    → slice_cmp nat_cmp x.name y.name ≡ Greater → Goes a b (x ∷ xs) (y ∷ ys) out → Goes a b (x ∷ xs) ys (out ++ y ∷ [])
takes-right a b out x xs y ys e g = record {
  joins = λ zs j. subst (λ l. Joins a b l) (sym (append_assoc out (y ∷ []) zs)) (g.joins (y ∷ zs) (right_first x xs y ys zs e j));
  clash = λ c. g.clash (record { name = c.name; one = c.one; other = c.other; given_one = c.given_one; given_other = inr c.given_other; differ = c.differ });
}

pub takes-both : (a b out : List EntryData) (x : EntryData) (xs : List EntryData) (y : EntryData) (ys : List EntryData)
    → slice_cmp nat_cmp x.name y.name ≡ Equal → Agree x y → Goes a b (x ∷ xs) (y ∷ ys) out → Goes a b xs ys (out ++ joined x y ∷ [])
takes-both a b out x xs y ys e h g = record {
  joins = λ zs j. subst (λ l. Joins a b l) (sym (append_assoc out (joined x y ∷ []) zs)) (g.joins (joined x y ∷ zs) (together x xs y ys zs e h j));
  clash = λ c. g.clash (record { name = c.name; one = c.one; other = c.other; given_one = inr c.given_one; given_other = inr c.given_other; differ = c.differ });
}

pub clashes : (a b out : List EntryData) (x : EntryData) (xs : List EntryData) (y : EntryData) (ys : List EntryData)
    → slice_cmp nat_cmp x.name y.name ≡ Equal → Disagree x y → Goes a b (x ∷ xs) (y ∷ ys) out → ClashIn a b
clashes a b out x xs y ys e d g = g.clash (record {
  name = x.name;
  one = d.one;
  other = d.other;
  given_one = inl (refl, d.gives_one);
  given_other = inl (sym (exact_bytes x.name y.name e), d.gives_other);
  differ = d.differ;
})

pub left-out : (a b left out : List EntryData) → Goes a b left [] out → Joins a b (out ++ left)
left-out a b left out g = g.joins left (none_right left)

pub right-out : (a b right out : List EntryData) → Goes a b [] right out → Joins a b (out ++ right)
right-out a b right out g = g.joins right (none_left right)

-- ---- the same at places

plus-one : (k : ℕ) → suc k ≡ k + 1
plus-one k = omega arith

drop-at : (es : List EntryData) (k : ℕ) (z : EntryData) → k < length es → z ≡ get_or es k z → drop k es ≡ z ∷ drop (k + 1) es
drop-at es k z h e =
    subst (λ w. drop k es ≡ w ∷ drop (k + 1) es) (sym e)
    (subst (λ m. drop k es ≡ get_or es k z ∷ drop m es) (plus-one k) (drop-cons es k z h))

module _ (a b out : List EntryData) (i j : ℕ) (x y : EntryData) (l : i < length a) (m : j < length b) (ex : x ≡ get_or a i x) (ey : y ≡ get_or b j y)
    (g : Goes a b (drop i a) (drop j b) out) where
  opened : Goes a b (x ∷ drop (i + 1) a) (y ∷ drop (j + 1) b) out
  opened = subst (λ r. Goes a b (x ∷ drop (i + 1) a) r out) (drop-at b j y m ey) (subst (λ r. Goes a b r (drop j b) out) (drop-at a i x l ex) g)

  pub at-left : slice_cmp nat_cmp x.name y.name ≡ Less → Goes a b (drop (i + 1) a) (drop j b) (out ++ x ∷ [])
  at-left e = subst (λ r. Goes a b (drop (i + 1) a) r (out ++ x ∷ [])) (sym (drop-at b j y m ey))
      (takes-left a b out x (drop (i + 1) a) y (drop (j + 1) b) e opened)

  pub at-right : slice_cmp nat_cmp x.name y.name ≡ Greater → Goes a b (drop i a) (drop (j + 1) b) (out ++ y ∷ [])
  at-right e = subst (λ r. Goes a b r (drop (j + 1) b) (out ++ y ∷ [])) (sym (drop-at a i x l ex))
      (takes-right a b out x (drop (i + 1) a) y (drop (j + 1) b) e opened)

  pub at-both : slice_cmp nat_cmp x.name y.name ≡ Equal → Agree x y → Goes a b (drop (i + 1) a) (drop (j + 1) b) (out ++ joined x y ∷ [])
  at-both e h = takes-both a b out x (drop (i + 1) a) y (drop (j + 1) b) e h opened

  pub at-clash : slice_cmp nat_cmp x.name y.name ≡ Equal → Disagree x y → ClashIn a b
  at-clash e d = clashes a b out x (drop (i + 1) a) y (drop (j + 1) b) e d opened

append-nil : (xs : List EntryData) → xs ++ [] ≡ xs
append-nil [] = refl
append-nil (x ∷ xs) = ap (λ l. x ∷ l) (append-nil xs)

drop-past : (es : List EntryData) (k : ℕ) → length es ≤ k → drop k es ≡ []
drop-past es k h = grind (arith, common_steps)

pub no-left : (a b out : List EntryData) (i j : ℕ) → length a ≤ i → Goes a b (drop i a) (drop j b) out → Joins a b ((out ++ drop i a) ++ drop j b)
no-left a b out i j h g =
    let e : drop i a ≡ [] = drop-past a i h in
    subst (λ r. Joins a b ((out ++ r) ++ drop j b)) (sym e)
    (subst (λ r. Joins a b (r ++ drop j b)) (sym (append-nil out)) (right-out a b (drop j b) out (subst (λ r. Goes a b r (drop j b) out) e g)))

pub no-right : (a b out : List EntryData) (i j : ℕ) → length b ≤ j → Goes a b (drop i a) (drop j b) out → Joins a b ((out ++ drop i a) ++ drop j b)
no-right a b out i j h g =
    let e : drop j b ≡ [] = drop-past b j h in
    subst (λ r. Joins a b ((out ++ drop i a) ++ r)) (sym e)
    (subst (λ r. Joins a b r) (sym (append-nil (out ++ drop i a))) (left-out a b (drop i a) out (subst (λ r. Goes a b (drop i a) r out) e g)))

-- what stands from a place on
pub tail-is : (es : List EntryData) (i : ℕ) → take (length es - i) (drop i es) ≡ drop i es
tail-is es i = subst (λ n. take n (drop i es) ≡ drop i es) (length-drop i es) (take-length (drop i es))
