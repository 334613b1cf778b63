-- The walk over nodes: it comes to each once, to none without its parent, and from each to what stands in it or beside it or above.
use Rattle.std.proofs.Common.{◌≡◌, ◌∙◌, ◌≤◌, ◌++◌, ◌⊎◌, ◌∷◌, [], ℕ, zero, suc, Bool, true, List, Some, length, refl, sym, ap, subst, inl, inr, arith}
use Rattle.std.specs.Prelude.{slice_get}
use Rattle.std.specs.List.{flat_map}
use Rattle.std.proofs.lemmas.Bool.{false≢true}
use Rattle.std.proofs.lemmas.Option.{same_Some, none-some}
use Rattle.dts_tree.specs.declared.spot.Step.{Step}
use Rattle.dts_tree.specs.declared.spot.Step.TheVariants.{Child, Prop}
use Rattle.dts_tree.specs.Places.{Place, is_within, is_child_of}
use Rattle.dts_tree.specs.Deeds.{Deed}
use Rattle.dts_tree.specs.Live.{spots, children}
use Rattle.dts_tree.specs.Whole.{walk, kept_children, always}
use Rattle.dts_tree.proofs.Lists.{Member, member_of_filter, member_in_filter}
use Rattle.dts_tree.proofs.PlaceLaws.{same_place, within_self, within_more, within_cases, within_longer}
use Rattle.dts_tree.proofs.Apart.{Apart, apart_filter, apart_flat, flat_member, member_flat, spots_apart}

abbrev pub walk_from : ℕ → List Deed → (Place → Bool) → Place → List Place
walk_from m us keep p = walk m (kept_children us keep) p

child_is : (p c : Place) → is_child_of p c ≡ true → (n : List ℕ) × (c ≡ Child n ∷ p)
child_is p [] h = absurd (false≢true h)
child_is p (Child n ∷ q) h = (n, ap (λ r. Child n ∷ r) (sym (same_place p q h)))
child_is p (Prop n ∷ q) h = absurd (false≢true h)

kept_child : (us : List Deed) (keep : Place → Bool) (p c : Place) → Member c (kept_children us keep p)
    → (Member c (spots us)) × (is_child_of p c ≡ true) × (keep c ≡ true)
kept_child us keep p c m =
    let r = member_of_filter keep (children us p) c m in
    let s = member_of_filter (is_child_of p) (spots us) c r.0 in
    (s.0, s.1, r.1)

-- ---- what stands within what

within_up : (s : Step) (p q : Place) → is_within (s ∷ p) q ≡ true → is_within p q ≡ true
within_up s p [] h = absurd (false≢true h)
within_up s p (t ∷ q) h = elim (within_cases (s ∷ p) t q h) [
  | inl e ↦ subst (λ w. is_within p w ≡ true) e (within_more p s p (within_self p))
  | inr w ↦ within_more p t q (within_up s p q w)
]

too_deep : (s : Step) (p : Place) → is_within (s ∷ p) p ≡ true → ⊥
too_deep s p h = let l : length (s ∷ p) ≤ length p = within_longer (s ∷ p) p h in omega arith

-- two steps from one place don't both lead above a third
within_one : (s t : Step) (p q : Place) → is_within (s ∷ p) q ≡ true → is_within (t ∷ p) q ≡ true → s ∷ p ≡ t ∷ p
within_one s t p [] h k = absurd (false≢true h)
within_one s t p (u ∷ q) h k = elim (within_cases (s ∷ p) u q h) [
  | inl e ↦ elim (within_cases (t ∷ p) u q k) [
    | inl f ↦ e ∙ sym f
    | inr w ↦ let same : p ≡ q = cc in absurd (too_deep t p (subst (λ x. is_within (t ∷ p) x ≡ true) (sym same) w))
  ]
  | inr v ↦ elim (within_cases (t ∷ p) u q k) [
    | inl f ↦ let same : p ≡ q = cc in absurd (too_deep s p (subst (λ x. is_within (s ∷ p) x ≡ true) (sym same) v))
    | inr w ↦ within_one s t p q v w
  ]
]

child_within : (p c q : Place) → is_child_of p c ≡ true → is_within c q ≡ true → is_within p q ≡ true
child_within p c q h w = let r = child_is p c h in within_up (Child r.0) p q (subst (λ x. is_within x q ≡ true) r.1 w)

below_child : (p c : Place) → is_child_of p c ≡ true → is_within p c ≡ true
below_child p c h = child_within p c c h (within_self c)

pub walk_within : (m : ℕ) (us : List Deed) (keep : Place → Bool) (p q : Place) → Member q (walk_from m us keep p) → is_within p q ≡ true
walk_within zero us keep p q m = absurd m
walk_within (suc k) us keep p q (inl e) = subst (λ x. is_within p x ≡ true) e (within_self p)
walk_within (suc k) us keep p q (inr m) =
    let r = flat_member (walk_from k us keep) (kept_children us keep p) q m in
    child_within p r.0 q (kept_child us keep p r.0 r.1).1 (walk_within k us keep r.0 q r.2)

-- ---- each once

one_child : (p c d q : Place) → is_child_of p c ≡ true → is_child_of p d ≡ true → is_within c q ≡ true → is_within d q ≡ true → c ≡ d
one_child p c d q h k v w =
    let r = child_is p c h in
    let s = child_is p d k in
    r.1 ∙ (within_one (Child r.0) (Child s.0) p q (subst (λ x. is_within x q ≡ true) r.1 v) (subst (λ x. is_within x q ≡ true) s.1 w) ∙ sym s.1)

no_child : (p c : Place) → is_child_of p c ≡ true → is_within c p ≡ true → ⊥
no_child p c h w = let r = child_is p c h in too_deep (Child r.0) p (subst (λ x. is_within x p ≡ true) r.1 w)

pub walk_apart : (m : ℕ) (us : List Deed) (keep : Place → Bool) (p : Place) → Apart (walk_from m us keep p)
walk_apart zero us keep p = tt
walk_apart (suc k) us keep p = (
  λ m.
      let r = flat_member (walk_from k us keep) (kept_children us keep p) p m in
      no_child p r.0 (kept_child us keep p r.0 r.1).1 (walk_within k us keep r.0 p r.2),
  apart_flat (walk_from k us keep) (kept_children us keep p) (apart_filter keep (children us p) (apart_filter (is_child_of p) (spots us) (spots_apart us)))
      (λ c m. walk_apart k us keep c)
      (λ c d q m n v w.
      one_child p c d q (kept_child us keep p c m).1 (kept_child us keep p d n).1 (walk_within k us keep c q v) (walk_within k us keep d q w)),
)

-- ---- none without its parent

-- a node that is there and kept, whose parent is walked
pub record IsBelow (us : List Deed) (keep : Place → Bool) (walked : List Place) (q : Place) : Type 0 where
  pub name : List ℕ
  pub up : Place
  pub place : q ≡ Child name ∷ up
  pub walked_up : Member up walked
  pub there : Member q (spots us)
  pub kept : keep q ≡ true

walk_first : (m : ℕ) (us : List Deed) (keep : Place → Bool) (p q : Place) → Member q (walk_from m us keep p) → Member p (walk_from m us keep p)
walk_first zero us keep p q m = absurd m
walk_first (suc k) us keep p q m = inl refl

pub walk_known : (m : ℕ) (us : List Deed) (keep : Place → Bool) (p q : Place) → Member q (walk_from m us keep p) → (q ≡ p) ⊎ IsBelow us keep (walk_from m us keep p) q
walk_known zero us keep p q m = absurd m
walk_known (suc k) us keep p q (inl e) = inl (sym e)
walk_known (suc k) us keep p q (inr m) =
    let r = flat_member (walk_from k us keep) (kept_children us keep p) q m in
    let c : Place = r.0 in
    let known = kept_child us keep p c r.1 in
    elim (walk_known k us keep c q r.2) [
      | inl e ↦
          let s = child_is p c known.1 in
          inr (record { name = s.0; up = p; place = e ∙ s.1; walked_up = inl refl; there = subst (λ x. Member x (spots us)) (sym e) known.0; kept = ap keep e ∙ known.2 })
      | inr b ↦
          inr (record {
            name = b.name;
            up = b.up;
            place = b.place;
            walked_up = inr (member_flat (walk_from k us keep) (kept_children us keep p) c b.up r.1 b.walked_up);
            there = b.there;
            kept = b.kept;
          })
    ]

-- the walk over the kept nodes comes to nodes that the walk over all comes to
pub walk_less : (m : ℕ) (us : List Deed) (keep : Place → Bool) (p q : Place) → Member q (walk_from m us keep p) → Member q (walk_from m us always p)
walk_less zero us keep p q m = absurd m
walk_less (suc k) us keep p q (inl e) = inl e
walk_less (suc k) us keep p q (inr m) =
    let r = flat_member (walk_from k us keep) (kept_children us keep p) q m in
    let s = member_of_filter keep (children us p) r.0 r.1 in
    inr (member_flat (walk_from k us always) (kept_children us always p) r.0 q (member_in_filter always (children us p) r.0 s.0 refl) (walk_less k us keep r.0 q r.2))

-- ---- from each to what stands in it or beside it or above

abbrev pub IsNext : Place → Place → Type 0
IsNext before [] = ⊥
IsNext before (s ∷ p) = is_within p before ≡ true

abbrev pub Follow : Place → List Place → Type 0
Follow before [] = Unit {0}
Follow before (p ∷ ps) = IsNext before p × Follow p ps

follow_append : (xs ys : List Place) (before : Place) → Follow before xs → ((z : Place) → (z ≡ before) ⊎ Member z xs → Follow z ys) → Follow before (xs ++ ys)
follow_append [] ys before f h = h before (inl refl)
follow_append (x ∷ xs) ys before f h = (f.0, follow_append xs ys x f.1 (λ z m. elim m [ inl e ↦ h z (inr (inl (sym e))) | inr n ↦ h z (inr (inr n)) ]))

-- walks from children one after another
follow_list : (f : Place → List Place) (p : Place) (cs : List Place) (before : Place) → ((c b : Place) → Member c cs → is_within p b ≡ true → Follow b (f c))
    → ((c z : Place) → Member c cs → Member z (f c) → is_within p z ≡ true) → is_within p before ≡ true → Follow before (flat_map f cs)
follow_list f p [] before g w h = tt
follow_list f p (c ∷ cs) before g w h =
    follow_append (f c) (flat_map f cs) before (g c before (inl refl) h) (λ z m. follow_list f p cs z (λ d b n. g d b (inr n)) (λ d y n. w d y (inr n)) (elim m [
      | inl e ↦ subst (λ x. is_within p x ≡ true) (sym e) h
      | inr n ↦ w c z (inl refl) n
    ]))

next_child : (p c before : Place) → is_child_of p c ≡ true → is_within p before ≡ true → IsNext before c
next_child p c before h w = let r = child_is p c h in subst (λ x. IsNext before x) (sym r.1) w

below_follow : (k : ℕ) (us : List Deed) (keep : Place → Bool) (p : Place)
    → ((c b : Place) → is_child_of p c ≡ true → is_within p b ≡ true → Follow b (walk_from k us keep c)) → Follow p (flat_map (walk_from k us keep) (kept_children us keep p))
below_follow k us keep p go =
    follow_list (walk_from k us keep) p (kept_children us keep p) p (λ c b m w. go c b (kept_child us keep p c m).1 w)
    (λ c z m n. child_within p c z (kept_child us keep p c m).1 (walk_within k us keep c z n)) (within_self p)

walk_follows : (m : ℕ) (us : List Deed) (keep : Place → Bool) (p c before : Place) → is_child_of p c ≡ true → is_within p before ≡ true → Follow before (walk_from m us keep c)
walk_follows zero us keep p c before h w = tt
walk_follows (suc k) us keep p c before h w = (next_child p c before h w, below_follow k us keep c (λ d b g v. walk_follows k us keep c d b g v))

pub all_follow : (k : ℕ) (us : List Deed) (keep : Place → Bool) (p : Place) → Follow p (flat_map (walk_from k us keep) (kept_children us keep p))
all_follow k us keep p = below_follow k us keep p (λ d b g v. walk_follows k us keep p d b g v)

pub follow_at : (p : Place) (ps : List Place) (i : ℕ) (q r : Place) → Follow p ps → slice_get (p ∷ ps) i ≡ Some q → slice_get ps i ≡ Some r → IsNext q r
follow_at p [] i q r f g h = absurd (none-some r h)
follow_at p (x ∷ ps) zero q r f g h = subst (λ y. IsNext y r) (same_Some p q g) (subst (λ y. IsNext p y) (same_Some x r h) f.0)
follow_at p (x ∷ ps) (suc i) q r f g h = follow_at x ps i q r f.1 g h
