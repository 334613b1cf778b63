-- The characters of a file with one line feed for each line end: which lines had a carriage return before it, whether the last
-- one had none, and that reading takes both alike.
use Rattle.std.proofs.Common.{◌≡◌, ℕ, zero, suc, ◌+◌, Bool, true, false, not, ◌&&◌, ◌==◌, List, [], ◌∷◌, if◌then◌else◌, refl, sym, ap, subst, ◌∙◌, arith, inl, inr}
use Rattle.std.proofs.lemmas.Bool.{and_parts, cases_Bool}
use Rattle.yaml_profile.specs.Signs.{begins_with}
use Rattle.yaml_profile.specs.Written.{end_of_line, with_ends, ends_begun, is_clear}
use Rattle.yaml_profile.proofs.ReadSteps.{is_that, all_ended}

-- the characters with each line end as one line feed, after the last line too
abbrev pub lines_of : (within : Bool) → List ℕ → List ℕ
lines_of within [] = if within then 10 ∷ [] else []
lines_of within (c ∷ cs) = if (c == 13) && begins_with 10 cs then lines_of within cs else c ∷ lines_of (not (c == 10)) cs

-- whether the line at this place ends with a carriage return before its line feed
abbrev at_return : (ℕ → Bool) → ℕ → Bool
at_return g zero = true
at_return g (suc n) = g (suc n)

abbrev at_feed : (ℕ → Bool) → ℕ → Bool
at_feed g zero = false
at_feed g (suc n) = g n

abbrev pub returned_at : List ℕ → ℕ → Bool
returned_at [] n = false
returned_at (c ∷ cs) n = if (c == 13) && begins_with 10 cs then at_return (returned_at cs) n else if c == 10 then at_feed (returned_at cs) n else returned_at cs n

-- the last line has no end
abbrev pub is_cut : (within : Bool) → List ℕ → Bool
is_cut within cs = not (all_ended within cs)

-- these lines end as is said from this one on
abbrev EndSo : (ℕ → Bool) → (line : ℕ) → List ℕ → Type 0
EndSo f line cs = (n : ℕ) → f (line + n) ≡ returned_at cs n

-- ---- what stands where

data First (c : ℕ) (cs : List ℕ) : Type 0 where
  Return : (ds : List ℕ) → c ≡ 13 → cs ≡ 10 ∷ ds → First c cs
  Feed : c ≡ 10 → First c cs
  Other : (c == 10) ≡ false → ((c == 13) && begins_with 10 cs) ≡ false → First c cs

first_is : (c : ℕ) (cs : List ℕ) → First c cs
first_is c [] = elim (cases_Bool (c == 10)) [
  | inl e ↦ Feed (sym (is_that c 10 e))
  | inr e ↦ Other e (elim (cases_Bool (c == 13)) [ inl g ↦ rw g refl | inr g ↦ rw g refl ])
]
first_is c (d ∷ ds) = elim (cases_Bool ((c == 13) && (d == 10))) [
  | inl e ↦ let h : ((c == 13) ≡ true) × ((d == 10) ≡ true) = and_parts _ _ e in Return ds (sym (is_that c 13 h.0)) (ap (λ (x : ℕ). x ∷ ds) (sym (is_that d 10 h.1)))
  | inr e ↦ elim (cases_Bool (c == 10)) [ inl g ↦ Feed (sym (is_that c 10 g)) | inr g ↦ Other g e ]
]

-- by what stands first
by_first : (P : List ℕ → Type 0) (c : ℕ) (cs : List ℕ) → ((ds : List ℕ) → cs ≡ 10 ∷ ds → P (13 ∷ 10 ∷ ds)) → P (10 ∷ cs) → ((c == 10) ≡ false → ((c == 13) && begins_with 10 cs) ≡ false → P (c ∷ cs)) → P (c ∷ cs)
by_first P c cs a b d = elim (first_is c cs) [
  | Return ds e f ↦ let q : 13 ∷ 10 ∷ ds ≡ c ∷ cs = ap (λ (x : ℕ). x ∷ 10 ∷ ds) (sym e) ∙ ap (λ (xs : List ℕ). c ∷ xs) (sym f) in subst P q (a ds f)
  | Feed e ↦ subst (λ (x : ℕ). P (x ∷ cs)) (sym e) b
  | Other e f ↦ d e f
]

-- by what stands first, line end by line end and character by character
abbrev Both : (P : List ℕ → Type 0) → List ℕ → Type 0
Both P [] = P []
Both P (c ∷ cs) = P (c ∷ cs) × P cs

whole : (P : List ℕ → Type 0) (cs : List ℕ) → Both P cs → P cs
whole P [] b = b
whole P (c ∷ cs) b = b.0

behind_feed : (P : List ℕ → Type 0) (cs ds : List ℕ) → cs ≡ 10 ∷ ds → Both P cs → P ds
behind_feed P cs ds e b = let q : Both P (10 ∷ ds) = subst (λ (xs : List ℕ). Both P xs) e b in q.1

both_lines : (P : List ℕ → Type 0) → P [] → ((ds : List ℕ) → P ds → P (13 ∷ 10 ∷ ds)) → ((cs : List ℕ) → P cs → P (10 ∷ cs))
    → ((c : ℕ) (cs : List ℕ) → (c == 10) ≡ false → ((c == 13) && begins_with 10 cs) ≡ false → P cs → P (c ∷ cs)) → (cs : List ℕ) → Both P cs
both_lines P n r f k [] = n
both_lines P n r f k (c ∷ cs) =
    let b : Both P cs = both_lines P n r f k cs in
    (by_first P c cs (λ ds e. r ds (behind_feed P cs ds e b)) (f cs (whole P cs b)) (λ e g. k c cs e g (whole P cs b)), whole P cs b)

pub by_lines : (P : List ℕ → Type 0) → P [] → ((ds : List ℕ) → P ds → P (13 ∷ 10 ∷ ds)) → ((cs : List ℕ) → P cs → P (10 ∷ cs))
    → ((c : ℕ) (cs : List ℕ) → (c == 10) ≡ false → ((c == 13) && begins_with 10 cs) ≡ false → P cs → P (c ∷ cs)) → (cs : List ℕ) → P cs
by_lines P n r f k cs = whole P cs (both_lines P n r f k cs)

-- ---- the line ends are told

data Filled (within : Bool) (cs : List ℕ) : Type 0 where
  None : cs ≡ [] → Filled within cs
  Some : (head : ℕ) (tail : List ℕ) → lines_of within cs ≡ head ∷ tail → Filled within cs

filled : (cs : List ℕ) (within : Bool) → Filled within cs
filled cs = by_lines (λ xs. (within : Bool) → Filled within xs) (λ within. None refl) (λ ds h within. Some 10 (lines_of false ds) refl) (λ ds h within. Some 10 (lines_of false ds) refl)
    (λ c ds e g h within. Some c (lines_of (not (c == 10)) ds) (rw g refl)) cs

abbrev line_end : Bool → List ℕ → List ℕ
line_end true more = 13 ∷ 10 ∷ more
line_end false more = 10 ∷ more

inner_end : (cut r : Bool) (x : ℕ) (xs more : List ℕ) → end_of_line cut r (x ∷ xs) more ≡ line_end r more
inner_end true true x xs more = refl
inner_end true false x xs more = refl
inner_end false true x xs more = refl
inner_end false false x xs more = refl

whole_end : (r : Bool) (rest more : List ℕ) → end_of_line false r rest more ≡ line_end r more
whole_end true rest more = refl
whole_end false rest more = refl

no_end : (r : Bool) (more : List ℕ) → end_of_line true r [] more ≡ []
no_end true more = refl
no_end false more = refl

feed_end : (ds : List ℕ) (r : Bool) (more : List ℕ) → end_of_line (is_cut false ds) r (lines_of false ds) more ≡ line_end r more
feed_end ds r more = elim (filled ds false) [
  | None e ↦ subst (λ (xs : List ℕ). end_of_line (is_cut false xs) r (lines_of false xs) more ≡ line_end r more) (sym e) (whole_end r [] more)
  | Some x xs e ↦ rw e (inner_end (is_cut false ds) r x xs more)
]

so_later : (f : ℕ → Bool) (line : ℕ) (b : ℕ → Bool) → ((n : ℕ) → f (line + suc n) ≡ b n) → (n : ℕ) → f (suc line + n) ≡ b n
so_later f line b h n = let e : suc line + n ≡ line + suc n = omega arith in ap f e ∙ h n

so_here : (f : ℕ → Bool) (line : ℕ) (b : Bool) → f (line + 0) ≡ b → f line ≡ b
so_here f line b h = let e : line ≡ line + 0 = omega arith in ap f e ∙ h

abbrev Told : List ℕ → Type 0
Told cs = (within : Bool) (f : ℕ → Bool) (line : ℕ) → EndSo f line cs → (with_ends (is_cut within cs) f line (lines_of within cs) ≡ cs) × (is_clear (is_cut within cs) f line (lines_of within cs) ≡ true)

told_none : Told []
told_none true f line h = (no_end (f line) [], refl)
told_none false f line h = (refl, refl)

told_return : (ds : List ℕ) → Told ds → Told (13 ∷ 10 ∷ ds)
told_return ds ih within f line h =
    let t : (with_ends (is_cut false ds) f (suc line) (lines_of false ds) ≡ ds) × (is_clear (is_cut false ds) f (suc line) (lines_of false ds) ≡ true) = ih false f (suc line) (so_later f line (returned_at ds) (λ n. h (suc n))) in
    let here : f line ≡ true = so_here f line true (h 0) in
    (feed_end ds (f line) (with_ends (is_cut false ds) f (suc line) (lines_of false ds)) ∙ rw here (ap (λ (xs : List ℕ). 13 ∷ 10 ∷ xs) t.0), t.1)

told_feed : (ds : List ℕ) → Told ds → Told (10 ∷ ds)
told_feed ds ih within f line h =
    let t : (with_ends (is_cut false ds) f (suc line) (lines_of false ds) ≡ ds) × (is_clear (is_cut false ds) f (suc line) (lines_of false ds) ≡ true) = ih false f (suc line) (so_later f line (returned_at ds) (λ n. h (suc n))) in
    let here : f line ≡ false = so_here f line false (h 0) in
    (feed_end ds (f line) (with_ends (is_cut false ds) f (suc line) (lines_of false ds)) ∙ rw here (ap (λ (xs : List ℕ). 10 ∷ xs) t.0), t.1)

cut_other : (within : Bool) (c : ℕ) (cs : List ℕ) → (c == 10) ≡ false → is_cut true cs ≡ is_cut within (c ∷ cs)
cut_other within c cs e = rw e refl

pub lines_other : (within : Bool) (c : ℕ) (cs : List ℕ) → (c == 10) ≡ false → ((c == 13) && begins_with 10 cs) ≡ false → c ∷ lines_of true cs ≡ lines_of within (c ∷ cs)
lines_other within c cs e g = rw (g, e) refl

ends_other : (cut : Bool) (f : ℕ → Bool) (line c : ℕ) (xs : List ℕ) → (c == 10) ≡ false → with_ends cut f line (c ∷ xs) ≡ c ∷ with_ends cut f line xs
ends_other cut f line c xs e = rw e refl

clear_other : (cut : Bool) (f : ℕ → Bool) (line c : ℕ) (xs : List ℕ) → (c == 10) ≡ false → ((c == 13) && begins_with 10 (with_ends cut f line xs)) ≡ false → is_clear cut f line xs ≡ true → is_clear cut f line (c ∷ xs) ≡ true
clear_other cut f line c xs e g h = rw (g, e) h

told_other : (c : ℕ) (cs : List ℕ) → (c == 10) ≡ false → ((c == 13) && begins_with 10 cs) ≡ false → Told cs → Told (c ∷ cs)
told_other c cs e g ih within f line h =
    let k : Bool = is_cut true cs in
    let xs : List ℕ = lines_of true cs in
    let so : EndSo f line cs = λ n. h n ∙ rw (g, e) refl in
    let t : (with_ends k f line xs ≡ cs) × (is_clear k f line xs ≡ true) = ih true f line so in
    let here : ((c == 13) && begins_with 10 (with_ends k f line xs)) ≡ false = ap (λ (ys : List ℕ). (c == 13) && begins_with 10 ys) t.0 ∙ g in
    let G : Bool → List ℕ → Type 0 = λ l ys. (with_ends l f line ys ≡ c ∷ cs) × (is_clear l f line ys ≡ true) in
    let both : G k (c ∷ xs) = (ends_other k f line c xs e ∙ ap (λ (ys : List ℕ). c ∷ ys) t.0, clear_other k f line c xs e here t.1) in
    subst (λ (l : Bool). G l (lines_of within (c ∷ cs))) (cut_other within c cs e) (subst (λ (ys : List ℕ). G k ys) (lines_other within c cs e g) both)

pub told : (cs : List ℕ) → Told cs
told = by_lines Told told_none told_return told_feed told_other

-- from the first line on
pub so_from : (cs : List ℕ) → EndSo (returned_at cs) 0 cs
so_from cs n = let e : 0 + n ≡ n = omega arith in ap (returned_at cs) e

-- the last line has its end then
none_ended : (within : Bool) → all_ended within (lines_of within []) ≡ true
none_ended true = refl
none_ended false = refl

pub lines_ended : (cs : List ℕ) (within : Bool) → all_ended within (lines_of within cs) ≡ true
lines_ended = by_lines (λ xs. (within : Bool) → all_ended within (lines_of within xs) ≡ true) none_ended (λ ds h within. h false) (λ ds h within. h false) (λ c ds e g h within. rw (g, e, e) (h true))

begun_more : (begun within : Bool) (c x : ℕ) (xs : List ℕ) → not (c == 10) ≡ within → ends_begun within (x ∷ xs) ≡ true → ends_begun begun (c ∷ x ∷ xs) ≡ true
begun_more begun within c x xs w h = rw w h

more_begun : (cs : List ℕ) (begun within : Bool) (c : ℕ) → is_cut within cs ≡ true → not (c == 10) ≡ within → ends_begun within (lines_of within cs) ≡ true → ends_begun begun (c ∷ lines_of within cs) ≡ true
more_begun [] begun true c k w h = begun_more begun true c 10 [] w refl
more_begun [] begun false c k w h = cc
more_begun (d ∷ ds) begun within c k w h = elim (filled (d ∷ ds) within) [
  | None e ↦ absurd (cc)
  | Some x xs e ↦ rw e (begun_more begun within c x xs w (rw e at h))
]

-- where the last line has no end it has characters
abbrev Cuts : List ℕ → Type 0
Cuts cs = (within : Bool) → is_cut within cs ≡ true → ends_begun within (lines_of within cs) ≡ true

cuts_none : Cuts []
cuts_none true h = refl
cuts_none false h = cc

cuts_other : (c : ℕ) (cs : List ℕ) → (c == 10) ≡ false → ((c == 13) && begins_with 10 cs) ≡ false → Cuts cs → Cuts (c ∷ cs)
cuts_other c cs e g ih within h =
    let k : is_cut true cs ≡ true = cut_other within c cs e ∙ h in
    subst (λ (xs : List ℕ). ends_begun within xs ≡ true) (lines_other within c cs e g) (more_begun cs within true c k (rw e refl) (ih true k))

pub cuts : (cs : List ℕ) → Cuts cs
cuts = by_lines Cuts cuts_none (λ ds ih within h. more_begun ds within false 10 h refl (ih false h)) (λ ds ih within h. more_begun ds within false 10 h refl (ih false h)) cuts_other
