-- What levels say to which those of an included file came.
use Rattle.std.proofs.Common.{◌≡◌, ◌⊎◌, ◌+◌, inl, inr, ◌∙◌, sym, ap, refl, subst, ℕ, zero, suc, true, List, [], ◌∷◌, arith}
use Rattle.std.specs.List.{slice_get}
use Rattle.bind_load.specs.RecordData.{FilterLevel}
use Rattle.bind_merge.specs.Facts.{Fact, Says, Clash}
use Rattle.bind_merge.specs.Levels.{LevelTable}
use Rattle.bind_merge.specs.Passing.{lets}
use Rattle.bind_merge.specs.Joining.{passed}
use Rattle.bind_merge.specs.Ordered.{SaysAt, IsInOrder, LevelRises}
use Rattle.bind_merge.specs.Adding.{AddsAt, behind, onto, below, AddsFrom, no_more, one_more, top_filter, filter_below, Brought}
use Rattle.bind_merge.proofs.JoinedLevels.{level-left, level-right, level-cases, level-rises, level-one, passed-says, says-passed, passed-rises}

pub adds-old : (ts : List LevelTable) (k : ℕ) (l : LevelTable) (us : List LevelTable) → AddsAt ts k l us → (n : ℕ) (f : Fact) → SaysAt ts n f → SaysAt us n f
adds-old _ _ _ _ (behind l) n f h = absurd h
adds-old _ _ _ _ (onto a rest l j h) zero f s = level-left a l j h f s
adds-old _ _ _ _ (onto a rest l j h) (suc n) f s = s
adds-old _ _ _ _ (below a rest k l js h) zero f s = s
adds-old _ _ _ _ (below a rest k l js h) (suc n) f s = adds-old rest k l js h n f s

pub adds-new : (ts : List LevelTable) (k : ℕ) (l : LevelTable) (us : List LevelTable) → AddsAt ts k l us → (f : Fact) → Says l f → SaysAt us k f
adds-new _ _ _ _ (behind l) f s = s
adds-new _ _ _ _ (onto a rest l j h) f s = level-right a l j h f s
adds-new _ _ _ _ (below a rest k l js h) f s = adds-new rest k l js h f s

pub adds-cases : (ts : List LevelTable) (k : ℕ) (l : LevelTable) (us : List LevelTable) → AddsAt ts k l us → (n : ℕ) (f : Fact) → SaysAt us n f → SaysAt ts n f ⊎ ((n ≡ k) × Says l f)
adds-cases _ _ _ _ (behind l) zero f s = inr (refl, s)
adds-cases _ _ _ _ (behind l) (suc n) f s = absurd s
adds-cases _ _ _ _ (onto a rest l j h) zero f s = elim (level-cases a l j h f s) [ inl x ↦ inl x | inr y ↦ inr (refl, y) ]
adds-cases _ _ _ _ (onto a rest l j h) (suc n) f s = inl s
adds-cases _ _ _ _ (below a rest k l js h) zero f s = inl s
adds-cases _ _ _ _ (below a rest k l js h) (suc n) f s =
    elim (adds-cases rest k l js h n f s) [ inl x ↦ inl x | inr y ↦ inr (ap suc y.0, y.1) ]

pub adds-order : (ts : List LevelTable) (k : ℕ) (l : LevelTable) (us : List LevelTable) → AddsAt ts k l us → IsInOrder ts → LevelRises l → IsInOrder us
adds-order _ _ _ _ (behind l) o r = (r, tt)
adds-order _ _ _ _ (onto a rest l j h) o r = (level-rises a l j h o.0 r, o.1)
adds-order _ _ _ _ (below a rest k l js h) o r = (o.0, adds-order rest k l js h o.1 r)

-- ---- all levels of an included file

pub from-old : (ts : List LevelTable) (k : ℕ) (ls : List LevelTable) (fs : List FilterLevel) (us : List LevelTable) → AddsFrom ts k ls fs us → (n : ℕ) (f : Fact) → SaysAt ts n f → SaysAt us n f
from-old _ _ _ _ _ (no_more ts k fs) n f s = s
from-old _ _ _ _ _ (one_more ts k l ls fs bs cs a h) n f s = from-old bs (suc k) ls (filter_below fs) cs h n f (adds-old ts k (passed (top_filter fs) l) bs a n f s)

top-is : (fs : List FilterLevel) → slice_get fs zero ≡ top_filter fs
top-is [] = refl
top-is (f ∷ fs) = refl

below-is : (fs : List FilterLevel) (j : ℕ) → slice_get fs (suc j) ≡ slice_get (filter_below fs) j
below-is [] j = refl
below-is (f ∷ fs) j = refl

plus-zero : (k : ℕ) → k ≡ k + zero
plus-zero k = omega arith

plus-suc : (k j : ℕ) → suc k + j ≡ k + suc j
plus-suc k j = omega arith

pub from-new : (ts : List LevelTable) (k : ℕ) (ls : List LevelTable) (fs : List FilterLevel) (us : List LevelTable) → AddsFrom ts k ls fs us
    → (j : ℕ) (f : Fact) → SaysAt ls j f → lets (slice_get fs j) f ≡ true → SaysAt us (k + j) f
from-new _ _ _ _ _ (no_more ts k fs) j f s e = absurd s
from-new _ _ _ _ _ (one_more ts k l ls fs bs cs a h) zero f s e =
    subst (λ n. SaysAt cs n f) (plus-zero k)
    (from-old bs (suc k) ls (filter_below fs) cs h k f (adds-new ts k (passed (top_filter fs) l) bs a f
    (passed-says (top_filter fs) l f s (subst (λ o. lets o f ≡ true) (top-is fs) e))))
from-new _ _ _ _ _ (one_more ts k l ls fs bs cs a h) (suc j) f s e =
    subst (λ n. SaysAt cs n f) (plus-suc k j)
    (from-new bs (suc k) ls (filter_below fs) cs h j f s (subst (λ o. lets o f ≡ true) (below-is fs j) e))

pub brought-here : (k : ℕ) (l : LevelTable) (ls : List LevelTable) (fs : List FilterLevel) (n : ℕ) (f : Fact) → n ≡ k → Says (passed (top_filter fs) l) f → Brought k (l ∷ ls) fs n f
brought-here k l ls fs n f e s = let h : Says l f × (lets (top_filter fs) f ≡ true) = says-passed (top_filter fs) l f s in
    record { step = zero; place = e ∙ plus-zero k; says = h.0; passes = subst (λ o. lets o f ≡ true) (sym (top-is fs)) h.1 }

pub brought-below : (k : ℕ) (l : LevelTable) (ls : List LevelTable) (fs : List FilterLevel) (n : ℕ) (f : Fact) → Brought (suc k) ls (filter_below fs) n f → Brought k (l ∷ ls) fs n f
brought-below k l ls fs n f b =
    record { step = suc b.step; place = b.place ∙ plus-suc k b.step; says = b.says; passes = subst (λ o. lets o f ≡ true) (sym (below-is fs b.step)) b.passes }

pub from-cases : (ts : List LevelTable) (k : ℕ) (ls : List LevelTable) (fs : List FilterLevel) (us : List LevelTable) → AddsFrom ts k ls fs us
    → (n : ℕ) (f : Fact) → SaysAt us n f → SaysAt ts n f ⊎ Brought k ls fs n f
from-cases _ _ _ _ _ (no_more ts k fs) n f s = inl s
from-cases _ _ _ _ _ (one_more ts k l ls fs bs cs a h) n f s =
    elim (from-cases bs (suc k) ls (filter_below fs) cs h n f s) [
      | inl x ↦ elim (adds-cases ts k (passed (top_filter fs) l) bs a n f x) [
        | inl y ↦ inl y
        | inr y ↦ inr (brought-here k l ls fs n f y.0 y.1)
      ]
      | inr x ↦ inr (brought-below k l ls fs n f x)
    ]

pub from-order : (ts : List LevelTable) (k : ℕ) (ls : List LevelTable) (fs : List FilterLevel) (us : List LevelTable) → AddsFrom ts k ls fs us → IsInOrder ts → IsInOrder ls → IsInOrder us
from-order _ _ _ _ _ (no_more ts k fs) o r = o
from-order _ _ _ _ _ (one_more ts k l ls fs bs cs a h) o r =
    from-order bs (suc k) ls (filter_below fs) cs h (adds-order ts k (passed (top_filter fs) l) bs a o (passed-rises (top_filter fs) l r.0)) r.1

-- levels in order don't say two values of one key
pub levels-one : (ts : List LevelTable) → IsInOrder ts → (n : ℕ) (f g : Fact) → SaysAt ts n f → SaysAt ts n g → Clash f g → ⊥
levels-one [] o n f g h k c = h
levels-one (t ∷ ts) o zero f g h k c = level-one t o.0 f g h k c
levels-one (t ∷ ts) o (suc n) f g h k c = levels-one ts o.1 n f g h k c
