-- Where two values of one key come together, the file is in conflict.
use Rattle.std.proofs.Common.{◌≡◌, ◌+◌, ◌-◌, ◌≤◌, inl, inr, refl, subst, ℕ, suc, Bool, true, false, List, ◌∷◌, arith}
use Rattle.std.specs.List.{slice_get}
use Rattle.bind_load.specs.RecordData.{FilterLevel, IncludeData}
use Rattle.bind_merge.specs.Facts.{Fact}
use Rattle.bind_merge.specs.Files.{FileData}
use Rattle.bind_merge.specs.Holdings.{Holds, by_include, Includes}
use Rattle.bind_merge.specs.Conflicts.{Conflict, HasConflict, at_once, through}
use Rattle.bind_merge.specs.Levels.{LevelTable}
use Rattle.bind_merge.specs.Passing.{lets}
use Rattle.bind_merge.specs.Joining.{passed}
use Rattle.bind_merge.specs.Ordered.{SaysAt}
use Rattle.bind_merge.specs.Adding.{AddsAt, AddsFrom, one_more, top_filter, filter_below, Either, ClashFrom, ClashAt, Comes}
use Rattle.bind_merge.specs.Merging.{IsMerged}
use Rattle.bind_merge.proofs.AddedLevels.{adds-cases, from-cases, brought-here, brought-below}

either-back : (ts : List LevelTable) (k : ℕ) (l : LevelTable) (ls : List LevelTable) (fs : List FilterLevel) (bs : List LevelTable)
    → AddsAt ts k (passed (top_filter fs) l) bs → (n : ℕ) (f : Fact) → Either bs (suc k) ls (filter_below fs) n f → Either ts k (l ∷ ls) fs n f
either-back ts k l ls fs bs a n f (inl s) = elim (adds-cases ts k (passed (top_filter fs) l) bs a n f s) [
  | inl x ↦ inl x
  | inr x ↦ inr (brought-here k l ls fs n f x.0 x.1)
]
either-back ts k l ls fs bs a n f (inr b) = inr (brought-below k l ls fs n f b)

-- a step of adding an included file's levels
pub comes-step : (b : Bool) (ts : List LevelTable) (k : ℕ) (l : LevelTable) (ls : List LevelTable) (fs : List FilterLevel) (bs us : List LevelTable)
    → AddsAt ts k (passed (top_filter fs) l) bs → Comes b bs (suc k) ls (filter_below fs) us → Comes b ts k (l ∷ ls) fs us
comes-step true ts k l ls fs bs us a c = one_more ts k l ls fs bs us a c
comes-step false ts k l ls fs bs us a c = record {
  step = c.step;
  one = c.one;
  other = c.other;
  says_one = either-back ts k l ls fs bs a c.step c.one c.says_one;
  says_other = either-back ts k l ls fs bs a c.step c.other c.says_other;
  clash = c.clash;
}

pub comes-stop : (ts : List LevelTable) (k : ℕ) (l : LevelTable) (ls : List LevelTable) (fs : List FilterLevel) → ClashAt ts k (passed (top_filter fs) l) → ClashFrom ts k (l ∷ ls) fs
comes-stop ts k l ls fs c = record {
  step = k;
  one = c.one;
  other = c.other;
  says_one = inl c.says_one;
  says_other = inr (brought-here k l ls fs k c.other refl c.says_other);
  clash = c.clash;
}

-- these levels say only what file k holds
abbrev pub AreHeld : List FileData → ℕ → List LevelTable → Type 0
AreHeld files k ts = (n : ℕ) (f : Fact) → SaysAt ts n f → Holds files k n f

take-off : (n m j : ℕ) → n ≡ m + j → (m ≤ n) × (j ≡ n - m)
take-off n m j e = (omega arith, omega arith)

module _ (files : List FileData) (k m : ℕ) (i : IncludeData) (t : ℕ) (inc : Includes files k m i t) (ls : List LevelTable) (merged : IsMerged files t ls) where
  either-held : (ts : List LevelTable) → AreHeld files k ts → (n : ℕ) (f : Fact) → Either ts m ls i.filter n f → Holds files k n f
  either-held ts h n f (inl s) = h n f s
  either-held ts h n f (inr b) =
      let at : (m ≤ n) × (b.step ≡ n - m) = take-off n m b.step b.place in
      by_include k n f m i t inc at.0
      (subst (λ j. lets (slice_get i.filter j) f ≡ true) at.1 b.passes)
      (subst (λ j. Holds files t j f) at.1 (merged.held b.step f b.says))

  pub from-held : (ts us : List LevelTable) → AreHeld files k ts → AddsFrom ts m ls i.filter us → AreHeld files k us
  from-held ts us h a n f s = either-held ts h n f (from-cases ts m ls i.filter us a n f s)

  pub clash-conflict : (ts : List LevelTable) → AreHeld files k ts → ClashFrom ts m ls i.filter → Conflict files k
  clash-conflict ts h c = record {
    step = c.step;
    one = c.one;
    other = c.other;
    holds_one = either-held ts h c.step c.one c.says_one;
    holds_other = either-held ts h c.step c.other c.says_other;
    clash = c.clash;
  }

pub conflict-itself : (files : List FileData) (k : ℕ) → Conflict files k → HasConflict files k
conflict-itself files k c = record { file = k; reaches = at_once k; conflict = c }

pub conflict-below : (files : List FileData) (k m : ℕ) (i : IncludeData) (t : ℕ) → Includes files k m i t → HasConflict files t → HasConflict files k
conflict-below files k m i t inc c = record { file = c.file; reaches = through k m i t c.file inc c.reaches; conflict = c.conflict }
