-- Brackets among tokens, and tokens that were taken together.
use Rattle.std.specs.Prelude.{◌≡◌, ◌⊎◌, ℕ, zero, suc, ◌<◌, ◌≤◌, List, [], ◌∷◌, ◌++◌, Option, Some, None, length, reverse}
use Rattle.c_macro.specs.declared.pend.Pend.{Pend}
use Rattle.c_macro.specs.Calls.{Mark, Opens, Closes, Parts, Inner, mark_of}

-- how many brackets are open behind a token, `None` where it closes one that wasn't opened
abbrev pub depth_at : Mark → (deep : ℕ) → (ℕ → Option ℕ) → Option ℕ
depth_at Opens deep go = go (suc deep)
depth_at Closes zero go = None
depth_at Closes (suc deep) go = go deep
depth_at Parts deep go = go deep
depth_at Inner deep go = go deep

-- how many are open behind these tokens
abbrev pub depth_of : (deep : ℕ) → List Pend → Option ℕ
depth_of deep [] = Some deep
depth_of deep (p ∷ ps) = depth_at (mark_of p.tok) deep (λ d. depth_of d ps)

abbrev pub IsBalanced : List Pend → Type 0
IsBalanced ps = depth_of 0 ps ≡ Some 0

-- none of these tokens closes a bracket that was opened before them
abbrev pub IsUnclosed : List Pend → Type 0
IsUnclosed ps = (deep : ℕ) × (depth_of 0 ps ≡ Some deep)

-- balanced tokens, so many, and behind them the bracket that closes what was opened before them
pub record Closing (ps : List Pend) (count : ℕ) : Type 0 where
  pub inner : List Pend
  pub last : Pend
  pub after : List Pend
  pub whole : ps ≡ inner ++ last ∷ after
  pub balanced : depth_of 0 inner ≡ Some 0
  pub closes : mark_of last.tok ≡ Closes
  pub size : length inner ≡ count

-- these tokens stand behind an opening bracket: so many of them belong to it with its closing one, 0
-- where that isn't among them
abbrev pub IsSpan : List Pend → ℕ → Type 0
IsSpan ps zero = IsUnclosed ps
IsSpan ps (suc n) = Closing ps n

-- each opening bracket has its span
abbrev pub HasSpans : List Pend → List ℕ → Type 0
HasSpans [] ns = Unit {0}
HasSpans (p ∷ ps) [] = zero ≡ suc zero
HasSpans (p ∷ ps) (n ∷ ns) = (mark_of p.tok ≡ Opens → IsSpan ps n) × HasSpans ps ns

-- brackets that are closed behind these tokens and weren't opened before: for each, the innermost first,
-- how many tokens stand behind it
abbrev pub HasClosers : List Pend → List ℕ → Type 0
HasClosers ps [] = IsUnclosed ps
HasClosers ps (n ∷ ns) = (k : ℕ) × (c : Closing ps k) × (length c.after ≡ n) × HasClosers c.after ns

-- while spans are listed, from the last token on: these tokens are left
pub record Spanning (whole left : List Pend) (spans closers : List ℕ) : Type 0 where
  pub behind : List Pend
  pub whole_is : whole ≡ left ++ behind
  pub spans_are : HasSpans behind (reverse spans)
  pub closers_are : HasClosers behind (reverse closers)
  pub count : length spans ≡ length behind

-- ---- tokens taken together

abbrev pub toks_in : Option (List Pend) → List Pend
toks_in None = []
toks_in (Some ps) = ps

abbrev pub spans_in : Option (List ℕ) → List ℕ
spans_in None = []
spans_in (Some ns) = ns

pub record IsRow (ps : List Pend) (spans : List ℕ) (from to : ℕ) : Type 0 where
  pub begins : from ≤ to
  pub ends : to ≤ length ps
  pub spans_are : HasSpans ps spans

-- ---- a step over tokens

pub record Group (item : List Pend) : Type 0 where
  pub first : Pend
  pub inner : List Pend
  pub last : Pend
  pub whole : item ≡ first ∷ inner ++ last ∷ []
  pub opens : mark_of first.tok ≡ Opens
  pub balanced : depth_of 0 inner ≡ Some 0
  pub closes : mark_of last.tok ≡ Closes

-- a token that is neither bracket nor comma, or brackets with all between them
abbrev pub IsItem : List Pend → Type 0
IsItem item = ((p : Pend) × (item ≡ p ∷ []) × (mark_of p.tok ≡ Inner)) ⊎ Group item

-- tokens begin with a token of this kind
abbrev pub BeginsWith : Mark → List Pend → Type 0
BeginsWith m ps = (p : Pend) × (after : List Pend) × (ps ≡ p ∷ after) × (mark_of p.tok ≡ m)

abbrev pub BeginsWithItem : List Pend → ℕ → Type 0
BeginsWithItem ps n = (item : List Pend) × (after : List Pend) × (ps ≡ item ++ after) × (length item ≡ n) × (0 < n) × IsItem item
