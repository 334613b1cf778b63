-- The steps of looking up by halving.
use Rattle.std.proofs.Common.{◌≡◌, ◌<◌, ◌+◌, ◌∙◌, ap, refl, subst, ℕ, suc, List, None, length, drop, get_or, arith}
use Rattle.std.proofs.lemmas.List.{drop_all}
use Rattle.std.specs.Cmp.Lexicographic.{slice_cmp}
use Rattle.std.specs.Ordering.{nat_cmp}
use Rattle.std.specs.declared.cmp.Ordering.TheVariants.{Less, Greater}
use Rattle.bind_merge.specs.Levels.{EntryData}
use Rattle.bind_merge.specs.Looking.{entry_named}
use Rattle.bind_merge.specs.Ordered.{Rises}
use Rattle.bind_merge.proofs.Looked.{less-skip, greater-none}

-- the name, if it is there, stands from `low` on and before `high`
pub record Between (p : List ℕ) (es : List EntryData) (low high : ℕ) : Type 0 where
  pub from : entry_named p es ≡ entry_named p (drop low es)
  pub before : entry_named p (drop high es) ≡ None

pub all-between : (p : List ℕ) (es : List EntryData) → Between p es 0 (length es)
all-between p es = record { from = refl; before = ap (entry_named p) (drop_all (length es) es (omega arith)) }

plus-one : (k : ℕ) → suc k ≡ k + 1
plus-one k = omega arith

pub goes-up : (p : List ℕ) (es : List EntryData) (low high k : ℕ) (z : EntryData) → Rises es → k < length es → z ≡ get_or es k z → slice_cmp nat_cmp z.name p ≡ Less
    → Between p es low high → Between p es (k + 1) high
goes-up p es low high k z r h e c b = record {
  from = subst (λ n. entry_named p es ≡ entry_named p (drop n es)) (plus-one k) (less-skip p es k z r h e c);
  before = b.before;
}

pub goes-down : (p : List ℕ) (es : List EntryData) (low high k : ℕ) (z : EntryData) → Rises es → k < length es → z ≡ get_or es k z → slice_cmp nat_cmp z.name p ≡ Greater
    → Between p es low high → Between p es low k
goes-down p es low high k z r h e c b = record { from = b.from; before = greater-none p es k z r h e c }

pub between-none : (p : List ℕ) (es : List EntryData) (low high : ℕ) → low ≡ high → Between p es low high → entry_named p es ≡ None
between-none p es low high e b = b.from ∙ ap (λ n. entry_named p (drop n es)) e ∙ b.before
