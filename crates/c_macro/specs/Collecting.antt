-- How the program tells the arguments that it has taken.
use Rattle.std.specs.Prelude.{◌≡◌, ℕ, zero, suc, ◌+◌, ◌<◌, ◌++◌, Bool, true, false, List, [], ◌∷◌, Option, Some, None, option_map, length, map, reverse}
use Rattle.c_macro.specs.declared.pend.Pend.{Pend}
use Rattle.c_macro.specs.declared.collect.Taking.{Taking}
use Rattle.c_macro.specs.declared.collect.Taken.{Taken}
use Rattle.c_macro.specs.Marked.{Marked}
use Rattle.c_macro.specs.Calls as calls
use Rattle.c_macro.specs.SetData.{set_count, SetTable}
use Rattle.c_macro.specs.Pending.{mark, marks, KnownAll}
use Rattle.c_macro.specs.Rows.{depth_of}

abbrev pub rows_data : SetTable → List (List Pend) → List (List Marked)
rows_data s rs = map (marks s) rs

abbrev pub KnownRows : SetTable → List (List Pend) → Type 0
KnownRows s [] = Unit {0}
KnownRows s (r ∷ rs) = KnownAll s r × KnownRows s rs

-- these tokens stand before the first argument's others
abbrev pub all_before : List Marked → List (List Marked) → List (List Marked)
all_before [] xss = xss
all_before (t ∷ ts) xss = calls.before_first t (all_before ts xss)

-- a call whose first arguments are these, and the first tokens of the next one those
abbrev pub taking_behind : List (List Marked) → List Marked → Option calls.Closed → Option calls.Closed
taking_behind args current o = option_map (λ c. let r : calls.Closed = record { args = args ++ all_before current c.args; last = c.last; rest = c.rest } in r) o

-- a comma may part arguments yet
abbrev pub more_commas : Option ℕ → Bool
more_commas None = true
more_commas (Some zero) = false
more_commas (Some (suc n)) = true

abbrev pub fewer_commas : Option ℕ → Option ℕ
fewer_commas None = None
fewer_commas (Some zero) = Some zero
fewer_commas (Some (suc n)) = Some n

abbrev pub rows_size : List (List Pend) → ℕ
rows_size [] = 0
rows_size (r ∷ rs) = length r + 1 + rows_size rs

-- while a row is parted into arguments: what is taken and what is left come to what the row comes to,
-- whatever stands behind it
pub record Splitting (row : List Pend) (commas : Option ℕ) (t : Taking) : Type 0 where
  pub current : List Pend
  pub here : t.here ≡ current ++ t.left
  pub balanced : depth_of 0 t.left ≡ Some 0
  pub is : (s : SetTable) (ts : List Marked) → taking_behind (rows_data s t.args.items) (marks s current) (calls.closed t.commas 0 (marks s t.left ++ ts)) ≡ calls.closed commas 0 (marks s row ++ ts)
  pub size : rows_size t.args.items + length t.here ≡ length row
  pub known : (s : SetTable) → KnownAll s row → KnownRows s t.args.items × KnownAll s t.here

abbrev pub taken_data : SetTable → Taken → List Pend → calls.Closed
taken_data s t rest = record { args = rows_data s t.args.items; last = mark s t.last; rest = marks s (reverse rest) }

pub record KnownTaken (s : SetTable) (t : Taken) (rest : List Pend) : Type 0 where
  pub args : KnownRows s t.args.items
  pub last : t.last.set < set_count s
  pub behind : KnownAll s rest
