-- Where the worklist of the program stands.
use Rattle.std.specs.Prelude.{◌≡◌, ℕ, ◌+◌, ◌*◌, ◌≤◌, ◌++◌, List, [], ◌∷◌, length, map, reverse}
use Rattle.c_macro.specs.declared.pend.Pend.{Pend}
use Rattle.c_macro.specs.declared.pend.Todo.{Todo}
use Rattle.c_macro.specs.declared.needs.Needs.{Needs}
use Rattle.c_macro.specs.Needing.{NeedsOf}
use Rattle.c_macro.specs.Bodies as bodies
use Rattle.c_macro.specs.SetData.{SetTable}
use Rattle.c_macro.specs.Pending.{KnownTasks, tasks_data}
use Rattle.c_macro.specs.Collecting.{rows_data, KnownRows, rows_size}

-- what is left to do on arguments, as a number
abbrev pub todo_weight : List Todo → ℕ
todo_weight [] = 0
todo_weight (x ∷ xs) = 2 * length x.raw + 2 + todo_weight xs

-- while the arguments to prepare are listed: these rows are left
pub record Listing (needs : Needs) (whole left : List (List Pend)) (todo : List Todo) : Type 0 where
  pub is : (s : SetTable) (ps : List bodies.Part) (count : ℕ) → NeedsOf ps count needs → length whole ≤ count → bodies.tasks ps 0 (rows_data s left) ++ tasks_data s (reverse todo) ≡ bodies.tasks ps 0 (rows_data s whole)
  pub known : (s : SetTable) → KnownRows s whole → KnownRows s left × KnownTasks s todo
  pub weight : todo_weight todo + 2 * rows_size left ≤ 2 * rows_size whole
  pub count : length left ≤ length whole
