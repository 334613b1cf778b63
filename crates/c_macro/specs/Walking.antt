-- How the program tells what tokens begin with, and what a call encloses.
use Rattle.std.specs.Prelude.{◌≡◌, ℕ, zero, suc, ◌+◌, ◌≤◌, List, [], ◌∷◌, ◌++◌, Some, length, reverse}
use Rattle.c_macro.specs.declared.pend.Pend.{Pend}
use Rattle.c_macro.specs.declared.row.Step.{Step}
use Rattle.c_macro.specs.declared.row.Step.TheVariants as step
use Rattle.c_macro.specs.declared.row.Enclosed.{Enclosed}
use Rattle.c_macro.specs.Calls.{Closes, Parts, mark_of}
use Rattle.c_macro.specs.Rows.{depth_of, BeginsWith, BeginsWithItem}

abbrev pub bracket_step : ℕ → Step
bracket_step zero = step.Unclosed
bracket_step (suc n) = step.Item (suc n + 1)

abbrev pub IsStep : List Pend → Step → Type 0
IsStep ps step.End = ps ≡ []
IsStep ps step.Closes = BeginsWith Closes ps
IsStep ps step.Unclosed = (deep : ℕ) × (depth_of 0 ps ≡ Some (suc deep))
IsStep ps step.Comma = BeginsWith Parts ps
IsStep ps (step.Item n) = BeginsWithItem ps n

-- what tokens begin with and what is left of them
pub record IsEnclosed (old : List Pend) (e : Enclosed) (new : List Pend) : Type 0 where
  pub whole : old ≡ e.toks ++ e.last ∷ new
  pub balanced : depth_of 0 e.toks ≡ Some 0
  pub closes : mark_of e.last.tok ≡ Closes

-- while the tokens before a closing bracket are gathered: these are left
pub record Gathering (whole left toks : List Pend) (deep : ℕ) : Type 0 where
  pub is : reverse whole ≡ toks ++ reverse left
  pub depth : depth_of 0 toks ≡ Some deep
  pub deep_is : deep ≤ length toks

-- while a closing bracket is looked for: these tokens are left
pub record Seeking (whole left : List Pend) : Type 0 where
  pub passed : List Pend
  pub is : whole ≡ passed ++ left
  pub balanced : depth_of 0 passed ≡ Some 0
