-- The arguments of a call (ISO C, 6.10.3, 10 to 12).
use Rattle.std.specs.Prelude.{ℕ, zero, suc, Bool, true, false, List, [], ◌∷◌, ◌++◌, Option, Some, None, option_map, length, codes, nat_eq, if◌then◌else◌}
use Rattle.c_tokens.specs.declared.tok.Tok.{Tok}
use Rattle.c_macro.specs.Directive.{is_punct}
use Rattle.c_macro.specs.Marked.{Marked}

-- what a token is within a call
pub data Mark : Type 0 where
  Opens : Mark
  Closes : Mark
  Parts : Mark
  Inner : Mark

abbrev pub mark_of : Tok → Mark
mark_of t = if is_punct (codes "(") t then Opens else if is_punct (codes ")") t then Closes else if is_punct (codes ",") t then Parts else Inner

-- a call behind its opening bracket: its arguments, its closing bracket and what follows
pub record Closed : Type 0 where
  pub args : List (List Marked)
  pub last : Marked
  pub rest : List Marked

-- a token stands before the first argument's others
abbrev pub before_first : Marked → List (List Marked) → List (List Marked)
before_first t [] = (t ∷ []) ∷ []
before_first t (xs ∷ xss) = (t ∷ xs) ∷ xss

abbrev pub with_tok : Marked → Closed → Closed
with_tok t c = record { args = before_first t c.args; last = c.last; rest = c.rest }

-- an argument ends before the others
abbrev pub with_end : Closed → Closed
with_end c = record { args = [] ∷ c.args; last = c.last; rest = c.rest }

-- `deep` brackets are open within the call; so many commas still part arguments, `None` for all of them
abbrev pub closed_here : (deep : ℕ) → Marked → List Marked → (ℕ → Option Closed) → Option Closed
closed_here zero t ts go = Some (record { args = [] ∷ []; last = t; rest = ts })
closed_here (suc deep) t ts go = option_map (λ c. with_tok t c) (go deep)

abbrev pub parted_here : (commas : Option ℕ) → (deep : ℕ) → Marked → (Option ℕ → Option Closed) → Option Closed
parted_here commas (suc deep) t go = option_map (λ c. with_tok t c) (go commas)
parted_here None zero t go = option_map (λ c. with_end c) (go None)
parted_here (Some zero) zero t go = option_map (λ c. with_tok t c) (go (Some zero))
parted_here (Some (suc n)) zero t go = option_map (λ c. with_end c) (go (Some n))

abbrev pub closed_at : Mark → (commas : Option ℕ) → (deep : ℕ) → Marked → List Marked → (Option ℕ → ℕ → Option Closed) → Option Closed
closed_at Opens commas deep t ts go = option_map (λ c. with_tok t c) (go commas (suc deep))
closed_at Closes commas deep t ts go = closed_here deep t ts (go commas)
closed_at Parts commas deep t ts go = parted_here commas deep t (λ n. go n deep)
closed_at Inner commas deep t ts go = option_map (λ c. with_tok t c) (go commas deep)

-- the call that these tokens go on with, `None` where it isn't closed
abbrev pub closed : (commas : Option ℕ) → (deep : ℕ) → List Marked → Option Closed
closed commas deep [] = None
closed commas deep (t ∷ ts) = closed_at (mark_of t.tok) commas deep t ts (λ n e. closed n e ts)

-- commas in a variable part part nothing
abbrev pub commas_of : (names : List (List ℕ)) → (variadic : Bool) → Option ℕ
commas_of names true = Some (length names)
commas_of names false = None

abbrev pub is_empty : List Marked → Bool
is_empty [] = true
is_empty (t ∷ ts) = false

-- without parameters a call has one empty argument, which is none
abbrev pub fit_none : List (List Marked) → Option (List (List Marked))
fit_none (xs ∷ []) = if is_empty xs then Some [] else None
fit_none _ = None

abbrev pub fit_some : ℕ → List (List Marked) → Option (List (List Marked))
fit_some zero args = fit_none args
fit_some (suc n) args = if nat_eq (length args) (suc n) then Some args else None

-- a variable part that is left out is empty
abbrev pub fit_variable : ℕ → List (List Marked) → Option (List (List Marked))
fit_variable n args = if nat_eq (length args) (suc n) then Some args else if nat_eq (length args) n then Some (args ++ [] ∷ []) else None

-- an argument for each parameter, `None` where there are too few or too many
abbrev pub fitted : (names : List (List ℕ)) → (variadic : Bool) → List (List Marked) → Option (List (List Marked))
fitted names true args = fit_variable (length names) args
fitted names false args = fit_some (length names) args
