-- Expansion (ISO C, 6.10.3.4): what tokens with barred names come to.
use Rattle.std.specs.Prelude.{◌≡◌, ℕ, ◌+◌, ◌<◌, ◌≤◌, true, false, not, ◌&&◌, List, [], ◌∷◌, ◌++◌, Option, Some, None, length, codes, if◌then◌else◌}
use Rattle.edt_base.specs.declared.fault.Rule.{Rule}
use Rattle.edt_base.specs.declared.fault.Rule.TheVariants.{C2, C3, C4, C7}
use Rattle.c_tokens.specs.declared.tok.Tok.{Tok}
use Rattle.c_macro.specs.MacroData.{Macro}
use Rattle.c_macro.specs.Directive.{is_word, is_punct}
use Rattle.c_macro.specs.Marked.{Marked, unbarred}
use Rattle.c_macro.specs.Calls.{Closed, closed, commas_of, fitted}
use Rattle.c_macro.specs.Bodies.{Task, Arg, tasks, parts_of, object_text, call_text}

-- definitions: a map from names to macros
abbrev pub Macros : Type 0
Macros = List ℕ → Option Macro

-- ---- what the first token calls for

pub data Look : Type 0 where
  -- no token is left
  End : Look
  -- it is put out
  Put : (t : Marked) (rest : List Marked) → Look
  -- it is the name of an object-like macro
  Object : (t : Marked) (m : Macro) (rest : List Marked) → Look
  -- it is the name of a function-like macro, with an argument for each parameter and a closing bracket
  Call : (t : Marked) (m : Macro) (names : List (List ℕ)) (raws : List (List Marked)) (last : Marked) (rest : List Marked) → Look
  -- its call isn't closed, or has a wrong number of arguments
  Bad : Rule → Look

abbrev pub look_fitted : Marked → Macro → List (List ℕ) → Closed → Option (List (List Marked)) → Look
look_fitted t m names c None = Bad C3
look_fitted t m names c (Some raws) = Call t m names raws c.last c.rest

abbrev pub look_closed : Marked → Macro → List (List ℕ) → Option Closed → Look
look_closed t m names None = Bad C2
look_closed t m names (Some c) = look_fitted t m names c (fitted names m.variadic c.args)

-- a function-like macro's name is a call where a bracket follows
abbrev pub look_call : Marked → Macro → List (List ℕ) → List Marked → Look
look_call t m names [] = Put t []
look_call t m names (u ∷ us) = if is_punct (codes "(") u.tok then look_closed t m names (closed (commas_of names m.variadic) 0 us) else Put t (u ∷ us)

abbrev pub look_params : Marked → Macro → Option (List (List ℕ)) → List Marked → Look
look_params t m None rest = Object t m rest
look_params t m (Some names) rest = look_call t m names rest

abbrev pub look_macro : Marked → Option Macro → List Marked → Look
look_macro t None rest = Put t rest
look_macro t (Some m) rest = look_params t m m.params rest

-- the macro of a token, unless its name is barred for it
abbrev pub macro_at : Macros → Marked → Option Macro
macro_at d t = if is_word t.tok && not (t.bars t.tok.spell) then d t.tok.spell else None

abbrev pub look : Macros → List Marked → Look
look d [] = End
look d (t ∷ ts) = look_macro t (macro_at d t) ts

-- ---- outcomes

-- tokens and the units that were spent, or the rule that was broken first
pub data Outcome : Type 0 where
  Done : (out : List Marked) (units : ℕ) → Outcome
  Refused : Rule → Outcome

pub data ArgsOutcome : Type 0 where
  Ready : (args : List Arg) (units : ℕ) → ArgsOutcome
  Spoiled : Rule → ArgsOutcome

-- these tokens stand before what an outcome puts out
abbrev pub before : List Marked → Outcome → Outcome
before ts (Done out u) = Done (ts ++ out) u
before ts (Refused r) = Refused r

abbrev pub with_arg : Arg → ArgsOutcome → ArgsOutcome
with_arg a (Ready as' u) = Ready (a ∷ as') u
with_arg a (Spoiled r) = Spoiled r

-- ---- the relation: from these tokens, with so many units spent before, to the outcome

module _ (limit : ℕ) (d : Macros) where
  mutual
    pub data Expands : List Marked → ℕ → Outcome → Type 0 where
      ends : (ts : List Marked) (u : ℕ) → look d ts ≡ End → Expands ts u (Done [] u)
      puts : (ts : List Marked) (u : ℕ) (t : Marked) (rest : List Marked) (o : Outcome) → look d ts ≡ Put t rest → Expands rest u o → Expands ts u (before (t ∷ []) o)
      bad : (ts : List Marked) (u : ℕ) (r : Rule) → look d ts ≡ Bad r → Expands ts u (Refused r)
      object : (ts : List Marked) (u : ℕ) (t : Marked) (m : Macro) (rest : List Marked) (o : Outcome) → look d ts ≡ Object t m rest
          → Replaced (object_text t m) rest u o → Expands ts u o
      call : (ts : List Marked) (u : ℕ) (t : Marked) (m : Macro) (names : List (List ℕ)) (raws : List (List Marked)) (last : Marked) (rest : List Marked) (args : List Arg) (v : ℕ) (o : Outcome)
          → look d ts ≡ Call t m names raws last rest → ArgsExpand (tasks (parts_of m (Some names)) 0 raws) u (Ready args v)
          → Replaced (call_text t m names last args) rest v o → Expands ts u o
      spoiled : (ts : List Marked) (u : ℕ) (t : Marked) (m : Macro) (names : List (List ℕ)) (raws : List (List Marked)) (last : Marked) (rest : List Marked) (r : Rule)
          → look d ts ≡ Call t m names raws last rest → ArgsExpand (tasks (parts_of m (Some names)) 0 raws) u (Spoiled r) → Expands ts u (Refused r)

    -- arguments one after another, each that is wanted expanded by itself
    pub data ArgsExpand : List Task → ℕ → ArgsOutcome → Type 0 where
      none : (u : ℕ) → ArgsExpand [] u (Ready [] u)
      as_written : (x : Task) (xs : List Task) (u : ℕ) (o : ArgsOutcome) → x.wanted ≡ false → ArgsExpand xs u o
          → ArgsExpand (x ∷ xs) u (with_arg (record { written = x.written; full = [] }) o)
      expanded : (x : Task) (xs : List Task) (u : ℕ) (full : List Marked) (v : ℕ) (o : ArgsOutcome) → x.wanted ≡ true → Expands x.raw u (Done full v) → ArgsExpand xs v o
          → ArgsExpand (x ∷ xs) u (with_arg (record { written = x.written; full = full }) o)
      refused : (x : Task) (xs : List Task) (u : ℕ) (r : Rule) → x.wanted ≡ true → Expands x.raw u (Refused r) → ArgsExpand (x ∷ xs) u (Spoiled r)

    -- a replacement costs 1 and the tokens put in place, which are looked at again with the rest
    pub data Replaced : Option (List Marked) → List Marked → ℕ → Outcome → Type 0 where
      unjoined : (rest : List Marked) (u : ℕ) → Replaced None rest u (Refused C4)
      above : (new rest : List Marked) (u : ℕ) → limit < u + 1 + length new → Replaced (Some new) rest u (Refused C7)
      within : (new rest : List Marked) (u : ℕ) (o : Outcome) → u + 1 + length new ≤ limit → Expands (new ++ rest) (u + 1 + length new) o → Replaced (Some new) rest u o

-- how many units an expansion may spend
abbrev pub most_units : ℕ
most_units = 67108864

-- what tokens of a text come to
abbrev pub expands : Macros → List Tok → Outcome → Type 0
expands d ts o = Expands most_units d (unbarred ts) 0 o

-- from all tokens, whatever is spent before, there is exactly one outcome
abbrev pub HasOneOutcome : Type 0
HasOneOutcome = (limit : ℕ) (d : Macros) (ts : List Marked) (u : ℕ)
    → (o : Outcome) × Expands limit d ts u o × ((p : Outcome) → Expands limit d ts u p → o ≡ p)
