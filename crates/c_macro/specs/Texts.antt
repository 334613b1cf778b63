-- Definitions of whole texts: directives carried out one after another.
use Rattle.std.specs.Prelude.{ℕ, Bool, false, List, [], ◌∷◌, Option, Some, None}
use Rattle.edt_base.specs.declared.fault.Rule.{Rule}
use Rattle.edt_base.specs.declared.fault.Rule.TheVariants.{C1}
use Rattle.c_tokens.specs.LineData.{LineData}
use Rattle.c_tokens.specs.Lines.{Unread, LinesOf, AtEnd, NoTokens}
use Rattle.c_macro.specs.Directive.{Directive, Known, broken_by, line_directive, defs_after}

-- what is known after a directive that breaks no rule
abbrev pub known_after : Known → Option Directive → Known
known_after k d = record { defs = defs_after k.defs d; locked = k.locked }

-- what lines come to: what is known then, or the rule that is broken first and the number of its line
pub data Carried : Type 0 where
  Knows : Known → Carried
  Breaks : (number : ℕ) → Rule → Carried

abbrev pub carried_on : (broken : Option Rule) → (number : ℕ) → Carried → Carried
carried_on None number behind = behind
carried_on (Some r) number behind = Breaks number r

-- these lines are carried out one after another
abbrev pub carried : Known → List LineData → Carried
carried k [] = Knows k
carried k (line ∷ lines) =
    carried_on (broken_by k (line_directive line)) line.number (carried (known_after k (line_directive line)) lines)

abbrev pub nothing_known : Known
nothing_known = record { defs = λ name. None; locked = λ name. false }

-- behind these lines stands one that isn't made of tokens
abbrev pub broken_off : (number : ℕ) → Carried → Carried
broken_off number (Knows k) = Breaks number C1
broken_off number (Breaks n r) = Breaks n r

abbrev pub whole : List ℕ → Unread
whole text = record { rest = text; number = 1 }

-- what a text of directives comes to
pub data TextComesTo : List ℕ → Carried → Type 0 where
  read : (text : List ℕ) (lines : List LineData) (number : ℕ) → LinesOf (whole text) lines (AtEnd number)
      → TextComesTo text (carried nothing_known lines)
  unread : (text : List ℕ) (lines : List LineData) (number : ℕ) → LinesOf (whole text) lines (NoTokens number)
      → TextComesTo text (broken_off number (carried nothing_known lines))
