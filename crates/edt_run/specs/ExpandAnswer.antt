-- What `expand [DEFS..] TEXT` answers over the bytes of its files: definitions, and the lines of a text over them.
use Rattle.std.specs.Prelude.{◌≡◌, ◌⊎◌, ◌++◌, ℕ, Bool, true, false, List, [], ◌∷◌, Option, Some, None, Result, Ok, Err, codes}
use Rattle.edt_base.specs.declared.fault.Fault.{Fault}
use Rattle.edt_base.specs.declared.fault.Rule.{Rule}
use Rattle.edt_base.specs.declared.fault.Rule.TheVariants as rule
use Rattle.edt_base.specs.declared.fault.Place.TheVariants as place
use Rattle.c_tokens.specs.LineData.{LineData}
use Rattle.c_tokens.specs.Lines.{Unread, Ending, AtEnd, NoTokens, LinesOf}
use Rattle.c_tokens.specs.Shown.{shown}
use Rattle.c_macro.specs.Directive.{Directive, Known, broken_by, defs_after, line_directive}
use Rattle.c_macro.specs.Expansion.{Done, Refused, expands}
use Rattle.c_macro.specs.Marked.{Marked, toks_of}
use Rattle.edt_run.specs.Answer.{Answer, done, refused, refused_behind}

-- a rule that a line breaks, and the line's number
pub record Breach : Type 0 where
  pub rule : Rule
  pub line : ℕ

abbrev pub breach_at : Rule → ℕ → Breach
breach_at broken number = record { rule = broken; line = number }

-- the fault of a breach in a file
abbrev pub breach_fault : List ℕ → Breach → Fault
breach_fault name b = record { rule = b.rule; place = place.Line name b.line }

-- ---- definitions

-- nothing is defined, and nothing locked
abbrev pub nothing_known : Known
nothing_known = record { defs = λ name. None; locked = λ name. false }

-- what is known behind a directive
abbrev pub known_behind : Known → Option Directive → Known
known_behind k d = record { defs = defs_after k.defs d; locked = k.locked }

-- a breach ends a file of definitions, and otherwise it goes on
abbrev pub unless_broken : Option Rule → ℕ → Result Known Breach → Result Known Breach
unless_broken None number go = go
unless_broken (Some broken) number go = Err (breach_at broken number)

-- what is known behind the lines of a file of definitions, or the first breach: each line is a directive or blank
abbrev pub defined : Known → List LineData → Ending → Result Known Breach
defined k [] (AtEnd number) = Ok k
defined k [] (NoTokens number) = Err (breach_at rule.C1 number)
defined k (line ∷ lines) end = unless_broken (broken_by k (line_directive line)) line.number
    (defined (known_behind k (line_directive line)) lines end)

-- this is known behind the rest of a file, or its first breach
abbrev pub DefinedFrom : Known → Unread → Result Known Breach → Type 0
DefinedFrom k u r = (lines : List LineData) × (end : Ending) × LinesOf u lines end × (r ≡ defined k lines end)

-- ---- the output

-- a directive adds nothing to the output and changes what is known; a line of text adds what its tokens come to,
-- a space between every two, and a newline
abbrev pub AddsAs : (directive : Bool) → Known → LineData → List ℕ → Known → Type 0
AddsAs true k line text k' = (broken_by k (line_directive line) ≡ None) × (text ≡ [])
    × (k' ≡ known_behind k (line_directive line))
AddsAs false k line text k' = (out : List Marked) × (units : ℕ) × (expands k.defs line.toks (Done out units))
    × (text ≡ shown (toks_of out) ++ codes "\n") × (k' ≡ k)

abbrev pub Adds : Known → LineData → List ℕ → Known → Type 0
Adds k line text k' = AddsAs line.directive k line text k'

-- the rule that a line breaks
abbrev pub BreaksAs : (directive : Bool) → Known → LineData → Rule → Type 0
BreaksAs true k line broken = broken_by k (line_directive line) ≡ Some broken
BreaksAs false k line broken = expands k.defs line.toks (Refused broken)

abbrev pub Breaks : Known → LineData → Rule → Type 0
Breaks k line broken = BreaksAs line.directive k line broken

-- the output of lines, and the breach that ends it: that of the first line that breaks a rule
abbrev pub OutputOf : Known → List LineData → Ending → List ℕ → Option Breach → Type 0
OutputOf k [] (AtEnd number) text breach = (text ≡ []) × (breach ≡ None)
OutputOf k [] (NoTokens number) text breach = (text ≡ []) × (breach ≡ Some (breach_at rule.C1 number))
OutputOf k (line ∷ lines) end text breach =
    ((first : List ℕ) × (more : List ℕ) × (k' : Known) × (Adds k line first k') × (OutputOf k' lines end more breach)
    × (text ≡ first ++ more))
    ⊎ ((broken : Rule) × (Breaks k line broken) × (text ≡ []) × (breach ≡ Some (breach_at broken line.number)))

-- the output of the rest of a text, and its breach
abbrev pub OutputFrom : Known → Unread → List ℕ → Option Breach → Type 0
OutputFrom k u text breach = (lines : List LineData) × (end : Ending) × LinesOf u lines end × OutputOf k lines end text breach

-- ---- the answer

-- the text from its first byte on
abbrev pub from_start : List ℕ → Unread
from_start text = record { rest = text; number = 1 }

-- the output is written, also before a breach
abbrev pub ended : List ℕ → List ℕ → Option Breach → Answer
ended name text None = done text
ended name text (Some breach) = refused_behind text (breach_fault name breach)

-- over what is known, a text is answered by its output
abbrev pub IsTextAnswer : Known → List ℕ → List ℕ → Answer → Type 0
IsTextAnswer k name source answer = (text : List ℕ) × (breach : Option Breach)
    × (OutputFrom k (from_start source) text breach) × (answer ≡ ended name text breach)

-- the last file is the text; those before it are read as definitions, and the first breach among them is refused
abbrev pub IsAnswerOver : Known → List (List ℕ) → List (List ℕ) → Answer → Type 0
IsAnswerOver k (name ∷ []) (source ∷ []) answer = IsTextAnswer k name source answer
IsAnswerOver k (name ∷ n ∷ names) (source ∷ s ∷ sources) answer =
    ((k' : Known) × (DefinedFrom k (from_start source) (Ok k')) × (IsAnswerOver k' (n ∷ names) (s ∷ sources) answer))
    ⊎ ((breach : Breach) × (DefinedFrom k (from_start source) (Err breach)) × (answer ≡ refused (breach_fault name breach)))
IsAnswerOver k _ _ answer = ⊥

abbrev pub IsExpandAnswer : List (List ℕ) → List (List ℕ) → Answer → Type 0
IsExpandAnswer names sources answer = IsAnswerOver nothing_known names sources answer
