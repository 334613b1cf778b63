-- Where a worklist stands in an expansion: the open calls, and what all comes to from there.
use Rattle.std.specs.Prelude.{◌≡◌, ℕ, List, [], ◌∷◌, ◌++◌, Option}
use Rattle.c_macro.specs.MacroData.{Macro}
use Rattle.c_macro.specs.Marked.{Marked}
use Rattle.c_macro.specs.Bodies.{Task, Arg, call_text}
use Rattle.c_macro.specs.Expansion.{Macros, Outcome, Done, Refused, ArgsOutcome, Ready, Spoiled, before, Expands, ArgsExpand, Replaced}

-- an open call and what stands around it
pub record Frame : Type 0 where
  pub name : Marked
  pub macro : Macro
  pub names : List (List ℕ)
  -- its closing bracket, and what stands behind it
  pub last : Marked
  pub rest : List Marked
  -- what was put out before it on its level
  pub out : List Marked
  -- the argument at work, as written
  pub written : List Marked
  pub todo : List Task
  pub done : List Arg

-- what is put in place of the call
abbrev pub frame_text : Frame → List Arg → Option (List Marked)
frame_text f args = call_text f.name f.macro f.names f.last args

module _ (limit : ℕ) (d : Macros) where
  -- a call's arguments come to this, and with them all to o; `up` says so of the level around the call
  abbrev pub ArgsUpTo : Frame → List Arg → (Outcome → Outcome → Type 0) → ArgsOutcome → Outcome → Type 0
  ArgsUpTo f done up (Spoiled r) o = o ≡ Refused r
  ArgsUpTo f done up (Ready args w) o = (q : Outcome) × Replaced limit d (frame_text f (done ++ args)) f.rest w q × up (before f.out q) o

  -- the level within these calls, the innermost first, comes to q, and with it all to o
  abbrev pub UpTo : List Frame → Outcome → Outcome → Type 0
  UpTo [] q o = o ≡ q
  UpTo (f ∷ fs) (Refused r) o = o ≡ Refused r
  UpTo (f ∷ fs) (Done full v) o = (a : ArgsOutcome) × ArgsExpand limit d f.todo v a × ArgsUpTo f (f.done ++ record { written = f.written; full = full } ∷ []) (UpTo fs) a o

  -- from these tokens, with this put out on their level, within these calls, all comes to o
  pub record Ends (fs : List Frame) (ts out : List Marked) (u : ℕ) (o : Outcome) : Type 0 where
    pub mid : Outcome
    pub here : Expands limit d ts u mid
    pub up : UpTo fs (before out mid) o

  -- from the arguments of this call on, within these calls, all comes to o
  pub record CallEnds (fs : List Frame) (f : Frame) (u : ℕ) (o : Outcome) : Type 0 where
    pub mid : ArgsOutcome
    pub here : ArgsExpand limit d f.todo u mid
    pub up : ArgsUpTo f f.done (UpTo fs) mid o
