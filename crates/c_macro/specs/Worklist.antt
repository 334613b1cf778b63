-- Where the worklist of the program stands, as a place in an expansion.
use Rattle.std.specs.Prelude.{◌≡◌, ℕ, ◌+◌, ◌*◌, ◌-◌, ◌<◌, ◌≤◌, List, [], ◌∷◌, Option, Some, None, length, map, reverse}
use Rattle.c_tokens.specs.declared.tok.Tok.{Tok}
use Rattle.c_macro.specs.declared.pend.Pend.{Pend}
use Rattle.c_macro.specs.declared.turn.Open.{Open}
use Rattle.c_macro.specs.declared.turn.Machine.{Machine}
use Rattle.c_macro.specs.declared.turn.Turn.{Turn}
use Rattle.c_macro.specs.declared.turn.Turn.TheVariants as turn
use Rattle.c_macro.specs.Marked.{Marked}
use Rattle.c_macro.specs.Bodies.{parts_of, Task}
use Rattle.c_macro.specs.declared.pend.Todo.{Todo}
use Rattle.c_macro.specs.Expansion.{Macros, Outcome, Done, Refused, before, Replaced, most_units, expands}
use Rattle.c_macro.specs.Turns.{Frame, UpTo, Ends, CallEnds}
use Rattle.c_macro.specs.SetData.{set_count, SetTable}
use Rattle.c_macro.specs.Pending.{mark, marks, KnownAll, KnownTasks, KnownArgs, args_data, task_data, tasks_data, part_data}
use Rattle.c_macro.specs.Machine.{todo_weight}

abbrev pub names_of : Option (List (List ℕ)) → List (List ℕ)
names_of None = []
names_of (Some names) = names

-- an open call; its pending tokens and arguments to do have the next one last
abbrev pub frame_of : SetTable → Open → Frame
frame_of s f = record {
  name = mark s f.name;
  macro = f.def.now;
  names = names_of f.def.now.params;
  last = mark s f.last;
  rest = marks s (reverse f.rest);
  out = marks s f.out.items;
  written = marks s f.written;
  todo = tasks_data s (reverse f.todo.items);
  done = args_data s f.done.items;
}

-- open calls, the innermost first
abbrev pub frames_of : SetTable → List Open → List Frame
frames_of s fs = reverse (map (frame_of s) fs)

-- what holds of each open call
pub record KnownOpen (s : SetTable) (f : Open) : Type 0 where
  pub name : f.name.set < set_count s
  pub last : f.last.set < set_count s
  pub rest : KnownAll s f.rest
  pub out : KnownAll s f.out.items
  pub written : KnownAll s f.written
  pub todo : KnownTasks s f.todo.items
  pub done : KnownArgs s f.done.items
  pub params : f.def.now.params ≡ Some (names_of f.def.now.params)
  pub parts : map part_data f.parts.now ≡ parts_of f.def.now (Some (names_of f.def.now.params))

abbrev pub KnownOpens : SetTable → List Open → Type 0
KnownOpens s [] = Unit {0}
KnownOpens s (f ∷ fs) = KnownOpen s f × KnownOpens s fs

pub record KnownMachine (m : Machine) : Type 0 where
  pub pend : KnownAll m.sets m.pend
  pub out : KnownAll m.sets m.out.items
  pub opens : KnownOpens m.sets m.opens.items
  pub units : m.units ≤ most_units

abbrev pub KnownTurn : SetTable → Turn → Type 0
KnownTurn s turn.Level = Unit {0}
KnownTurn s (turn.Call f) = KnownOpen s f
KnownTurn s turn.Finished = Unit {0}
KnownTurn s (turn.Refused r) = Unit {0}

-- what holds of the machine, unless a rule is broken
abbrev pub KnownAfter : Machine → Turn → Type 0
KnownAfter m turn.Level = KnownMachine m
KnownAfter m (turn.Call f) = KnownMachine m
KnownAfter m turn.Finished = KnownMachine m
KnownAfter m (turn.Refused r) = Unit {0}

-- with these tokens next, all comes to o
abbrev pub LevelEnds : Macros → Machine → List Marked → Outcome → Type 0
LevelEnds d m ts o = Ends most_units d (frames_of m.sets m.opens.items) ts (marks m.sets m.out.items) m.units o

-- after this turn all comes to o
abbrev pub TurnUpTo : Macros → Machine → Turn → Outcome → Type 0
TurnUpTo d m turn.Level o = LevelEnds d m (marks m.sets (reverse m.pend)) o
TurnUpTo d m (turn.Call f) o = CallEnds most_units d (frames_of m.sets m.opens.items) (frame_of m.sets f) m.units o
TurnUpTo d m turn.Finished o = o ≡ Done (marks m.sets m.out.items) m.units
TurnUpTo d m (turn.Refused r) o = o ≡ Refused r

-- what is put in place before these tokens, with this put out, comes to o
abbrev pub TextUpTo : Macros → List Frame → Option (List Marked) → List Marked → List Marked → ℕ → Outcome → Type 0
TextUpTo d fs text rest out u o = (q : Outcome) × Replaced most_units d text rest u q × UpTo most_units d fs (before out q) o

-- ---- a number that falls with each turn

abbrev pub open_weight : Open → ℕ
open_weight f = 2 * length f.rest + todo_weight f.todo.items + 1

abbrev pub opens_weight : List Open → ℕ
opens_weight [] = 0
opens_weight (f ∷ fs) = open_weight f + opens_weight fs

abbrev pub turn_weight : Machine → Turn → ℕ
turn_weight m turn.Level = 2 * (most_units - m.units) + 2 * length m.pend + opens_weight m.opens.items + 1
turn_weight m (turn.Call f) = 2 * (most_units - m.units) + open_weight f + opens_weight m.opens.items
turn_weight m turn.Finished = 0
turn_weight m (turn.Refused r) = 0

-- a turn was made: what all comes to after it, all came to before, and less is left than w
pub record Turned (d : Macros) (m : Machine) (t : Turn) (up : Outcome → Type 0) (w : ℕ) : Type 0 where
  pub known : KnownAfter m t
  pub call_known : KnownTurn m.sets t
  pub all : (o : Outcome) → TurnUpTo d m t o → up o
  pub less : turn_weight m t < w

abbrev pub turn_of : Option Open → Turn
turn_of None = turn.Level
turn_of (Some f) = turn.Call f

abbrev pub before_todo : Frame → Task → Frame
before_todo f x = record f { todo = x ∷ f.todo }

-- the call, with one argument more to do before the others, comes to o
abbrev pub CallUpTo : Macros → Machine → Open → Todo → Outcome → Type 0
CallUpTo d m f x o = CallEnds most_units d (frames_of m.sets m.opens.items) (before_todo (frame_of m.sets f) (task_data m.sets x)) m.units o

-- a token of a text, for which nothing is barred
abbrev pub pend_of : Tok → Pend
pend_of t = record { tok = t; set = 0 }

-- a text is expanded as far as this machine stands
pub record Running (d : Macros) (ts : List Tok) (m : Machine) (call : Option Open) : Type 0 where
  pub known : KnownMachine m
  pub call_known : KnownTurn m.sets (turn_of call)
  pub all : (o : Outcome) → TurnUpTo d m (turn_of call) o → expands d ts o
