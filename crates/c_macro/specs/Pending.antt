-- How the program tells tokens with barred names, arguments and the parts of a body.
use Rattle.std.specs.Prelude.{◌<◌, List, [], ◌∷◌, length, map}
use Rattle.c_macro.specs.declared.pend.Pend.{Pend}
use Rattle.c_macro.specs.declared.pend.Given.{Given}
use Rattle.c_macro.specs.declared.pend.Todo.{Todo}
use Rattle.c_macro.specs.declared.part.Part.{Part}
use Rattle.c_macro.specs.declared.part.Part.TheVariants as part
use Rattle.c_macro.specs.Marked.{Marked}
use Rattle.c_macro.specs.Bodies as bodies
use Rattle.c_macro.specs.SetData.{set_count, SetTable, bars_of}

-- a token with the set of its number
abbrev pub mark : SetTable → Pend → Marked
mark s p = record { tok = p.tok; bars = bars_of s p.set }

abbrev pub marks : SetTable → List Pend → List Marked
marks s ps = map (λ p. mark s p) ps

-- the sets of these tokens are in the table
abbrev pub KnownAll : SetTable → List Pend → Type 0
KnownAll s [] = Unit {0}
KnownAll s (p ∷ ps) = (p.set < set_count s) × KnownAll s ps

abbrev pub part_data : Part → bodies.Part
part_data (part.Own t) = bodies.Own t
part_data part.Join = bodies.Join
part_data (part.Text s i) = bodies.Text s i
part_data (part.Written s i) = bodies.Written s i
part_data (part.Full s i) = bodies.Full s i

abbrev pub arg_data : SetTable → Given → bodies.Arg
arg_data s g = record { written = marks s g.written; full = marks s g.full.items }

abbrev pub args_data : SetTable → List Given → List bodies.Arg
args_data s gs = map (λ g. arg_data s g) gs

abbrev pub KnownArgs : SetTable → List Given → Type 0
KnownArgs s [] = Unit {0}
KnownArgs s (g ∷ gs) = KnownAll s g.written × KnownAll s g.full.items × KnownArgs s gs

abbrev pub task_data : SetTable → Todo → bodies.Task
task_data s x = record { written = marks s x.written; raw = marks s x.raw; wanted = x.wanted }

abbrev pub tasks_data : SetTable → List Todo → List bodies.Task
tasks_data s xs = map (λ x. task_data s x) xs

abbrev pub KnownTasks : SetTable → List Todo → Type 0
KnownTasks s [] = Unit {0}
KnownTasks s (x ∷ xs) = KnownAll s x.written × KnownAll s x.raw × KnownTasks s xs
