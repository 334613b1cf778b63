-- Tokens under a table of sets that grows.
use Rattle.std.proofs.Common.{◌≡◌, ℕ, ◌<◌, Bool, List, [], ◌∷◌, ◌++◌, length, refl, ap, ◌∙◌, arith}
use Rattle.c_macro.specs.declared.pend.Pend.{Pend}
use Rattle.c_macro.specs.declared.pend.Given.{Given}
use Rattle.c_macro.specs.declared.pend.Todo.{Todo}
use Rattle.c_macro.specs.Marked.{Marked}
use Rattle.c_macro.specs.Bodies as bodies
use Rattle.c_macro.specs.SetData.{set_count, SetTable, Grown}
use Rattle.c_macro.specs.Pending.{mark, marks, KnownAll, arg_data, args_data, KnownArgs, task_data, tasks_data, KnownTasks}
use Rattle.c_macro.proofs.SetLaws.{grown_longer, bars_grow}

pub mark_grows : (a b : SetTable) (p : Pend) → Grown a b → p.set < set_count a → mark b p ≡ mark a p
mark_grows a b p g h = ap (λ x. let m : Marked = record { tok = p.tok; bars = x } in m) (bars_grow a b p.set g h)

pub set_grows : (a b : SetTable) (k : ℕ) → Grown a b → k < set_count a → k < set_count b
set_grows a b k g h = let l = grown_longer a b g in omega (arith, l)

pub known_grow : (a b : SetTable) (ps : List Pend) → Grown a b → KnownAll a ps → KnownAll b ps
known_grow a b [] g h = tt
known_grow a b (p ∷ ps) g h = (set_grows a b p.set g h.0, known_grow a b ps g h.1)

pub marks_grow : (a b : SetTable) (ps : List Pend) → Grown a b → KnownAll a ps → marks b ps ≡ marks a ps
marks_grow a b [] g h = refl
marks_grow a b (p ∷ ps) g h = ap (λ x. x ∷ marks b ps) (mark_grows a b p g h.0) ∙ ap (λ xs. mark a p ∷ xs) (marks_grow a b ps g h.1)

pub known_append : (s : SetTable) (ps qs : List Pend) → KnownAll s ps → KnownAll s qs → KnownAll s (ps ++ qs)
known_append s [] qs h k = k
known_append s (p ∷ ps) qs h k = (h.0, known_append s ps qs h.1 k)

pub known_front : (s : SetTable) (ps qs : List Pend) → KnownAll s (ps ++ qs) → KnownAll s ps
known_front s [] qs h = tt
known_front s (p ∷ ps) qs h = (h.0, known_front s ps qs h.1)

pub known_back : (s : SetTable) (ps qs : List Pend) → KnownAll s (ps ++ qs) → KnownAll s qs
known_back s [] qs h = h
known_back s (p ∷ ps) qs h = known_back s ps qs h.1

pub args_known_grow : (a b : SetTable) (gs : List Given) → Grown a b → KnownArgs a gs → KnownArgs b gs
args_known_grow a b [] g h = tt
args_known_grow a b (x ∷ xs) g h = (known_grow a b x.written g h.0, known_grow a b x.full.items g h.1, args_known_grow a b xs g h.2)

arg_of : List Marked → List Marked → bodies.Arg
arg_of w f = record { written = w; full = f }

pub args_grow : (a b : SetTable) (gs : List Given) → Grown a b → KnownArgs a gs → args_data b gs ≡ args_data a gs
unfolding arg_of
args_grow a b [] g h = refl
args_grow a b (x ∷ xs) g h =
    ap (λ w. arg_of w (marks b x.full.items) ∷ args_data b xs) (marks_grow a b x.written g h.0)
    ∙ (ap (λ f. arg_of (marks a x.written) f ∷ args_data b xs) (marks_grow a b x.full.items g h.1)
    ∙ ap (λ zs. arg_data a x ∷ zs) (args_grow a b xs g h.2))

task_of : List Marked → List Marked → Bool → bodies.Task
task_of w r b = record { written = w; raw = r; wanted = b }

pub tasks_known_grow : (a b : SetTable) (xs : List Todo) → Grown a b → KnownTasks a xs → KnownTasks b xs
tasks_known_grow a b [] g h = tt
tasks_known_grow a b (x ∷ xs) g h = (known_grow a b x.written g h.0, known_grow a b x.raw g h.1, tasks_known_grow a b xs g h.2)

pub tasks_grow : (a b : SetTable) (xs : List Todo) → Grown a b → KnownTasks a xs → tasks_data b xs ≡ tasks_data a xs
unfolding task_of
tasks_grow a b [] g h = refl
tasks_grow a b (x ∷ xs) g h =
    ap (λ w. task_of w (marks b x.raw) x.wanted ∷ tasks_data b xs) (marks_grow a b x.written g h.0)
    ∙ (ap (λ f. task_of (marks a x.written) f x.wanted ∷ tasks_data b xs) (marks_grow a b x.raw g h.1)
    ∙ ap (λ zs. task_data a x ∷ zs) (tasks_grow a b xs g h.2))
