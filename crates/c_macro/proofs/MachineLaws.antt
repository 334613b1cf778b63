-- Arguments to prepare.
use Rattle.std.proofs.Common.{◌≡◌, ℕ, suc, ◌+◌, ◌*◌, ◌≤◌, Bool, true, false, List, [], ◌∷◌, ◌++◌, length, map, reverse, refl, sym, ap, subst, ◌∙◌, arith, append-nil, append_assoc, length-append, ◌<◌, if◌then◌else◌}
use Rattle.std.proofs.lemmas.List.{reverse-append}
use Rattle.std.specs.List.{list_any}
use Rattle.c_macro.specs.declared.pend.Pend.{Pend}
use Rattle.c_macro.specs.declared.pend.Todo.{Todo}
use Rattle.c_macro.specs.declared.needs.Needs.{Needs}
use Rattle.c_macro.specs.Needing.{NeedsOf}
use Rattle.c_macro.specs.Marked.{Marked}
use Rattle.c_macro.specs.Bodies as bodies
use Rattle.c_macro.specs.Bodies.{tasks, task_of, is_written, is_full}
use Rattle.c_macro.specs.SetData.{SetTable}
use Rattle.c_macro.specs.Pending.{marks, KnownAll, KnownTasks, task_data, tasks_data}
use Rattle.c_macro.specs.Collecting.{rows_data, KnownRows, rows_size}
use Rattle.c_macro.specs.Machine.{todo_weight, Listing}

marks_if : (s : SetTable) (b : Bool) (ps : List Pend) → marks s (if b then ps else []) ≡ (if b then marks s ps else [])
marks_if s true ps = refl
marks_if s false ps = refl

task : List Marked → List Marked → Bool → bodies.Task
task w r b = record { written = w; raw = r; wanted = b }

pub todo_is : (s : SetTable) (x : Todo) (ps : List bodies.Part) (n : ℕ) (row : List Pend) (w : Bool) → w ≡ list_any (is_written n) ps → x.wanted ≡ list_any (is_full n) ps
    → x.raw ≡ (if x.wanted then row else []) → x.written ≡ (if w then row else []) → task_data s x ≡ task_of ps n (marks s row)
unfolding task
todo_is s x ps n row w e f r v =
    let a : marks s x.written ≡ (if list_any (is_written n) ps then marks s row else []) = ap (marks s) v ∙ (marks_if s w row ∙ ap (λ b. if b then marks s row else []) e) in
    let b : marks s x.raw ≡ (if list_any (is_full n) ps then marks s row else []) = ap (marks s) r ∙ (marks_if s x.wanted row ∙ ap (λ c. if c then marks s row else []) f) in
    ap (λ z. task z (marks s x.raw) x.wanted) a ∙ (ap (λ z. task (if list_any (is_written n) ps then marks s row else []) z x.wanted) b
    ∙ ap (λ z. task (if list_any (is_written n) ps then marks s row else []) (if list_any (is_full n) ps then marks s row else []) z) f)

tasks_push : (ps : List bodies.Part) (i : ℕ) (rs : List (List Marked)) (r : List Marked) → tasks ps i (rs ++ r ∷ []) ≡ tasks ps i rs ++ task_of ps (i + length rs) r ∷ []
tasks_push ps i [] r = let e : i ≡ i + 0 = omega arith in ap (λ n. task_of ps n r ∷ []) e
tasks_push ps i (x ∷ rs) r = let e : i + 1 + length rs ≡ i + suc (length rs) = omega arith in ap (λ xs. task_of ps i x ∷ xs) (tasks_push ps (i + 1) rs r ∙ ap (λ n. tasks ps (i + 1) rs ++ task_of ps n r ∷ []) e)

rows_push : (s : SetTable) (rs : List (List Pend)) (r : List Pend) → rows_data s (rs ++ r ∷ []) ≡ rows_data s rs ++ marks s r ∷ []
rows_push s [] r = refl
rows_push s (q ∷ rs) r = ap (λ xs. marks s q ∷ xs) (rows_push s rs r)

rows_length : (s : SetTable) (rs : List (List Pend)) → length (rows_data s rs) ≡ length rs
rows_length s [] = refl
rows_length s (r ∷ rs) = ap suc (rows_length s rs)

tasks_reverse : (s : SetTable) (todo : List Todo) (x : Todo) → tasks_data s (reverse (todo ++ x ∷ [])) ≡ task_data s x ∷ tasks_data s (reverse todo)
tasks_reverse s todo x = ap (tasks_data s) (reverse-append todo (x ∷ []))

tasks_known : (s : SetTable) (todo : List Todo) (x : Todo) → KnownTasks s todo → KnownAll s x.written × KnownAll s x.raw → KnownTasks s (todo ++ x ∷ [])
tasks_known s [] x h k = (k.0, k.1, tt)
tasks_known s (y ∷ ys) x h k = (h.0, h.1, tasks_known s ys x h.2 k)

weight_push : (todo : List Todo) (x : Todo) → todo_weight (todo ++ x ∷ []) ≡ todo_weight todo + (2 * length x.raw + 2)
weight_push [] x = omega arith
weight_push (y ∷ ys) x = let e : todo_weight (ys ++ x ∷ []) ≡ todo_weight ys + (2 * length x.raw + 2) = weight_push ys x in omega (arith, e)

size_push : (rs : List (List Pend)) (r : List Pend) → rows_size (rs ++ r ∷ []) ≡ rows_size rs + (length r + 1)
size_push [] r = omega arith
size_push (q ∷ rs) r = let e : rows_size (rs ++ r ∷ []) ≡ rows_size rs + (length r + 1) = size_push rs r in omega (arith, e)

known_rows : (s : SetTable) (rs : List (List Pend)) (r : List Pend) → KnownRows s (rs ++ r ∷ []) → KnownRows s rs × KnownAll s r
known_rows s [] r h = (tt, h.0)
known_rows s (q ∷ rs) r h = let k = known_rows s rs r h.1 in ((h.0, k.0), k.1)

pub rows_known_end : (s : SetTable) (rs : List (List Pend)) (r : List Pend) → KnownRows s rs → KnownAll s r → KnownRows s (rs ++ r ∷ [])
rows_known_end s [] r h k = (k, tt)
rows_known_end s (q ∷ rs) r h k = (h.0, rows_known_end s rs r h.1 k)

pub size_end : (rs : List (List Pend)) → rows_size (rs ++ [] ∷ []) ≡ rows_size rs + 1
size_end rs = size_push rs []

pub listing_starts : (needs : Needs) (whole : List (List Pend)) (todo : List Todo) → todo ≡ [] → Listing needs whole whole todo
listing_starts needs whole todo e = record {
  is = λ s ps count n l. rw e (append-nil (tasks ps 0 (rows_data s whole)));
  known = λ s h. (h, rw e tt);
  weight = let l : todo_weight todo ≡ 0 = ap todo_weight e in omega (arith, l);
  count = omega arith;
}

pub listing_goes : (needs : Needs) (whole left rest : List (List Pend)) (row : List Pend) (todo more : List Todo) (x : Todo) → Listing needs whole left todo → left ≡ rest ++ row ∷ [] → more ≡ todo ++ x ∷ []
    → ((s : SetTable) (ps : List bodies.Part) (count : ℕ) → NeedsOf ps count needs → length rest < count → task_data s x ≡ task_of ps (length rest) (marks s row)) → ((s : SetTable) → KnownAll s row → KnownAll s x.written × KnownAll s x.raw)
    → length x.raw ≤ length row → Listing needs whole rest more
listing_goes needs whole left rest row todo more x l e m is known size = record {
  is = λ s ps count n fits.
      let a : tasks_data s (reverse more) ≡ task_of ps (length rest) (marks s row) ∷ tasks_data s (reverse todo) =
      ap (λ ts. tasks_data s (reverse ts)) m ∙ (tasks_reverse s todo x ∙ ap (λ t. t ∷ tasks_data s (reverse todo)) (is s ps count n (let z = below in omega (arith, z, fits)))) in
      let b : tasks ps 0 (rows_data s left) ≡ tasks ps 0 (rows_data s rest) ++ task_of ps (length rest) (marks s row) ∷ [] =
      ap (λ rs. tasks ps 0 (rows_data s rs)) e ∙ (ap (tasks ps 0) (rows_push s rest row) ∙ (tasks_push ps 0 (rows_data s rest) (marks s row)
      ∙ ap (λ n. tasks ps 0 (rows_data s rest) ++ task_of ps n (marks s row) ∷ []) (let z : 0 + length (rows_data s rest) ≡ length rest = omega (arith, rows_length s rest) in z))) in
      ap (λ ts. tasks ps 0 (rows_data s rest) ++ ts) a
      ∙ (sym (append_assoc (tasks ps 0 (rows_data s rest)) (task_of ps (length rest) (marks s row) ∷ []) (tasks_data s (reverse todo)))
      ∙ (ap (λ ts. ts ++ tasks_data s (reverse todo)) (sym b) ∙ l.is s ps count n fits));
  known = λ s h.
      let k = l.known s h in
      let r = known_rows s rest row (subst (KnownRows s) e k.0) in
      (r.0, subst (KnownTasks s) (sym m) (tasks_known s todo x k.1 (known s r.1)));
  weight =
      let a : todo_weight more ≡ todo_weight todo + (2 * length x.raw + 2) = ap todo_weight m ∙ weight_push todo x in
      let b : rows_size left ≡ rows_size rest + (length row + 1) = ap rows_size e ∙ size_push rest row in
      omega (arith, l.weight, a, b, size);
  count = let z = below in omega (arith, z);
}
  where
    below : length rest < length whole
    below = let a : length left ≡ length rest + 1 = ap length e ∙ length-append rest (row ∷ []) in let z = l.count in omega (arith, a, z)

pub listing_ends : (needs : Needs) (whole left : List (List Pend)) (todo : List Todo) → Listing needs whole left todo → left ≡ []
    → (s : SetTable) (ps : List bodies.Part) (count : ℕ) → NeedsOf ps count needs → length whole ≤ count → tasks_data s (reverse todo) ≡ tasks ps 0 (rows_data s whole)
listing_ends needs whole left todo l e s ps count n fits = ap (λ (rs : List (List Pend)). tasks ps 0 (rows_data s rs) ++ tasks_data s (reverse todo)) (sym e) ∙ l.is s ps count n fits
