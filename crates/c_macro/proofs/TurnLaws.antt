-- The turns of the worklist, as steps of an expansion.
use Rattle.std.proofs.Common.{◌≡◌, ℕ, suc, ◌+◌, ◌*◌, ◌<◌, ◌≤◌, Bool, true, false, List, [], ◌∷◌, ◌++◌, Option, Some, None, is_some, option_map, length, map, reverse, refl, sym, ap, subst, ◌∙◌, arith, append-nil, length-append, codes, if◌then◌else◌}
use Rattle.std.proofs.lemmas.List.{reverse-append}
use Rattle.edt_base.specs.declared.fault.Rule.{Rule}
use Rattle.edt_base.specs.declared.fault.Rule.TheVariants.{C2, C3, C4, C7}
use Rattle.c_macro.specs.declared.pend.Pend.{Pend}
use Rattle.c_macro.specs.declared.pend.Todo.{Todo}
use Rattle.c_macro.specs.declared.pend.Given.{Given}
use Rattle.c_macro.specs.declared.turn.Open.{Open}
use Rattle.c_macro.specs.declared.turn.Machine.{Machine}
use Rattle.c_macro.specs.declared.turn.Turn.{Turn}
use Rattle.c_macro.specs.declared.turn.Turn.TheVariants as turn
use Rattle.c_macro.specs.MacroData.{Macro}
use Rattle.c_macro.specs.Marked.{Marked, Bars, with_bar, common_bars}
use Rattle.c_macro.specs.Bodies.{spaced_as, add_bars, parts_of, tasks, object_text, Part, joined, items}
use Rattle.c_macro.specs.Directive.{is_punct}
use Rattle.c_macro.specs.Calls.{Closed, closed, commas_of, fitted}
use Rattle.c_macro.specs.Collecting.{rows_data, rows_size}
use Rattle.c_macro.specs.Expansion.{look_macro, look_params, look_closed, look_fitted, macro_at, Macros, Put, Object, Call, look, Outcome, Done, Refused, Replaced, unjoined, above, within, object, most_units, Ready, ArgsExpand, none}
use Rattle.c_macro.specs.Turns.{Frame, frame_text, UpTo, Ends, CallEnds}
use Rattle.c_macro.specs.SetData.{set_count, SetTable, Grown, bars_of}
use Rattle.c_macro.specs.Pending.{mark, marks, KnownAll, KnownTasks, KnownArgs, args_data, task_data, tasks_data, part_data}
use Rattle.c_macro.specs.Machine.{todo_weight}
use Rattle.c_macro.specs.Worklist.{names_of, frame_of, frames_of, KnownOpen, KnownOpens, KnownMachine, LevelEnds, TurnUpTo, TextUpTo, CallUpTo, before_todo, open_weight, opens_weight, turn_weight, Turned}
use Rattle.c_macro.proofs.SetLaws.{grown_refl, grown_trans}
use Rattle.c_macro.proofs.PendLaws.{mark_grows, marks_grow, known_grow, known_append, set_grows, args_grow, args_known_grow, tasks_grow, tasks_known_grow}
use Rattle.c_macro.proofs.PlaceLaws.{known_reverse}
use Rattle.c_macro.proofs.Steps.{opened, moved_on, step_put, step_bad, step_open, step_written, step_start, step_close, all_done, text_above, text_unjoined}

pub marks_push : (s : SetTable) (ps : List Pend) (p : Pend) → marks s (ps ++ p ∷ []) ≡ marks s ps ++ mark s p ∷ []
marks_push s [] p = refl
marks_push s (q ∷ ps) p = ap (λ xs. mark s q ∷ xs) (marks_push s ps p)

pub put_turned : (d : Macros) (m n : Machine) (tok : Pend) → KnownMachine m → tok.set < set_count m.sets → n.sets ≡ m.sets → n.opens ≡ m.opens → n.pend ≡ m.pend → n.out.items ≡ m.out.items ++ tok ∷ [] → n.units ≡ m.units
    → look d (mark m.sets tok ∷ marks m.sets (reverse m.pend)) ≡ Put (mark m.sets tok) (marks m.sets (reverse m.pend))
    → Turned d n turn.Level (LevelEnds d m (mark m.sets tok ∷ marks m.sets (reverse m.pend))) (turn_weight m turn.Level + 2)
put_turned d m n tok k there es eo ep eout eu l = record {
  known = record { pend = rw (es, ep) k.pend; out = rw (es, eout) (known_append m.sets m.out.items (tok ∷ []) k.out (there, tt)); opens = rw (es, eo) k.opens; units = rw eu k.units };
  call_known = tt;
  all = λ o e.
      let e1 : Ends most_units d (frames_of m.sets m.opens.items) (marks m.sets (reverse m.pend)) (marks m.sets (m.out.items ++ tok ∷ [])) m.units o = rw (es, eo, ep, eout, eu) at e in
      let e2 : Ends most_units d (frames_of m.sets m.opens.items) (marks m.sets (reverse m.pend)) (marks m.sets m.out.items ++ mark m.sets tok ∷ []) m.units o =
      subst (λ xs. Ends most_units d (frames_of m.sets m.opens.items) (marks m.sets (reverse m.pend)) xs m.units o) (marks_push m.sets m.out.items tok) e1 in
      step_put most_units d (frames_of m.sets m.opens.items) (mark m.sets tok ∷ marks m.sets (reverse m.pend)) (marks m.sets (reverse m.pend)) (marks m.sets m.out.items) (mark m.sets tok) m.units o l e2;
  less = rw (eo, ep, eu) (omega arith);
}

-- ---- open calls under a table of sets that grows

pub todo_known_reverse : (s : SetTable) (xs : List Todo) → KnownTasks s xs → KnownTasks s (reverse xs)
todo_known_reverse s [] h = tt
todo_known_reverse s (x ∷ xs) h = subst (KnownTasks s) (sym (reverse-append (x ∷ []) xs)) (ended (reverse xs) (todo_known_reverse s xs h.2))
  where
    ended : (ys : List Todo) → KnownTasks s ys → KnownTasks s (ys ++ x ∷ [])
    ended [] k = (h.0, h.1, tt)
    ended (y ∷ ys) k = (k.0, k.1, ended ys k.2)

pub frame_grows : (a b : SetTable) (f : Open) → Grown a b → KnownOpen a f → frame_of b f ≡ frame_of a f
frame_grows a b f g k =
    let e1 : mark b f.name ≡ mark a f.name = mark_grows a b f.name g k.name in
    let e2 : mark b f.last ≡ mark a f.last = mark_grows a b f.last g k.last in
    let e3 : marks b (reverse f.rest) ≡ marks a (reverse f.rest) = marks_grow a b (reverse f.rest) g (known_reverse a f.rest k.rest) in
    let e4 : marks b f.out.items ≡ marks a f.out.items = marks_grow a b f.out.items g k.out in
    let e5 : marks b f.written ≡ marks a f.written = marks_grow a b f.written g k.written in
    let e6 : tasks_data b (reverse f.todo.items) ≡ tasks_data a (reverse f.todo.items) = tasks_grow a b (reverse f.todo.items) g (todo_known_reverse a f.todo.items k.todo) in
    let e7 : args_data b f.done.items ≡ args_data a f.done.items = args_grow a b f.done.items g k.done in
    λ i. record { name = e1 i; macro = f.def.now; names = names_of f.def.now.params; last = e2 i; rest = e3 i; out = e4 i; written = e5 i; todo = e6 i; done = e7 i }

pub open_known_grow : (a b : SetTable) (f : Open) → Grown a b → KnownOpen a f → KnownOpen b f
open_known_grow a b f g k = record {
  name = set_grows a b f.name.set g k.name;
  last = set_grows a b f.last.set g k.last;
  rest = known_grow a b f.rest g k.rest;
  out = known_grow a b f.out.items g k.out;
  written = known_grow a b f.written g k.written;
  todo = tasks_known_grow a b f.todo.items g k.todo;
  done = args_known_grow a b f.done.items g k.done;
  params = k.params;
  parts = k.parts;
}

pub opens_known_grow : (a b : SetTable) (fs : List Open) → Grown a b → KnownOpens a fs → KnownOpens b fs
opens_known_grow a b [] g k = tt
opens_known_grow a b (f ∷ fs) g k = (open_known_grow a b f g k.0, opens_known_grow a b fs g k.1)

opens_grow : (a b : SetTable) (fs : List Open) → Grown a b → KnownOpens a fs → map (frame_of b) fs ≡ map (frame_of a) fs
opens_grow a b [] g k = refl
opens_grow a b (f ∷ fs) g k = ap (λ x. x ∷ map (frame_of b) fs) (frame_grows a b f g k.0) ∙ ap (λ xs. frame_of a f ∷ xs) (opens_grow a b fs g k.1)

pub frames_grow : (a b : SetTable) (fs : List Open) → Grown a b → KnownOpens a fs → frames_of b fs ≡ frames_of a fs
frames_grow a b fs g k = ap reverse (opens_grow a b fs g k)

-- ---- a text in the place of a name

length_spaced : (s : Bool) (ts : List Marked) → length (spaced_as s ts) ≡ length ts
length_spaced s [] = refl
length_spaced s (t ∷ ts) = refl

length_barred : (h : Bars) (ts : List Marked) → length (add_bars h ts) ≡ length ts
length_barred h [] = refl
length_barred h (t ∷ ts) = ap suc (length_barred h ts)

pub length_marks : (s : SetTable) (ps : List Pend) → length (marks s ps) ≡ length ps
length_marks s [] = refl
length_marks s (p ∷ ps) = ap suc (length_marks s ps)

-- what is put in place of a name for which nothing is barred but these names and its own
abbrev pub new_text : SetTable → ℕ → Pend → List Pend → List Marked
new_text s set name toks = spaced_as name.tok.spaced (add_bars (with_bar (bars_of s set) name.tok.spell) (marks s toks))

new_length : (s : SetTable) (set : ℕ) (name : Pend) (toks : List Pend) → length (new_text s set name toks) ≡ length toks
new_length s set name toks = length_spaced name.tok.spaced _ ∙ (length_barred _ (marks s toks) ∙ length_marks s toks)

pub text_turned : (d : Macros) (m n : Machine) (name : Pend) (set bars count : ℕ) (toks pend' : List Pend) (s : SetTable) → KnownMachine m → KnownAll m.sets toks → Grown m.sets s
    → bars_of s bars ≡ with_bar (bars_of m.sets set) name.tok.spell → Grown s n.sets → KnownAll n.sets n.pend
    → marks n.sets (reverse n.pend) ≡ spaced_as name.tok.spaced (add_bars (bars_of s bars) (marks s toks)) ++ marks s (reverse m.pend)
    → length n.pend ≡ length m.pend + length toks → n.opens ≡ m.opens → n.out ≡ m.out → count ≡ length toks → n.units ≡ m.units + (1 + count) → m.units + 1 + count ≤ most_units
    → Turned d n turn.Level (TextUpTo d (frames_of m.sets m.opens.items) (Some (new_text m.sets set name toks)) (marks m.sets (reverse m.pend)) (marks m.sets m.out.items) m.units) (turn_weight m turn.Level)
text_turned d m n name set bars count toks pend' s k ht g1 names g2 kp is size eo eout ec eu near =
    let g : Grown m.sets n.sets = grown_trans m.sets s n.sets g1 g2 in
    let new : List Marked = new_text m.sets set name toks in
    let is1 : marks n.sets (reverse n.pend) ≡ new ++ marks m.sets (reverse m.pend) =
    is ∙ (ap (λ h. spaced_as name.tok.spaced (add_bars h (marks s toks)) ++ marks s (reverse m.pend)) names
    ∙ (ap (λ ts. spaced_as name.tok.spaced (add_bars (with_bar (bars_of m.sets set) name.tok.spell) ts) ++ marks s (reverse m.pend)) (marks_grow m.sets s toks g1 ht)
    ∙ ap (λ ts. new ++ ts) (marks_grow m.sets s (reverse m.pend) g1 (known_reverse m.sets m.pend k.pend)))) in
    let fr : frames_of n.sets n.opens.items ≡ frames_of m.sets m.opens.items = ap (λ v. frames_of n.sets v.items) eo ∙ frames_grow m.sets n.sets m.opens.items g k.opens in
    let out : marks n.sets n.out.items ≡ marks m.sets m.out.items = ap (λ v. marks n.sets v.items) eout ∙ marks_grow m.sets n.sets m.out.items g k.out in
    let len : length new ≡ length toks = new_length m.sets set name toks in
    let un : n.units ≡ m.units + 1 + length new = omega (arith, eu, ec, len) in
    let fits : m.units + 1 + length new ≤ most_units = omega (arith, near, ec, len) in
    record {
      known = record {
        pend = kp;
        out = subst (λ v. KnownAll n.sets v.items) (sym eout) (known_grow m.sets n.sets m.out.items g k.out);
        opens = subst (λ v. KnownOpens n.sets v.items) (sym eo) (opens_known_grow m.sets n.sets m.opens.items g k.opens);
        units = omega (arith, un, fits);
      };
      call_known = tt;
      all = λ o e.
          let e1 : Ends most_units d (frames_of m.sets m.opens.items) (new ++ marks m.sets (reverse m.pend)) (marks m.sets m.out.items) (m.units + 1 + length new) o =
          subst (λ u. Ends most_units d (frames_of m.sets m.opens.items) (new ++ marks m.sets (reverse m.pend)) (marks m.sets m.out.items) u o) un
          (subst (λ x. Ends most_units d (frames_of m.sets m.opens.items) (new ++ marks m.sets (reverse m.pend)) x n.units o) out
          (subst (λ x. Ends most_units d (frames_of m.sets m.opens.items) x (marks n.sets n.out.items) n.units o) is1
          (subst (λ x. Ends most_units d x (marks n.sets (reverse n.pend)) (marks n.sets n.out.items) n.units o) fr e))) in
          (e1.mid, within new (marks m.sets (reverse m.pend)) m.units e1.mid fits e1.here, e1.up);
      less =
          let w : opens_weight n.opens.items ≡ opens_weight m.opens.items = ap (λ v. opens_weight v.items) eo in
          omega (arith, un, fits, len, size, w);
    }

up_refused : (d : Macros) (fs : List Frame) (r : Rule) → UpTo most_units d fs (Refused r) (Refused r)
up_refused d [] r = refl
up_refused d (f ∷ fs) r = refl

refused_text : (d : Macros) (fs : List Frame) (text : Option (List Marked)) (rest out : List Marked) (u : ℕ) (r : Rule) → Replaced most_units d text rest u (Refused r) → (o : Outcome) → o ≡ Refused r → TextUpTo d fs text rest out u o
refused_text d fs text rest out u r h o e = subst (TextUpTo d fs text rest out u) (sym e) (Refused r, h, up_refused d fs r)

pub unjoined_turned : (d : Macros) (m : Machine) (text : Option (List Marked)) → KnownMachine m → text ≡ None
    → Turned d m (turn.Refused C4) (TextUpTo d (frames_of m.sets m.opens.items) text (marks m.sets (reverse m.pend)) (marks m.sets m.out.items) m.units) (turn_weight m turn.Level)
unjoined_turned d m text k e = record {
  known = tt;
  call_known = tt;
  all = λ o h. refused_text d _ text _ _ m.units C4 (subst (λ t. Replaced most_units d t (marks m.sets (reverse m.pend)) m.units (Refused C4)) (sym e) (unjoined (marks m.sets (reverse m.pend)) m.units)) o h;
  less = omega arith;
}

pub above_turned : (d : Macros) (m : Machine) (name : Pend) (set count : ℕ) (toks : List Pend) (text : Option (List Marked)) → KnownMachine m → text ≡ Some (new_text m.sets set name toks) → count ≡ length toks → most_units < m.units + 1 + count
    → Turned d m (turn.Refused C7) (TextUpTo d (frames_of m.sets m.opens.items) text (marks m.sets (reverse m.pend)) (marks m.sets m.out.items) m.units) (turn_weight m turn.Level)
above_turned d m name set count toks text k e ec far = record {
  known = tt;
  call_known = tt;
  all = λ o h. refused_text d _ text _ _ m.units C7 (subst (λ t. Replaced most_units d t (marks m.sets (reverse m.pend)) m.units (Refused C7)) (sym e)
      (above (new_text m.sets set name toks) (marks m.sets (reverse m.pend)) m.units (let l = new_length m.sets set name toks in omega (arith, far, ec, l)))) o h;
  less = omega arith;
}

-- ---- a text made while the table of sets grows

-- the same machine with more sets
abbrev pub with_sets : Machine → SetTable → Machine
with_sets m s = record m { sets = s }

pub machine_grows : (m : Machine) (s : SetTable) → KnownMachine m → Grown m.sets s → KnownMachine (with_sets m s)
machine_grows m s k g = record {
  pend = known_grow m.sets s m.pend g k.pend;
  out = known_grow m.sets s m.out.items g k.out;
  opens = opens_known_grow m.sets s m.opens.items g k.opens;
  units = k.units;
}

text_grows : (d : Macros) (m : Machine) (s : SetTable) (text : Option (List Marked)) (o : Outcome) → KnownMachine m → Grown m.sets s
    → TextUpTo d (frames_of s m.opens.items) text (marks s (reverse m.pend)) (marks s m.out.items) m.units o
    → TextUpTo d (frames_of m.sets m.opens.items) text (marks m.sets (reverse m.pend)) (marks m.sets m.out.items) m.units o
text_grows d m s text o k g e =
    subst (λ fs. TextUpTo d fs text (marks m.sets (reverse m.pend)) (marks m.sets m.out.items) m.units o) (frames_grow m.sets s m.opens.items g k.opens)
    (subst (λ x. TextUpTo d (frames_of s m.opens.items) text x (marks m.sets m.out.items) m.units o) (marks_grow m.sets s (reverse m.pend) g (known_reverse m.sets m.pend k.pend))
    (subst (λ x. TextUpTo d (frames_of s m.opens.items) text (marks s (reverse m.pend)) x m.units o) (marks_grow m.sets s m.out.items g k.out) e))

map_both : {A B C : Type 0} (f : A → B) (g : B → C) (o : Option A) → option_map (λ x. g (f x)) o ≡ option_map g (option_map f o)
map_both f g None = refl
map_both f g (Some x) = refl

-- the text that is put in place, by a table that has grown
pub placed_text : {V : Type 0} (a b : SetTable) (items : V → List Pend) (name : Pend) (set : ℕ) (h : Bars) (text : Option V) (joined : Option (List Marked)) → option_map (λ v. marks b (items v)) text ≡ joined → bars_of b set ≡ h
    → option_map (λ v. new_text b set name (items v)) text ≡ option_map (λ ts. spaced_as name.tok.spaced (add_bars (with_bar h name.tok.spell) ts)) joined
placed_text a b items name set h text joined e s =
    map_both (λ v. marks b (items v)) (λ ts. spaced_as name.tok.spaced (add_bars (with_bar (bars_of b set) name.tok.spell) ts)) text
    ∙ (ap (option_map (λ ts. spaced_as name.tok.spaced (add_bars (with_bar (bars_of b set) name.tok.spell) ts))) e
    ∙ ap (λ x. option_map (λ ts. spaced_as name.tok.spaced (add_bars (with_bar x name.tok.spell) ts)) joined) s)

pub object_turned : (d : Macros) (m n : Machine) (s : SetTable) (t : Turn) (tok : Pend) (mac : Macro) (text : Option (List Marked)) → KnownMachine m → tok.set < set_count m.sets → Grown m.sets s
    → text ≡ object_text (mark m.sets tok) mac → look d (mark m.sets tok ∷ marks m.sets (reverse m.pend)) ≡ Object (mark m.sets tok) mac (marks m.sets (reverse m.pend))
    → Turned d n t (TextUpTo d (frames_of s m.opens.items) text (marks s (reverse m.pend)) (marks s m.out.items) m.units) (turn_weight m turn.Level)
    → Turned d n t (LevelEnds d m (mark m.sets tok ∷ marks m.sets (reverse m.pend))) (turn_weight m turn.Level + 2)
object_turned d m n s t tok mac text k there g is l r = record {
  known = r.known;
  call_known = r.call_known;
  all = λ o e.
      let x = text_grows d m s text o k g (r.all o e) in
      let y : Replaced most_units d (object_text (mark m.sets tok) mac) (marks m.sets (reverse m.pend)) m.units x.0 = subst (λ z. Replaced most_units d z (marks m.sets (reverse m.pend)) m.units x.0) is x.1 in
      record { mid = x.0; here = object (mark m.sets tok ∷ marks m.sets (reverse m.pend)) m.units (mark m.sets tok) mac (marks m.sets (reverse m.pend)) x.0 l y; up = x.2 };
  less = let w = r.less in omega (arith, w);
}

-- the machine that goes on behind a call
abbrev pub behind_call : Machine → Open → SetTable → Machine
behind_call m f s = record { sets = s; opens = m.opens; pend = f.rest; out = f.out; units = m.units }

pub behind_known : (m : Machine) (f : Open) (s : SetTable) → KnownMachine m → KnownOpen m.sets f → Grown m.sets s → KnownMachine (behind_call m f s)
behind_known m f s k h g = record {
  pend = known_grow m.sets s f.rest g h.rest;
  out = known_grow m.sets s f.out.items g h.out;
  opens = opens_known_grow m.sets s m.opens.items g k.opens;
  units = k.units;
}

pub call_turned : (d : Macros) (m n : Machine) (s : SetTable) (t : Turn) (f : Open) (text : Option (List Marked)) → KnownMachine m → KnownOpen m.sets f → Grown m.sets s → f.todo.items ≡ []
    → text ≡ frame_text (frame_of m.sets f) (args_data m.sets f.done.items)
    → Turned d n t (TextUpTo d (frames_of s m.opens.items) text (marks s (reverse f.rest)) (marks s f.out.items) m.units) (turn_weight (behind_call m f s) turn.Level)
    → Turned d n t (TurnUpTo d m (turn.Call f)) (turn_weight m (turn.Call f))
call_turned d m n s t f text k h g empty is r = record {
  known = r.known;
  call_known = r.call_known;
  all = λ o e.
      let kb : KnownMachine (behind_call m f m.sets) = behind_known m f m.sets k h (grown_refl m.sets) in
      let x = text_grows d (behind_call m f m.sets) s text o kb g (r.all o e) in
      let fr : Frame = frame_of m.sets f in
      let y : Replaced most_units d (frame_text fr (fr.done ++ [])) fr.rest m.units x.0 =
      subst (λ z. Replaced most_units d (frame_text fr z) fr.rest m.units x.0) (sym (append-nil fr.done)) (subst (λ z. Replaced most_units d z fr.rest m.units x.0) is x.1) in
      let todo : fr.todo ≡ [] = ap (λ xs. tasks_data m.sets (reverse xs)) empty in
      record { mid = Ready [] m.units; here = subst (λ z. ArgsExpand most_units d z m.units (Ready [] m.units)) (sym todo) (none m.units); up = (x.0, y, x.2) };
  less = let w = r.less in let z : todo_weight f.todo.items ≡ 0 = ap todo_weight empty in omega (arith, w, z);
}

some_of : (o : Option (List Marked)) → true ≡ is_some o → (ts : List Marked) × (o ≡ Some ts)
some_of None e = cc
some_of (Some ts) e = (ts, refl)

none_of : (o : Option (List Marked)) → false ≡ is_some o → o ≡ None
none_of None e = refl
none_of (Some ts) e = cc

-- what is put in place of a call is above the limit, if its joins make tokens
pub above_refused : (d : Macros) (m n : Machine) (f : Open) (least : ℕ) → KnownOpen m.sets f → f.todo.items ≡ []
    → ((ts : List Marked) → joined (items (map part_data f.parts.now) (args_data m.sets f.done.items)) ≡ Some ts → least ≤ length ts) → most_units < m.units + 1 + least
    → true ≡ is_some (joined (items (map part_data f.parts.now) (args_data m.sets f.done.items)))
    → Turned d n (turn.Refused C7) (TurnUpTo d m (turn.Call f)) (turn_weight m (turn.Call f))
above_refused d m n f least k empty at_least far there =
    let fr : Frame = frame_of m.sets f in
    let todo : fr.todo ≡ [] = ap (λ xs. tasks_data m.sets (reverse xs)) empty in
    let x = some_of (joined (items (map part_data f.parts.now) (args_data m.sets f.done.items))) there in
    let h : Bars = with_bar (common_bars fr.name.bars fr.last.bars) fr.name.tok.spell in
    let new : List Marked = spaced_as fr.name.tok.spaced (add_bars h x.0) in
    let l : length new ≡ length x.0 = length_spaced fr.name.tok.spaced (add_bars h x.0) ∙ length_barred h x.0 in
    let text : frame_text fr fr.done ≡ Some new = ap (option_map (λ (ts : List Marked). spaced_as fr.name.tok.spaced (add_bars h ts))) (ap (λ (ps : List Part). joined (items ps fr.done)) (sym k.parts) ∙ x.1) in
    let a = at_least x.0 x.1 in
    record {
      known = tt;
      call_known = tt;
      all = λ o q. subst (CallEnds most_units d (frames_of m.sets m.opens.items) fr m.units) (sym q) (text_above most_units d (frames_of m.sets m.opens.items) fr new m.units todo text (omega (arith, a, l, far)));
      less = omega arith;
    }

pub unjoined_refused : (d : Macros) (m n : Machine) (f : Open) → KnownOpen m.sets f → f.todo.items ≡ []
    → false ≡ is_some (joined (items (map part_data f.parts.now) (args_data m.sets f.done.items)))
    → Turned d n (turn.Refused C4) (TurnUpTo d m (turn.Call f)) (turn_weight m (turn.Call f))
unjoined_refused d m n f k empty there =
    let fr : Frame = frame_of m.sets f in
    let todo : fr.todo ≡ [] = ap (λ xs. tasks_data m.sets (reverse xs)) empty in
    let x = none_of (joined (items (map part_data f.parts.now) (args_data m.sets f.done.items))) there in
    let h : Bars = with_bar (common_bars fr.name.bars fr.last.bars) fr.name.tok.spell in
    let text : frame_text fr fr.done ≡ None = ap (option_map (λ (ts : List Marked). spaced_as fr.name.tok.spaced (add_bars h ts))) (ap (λ (ps : List Part). joined (items ps fr.done)) (sym k.parts) ∙ x) in
    record {
      known = tt;
      call_known = tt;
      all = λ o q. subst (CallEnds most_units d (frames_of m.sets m.opens.items) fr m.units) (sym q) (text_unjoined most_units d (frames_of m.sets m.opens.items) fr m.units todo text);
      less = omega arith;
    }

-- ---- levels and calls

frames_push : (s : SetTable) (fs : List Open) (f : Open) → frames_of s (fs ++ f ∷ []) ≡ frame_of s f ∷ frames_of s fs
frames_push s fs f = ap reverse (mapped fs) ∙ reverse-append (map (frame_of s) fs) (frame_of s f ∷ [])
  where
    mapped : (gs : List Open) → map (frame_of s) (gs ++ f ∷ []) ≡ map (frame_of s) gs ++ frame_of s f ∷ []
    mapped [] = refl
    mapped (g ∷ gs) = ap (λ xs. frame_of s g ∷ xs) (mapped gs)

opens_known_parts : (s : SetTable) (fs : List Open) (f : Open) → KnownOpens s (fs ++ f ∷ []) → KnownOpens s fs × KnownOpen s f
opens_known_parts s [] f h = (tt, h.0)
opens_known_parts s (g ∷ fs) f h = let k = opens_known_parts s fs f h.1 in ((h.0, k.0), k.1)

opens_known_push : (s : SetTable) (fs : List Open) (f : Open) → KnownOpens s fs → KnownOpen s f → KnownOpens s (fs ++ f ∷ [])
opens_known_push s [] f h k = (k, tt)
opens_known_push s (g ∷ fs) f h k = (h.0, opens_known_push s fs f h.1 k)

opens_weight_push : (fs : List Open) (f : Open) → opens_weight (fs ++ f ∷ []) ≡ opens_weight fs + open_weight f
opens_weight_push [] f = omega arith
opens_weight_push (g ∷ fs) f = let e : opens_weight (fs ++ f ∷ []) ≡ opens_weight fs + open_weight f = opens_weight_push fs f in omega (arith, e)

args_push : (s : SetTable) (gs : List Given) (g : Given) → args_data s (gs ++ g ∷ []) ≡ args_data s gs ++ record { written = marks s g.written; full = marks s g.full.items } ∷ []
args_push s [] g = refl
args_push s (x ∷ gs) g = ap (λ xs. record { written = marks s x.written; full = marks s x.full.items } ∷ xs) (args_push s gs g)

args_known_push : (s : SetTable) (gs : List Given) (g : Given) → KnownArgs s gs → KnownAll s g.written → KnownAll s g.full.items → KnownArgs s (gs ++ g ∷ [])
args_known_push s [] g h k l = (k, l, tt)
args_known_push s (x ∷ gs) g h k l = (h.0, h.1, args_known_push s gs g h.2 k l)

pub finished_turned : (d : Macros) (m n : Machine) → KnownMachine m → m.opens.items ≡ [] → n.opens.items ≡ [] → n.sets ≡ m.sets → n.out ≡ m.out → n.pend ≡ m.pend → n.units ≡ m.units → Turned d n turn.Finished (LevelEnds d m []) (turn_weight m turn.Level)
finished_turned d m n k e f es eo ep eu = record {
  known = record { pend = rw (es, ep) k.pend; out = rw (es, eo) k.out; opens = rw f tt; units = rw eu k.units };
  call_known = tt;
  all = λ o h. let h1 : o ≡ Done (marks m.sets m.out.items) m.units = rw (es, eo, eu) at h in
      subst (λ fs. Ends most_units d fs [] (marks m.sets m.out.items) m.units o) (sym (ap (frames_of m.sets) e))
      (subst (Ends most_units d [] [] (marks m.sets m.out.items) m.units) (sym h1) (all_done most_units d [] (marks m.sets m.out.items) m.units refl));
  less = omega arith;
}

pub close_turned : (d : Macros) (m n : Machine) (fs : List Open) (f g : Open) (x : Given) → KnownMachine m → m.pend ≡ [] → m.opens.items ≡ fs ++ f ∷ [] → n.opens.items ≡ fs → n.sets ≡ m.sets → n.pend ≡ m.pend → n.out.items ≡ [] → n.units ≡ m.units
    → g.name ≡ f.name → g.def ≡ f.def → g.parts ≡ f.parts → g.last ≡ f.last → g.rest ≡ f.rest → g.out ≡ f.out → g.todo ≡ f.todo → g.written ≡ [] → g.done.items ≡ f.done.items ++ x ∷ [] → x.written ≡ f.written → x.full.items ≡ m.out.items
    → Turned d n (turn.Call g) (LevelEnds d m []) (turn_weight m turn.Level)
close_turned d m n fs f g x k ended opens nop ns np nout nu g1 g2 g3 g4 g5 g6 g7 gw gd xw xf =
    let h = opens_known_parts m.sets fs f (subst (KnownOpens m.sets) opens k.opens) in
    let ko : KnownOpen m.sets f = h.1 in
    let done : args_data m.sets g.done.items ≡ args_data m.sets f.done.items ++ record { written = marks m.sets f.written; full = marks m.sets m.out.items } ∷ [] =
    ap (args_data m.sets) gd ∙ (args_push m.sets f.done.items x ∙ ap (λ w. args_data m.sets f.done.items ++ record { written = marks m.sets w; full = marks m.sets x.full.items } ∷ []) xw
    ∙ ap (λ w. args_data m.sets f.done.items ++ record { written = marks m.sets f.written; full = marks m.sets w } ∷ []) xf) in
    let fr : frame_of m.sets g ≡ moved_on (frame_of m.sets f) [] (frame_of m.sets f).todo ((frame_of m.sets f).done ++ record { written = (frame_of m.sets f).written; full = marks m.sets m.out.items } ∷ []) =
    λ i. record {
      name = mark m.sets (g1 i);
      macro = (g2 i).now;
      names = names_of (g2 i).now.params;
      last = mark m.sets (g4 i);
      rest = marks m.sets (reverse (g5 i));
      out = marks m.sets (g6 i).items;
      written = marks m.sets (gw i);
      todo = tasks_data m.sets (reverse (g7 i).items);
      done = done i;
    } in
    record {
      known = record { pend = rw (ns, np) k.pend; out = rw nout tt; opens = rw (ns, nop) h.0; units = rw nu k.units };
      call_known = rw ns (record {
        name = rw g1 ko.name;
        last = rw g4 ko.last;
        rest = rw g5 ko.rest;
        out = rw g6 ko.out;
        written = rw gw tt;
        todo = rw g7 ko.todo;
        done = rw gd (args_known_push m.sets f.done.items x ko.done (rw xw ko.written) (rw xf k.out));
        params = rw g2 ko.params;
        parts = rw (g3, g2) ko.parts;
      });
      all = λ o e.
          let e1 : CallEnds most_units d (frames_of m.sets fs) (frame_of m.sets g) m.units o = rw (ns, nop, nu) at e in
          let e2 = subst (λ z. CallEnds most_units d (frames_of m.sets fs) z m.units o) fr e1 in
          subst (λ z. Ends most_units d z [] (marks m.sets m.out.items) m.units o) (sym (ap (frames_of m.sets) opens ∙ frames_push m.sets fs f))
          (step_close most_units d (frames_of m.sets fs) (frame_of m.sets f) [] [] (marks m.sets m.out.items) m.units o refl e2);
      less =
          let w : opens_weight m.opens.items ≡ opens_weight fs + open_weight f = ap opens_weight opens ∙ opens_weight_push fs f in
          let v : opens_weight n.opens.items ≡ opens_weight fs = ap opens_weight nop in
          let a : length g.rest ≡ length f.rest = ap length g5 in
          let b : todo_weight g.todo.items ≡ todo_weight f.todo.items = ap (λ z. todo_weight z.items) g7 in
          omega (arith, w, v, a, b, nu);
    }

pub keep_turned : (d : Macros) (m n : Machine) (f g : Open) (x : Todo) (y : Given) → KnownMachine m → KnownOpen m.sets f → KnownAll m.sets x.written → x.wanted ≡ false → n ≡ m
    → g.name ≡ f.name → g.def ≡ f.def → g.parts ≡ f.parts → g.last ≡ f.last → g.rest ≡ f.rest → g.out ≡ f.out → g.written ≡ f.written → g.todo ≡ f.todo → g.done.items ≡ f.done.items ++ y ∷ [] → y.written ≡ x.written → y.full.items ≡ []
    → Turned d n (turn.Call g) (CallUpTo d m f x) (turn_weight m (turn.Call f) + 1)
keep_turned d m n f g x y k ko kx unwanted same g1 g2 g3 g4 g5 g6 g7 g8 gd yw yf =
    let s : SetTable = m.sets in
    let done : args_data s g.done.items ≡ args_data s f.done.items ++ record { written = marks s x.written; full = [] } ∷ [] =
    ap (args_data s) gd ∙ (args_push s f.done.items y ∙ ap (λ w. args_data s f.done.items ++ record { written = marks s w; full = marks s y.full.items } ∷ []) yw
    ∙ ap (λ w. args_data s f.done.items ++ record { written = marks s x.written; full = marks s w } ∷ []) yf) in
    let fr : frame_of s g ≡ moved_on (before_todo (frame_of s f) (task_data s x)) (frame_of s f).written (frame_of s f).todo ((frame_of s f).done ++ record { written = marks s x.written; full = [] } ∷ []) =
    λ i. record {
      name = mark s (g1 i);
      macro = (g2 i).now;
      names = names_of (g2 i).now.params;
      last = mark s (g4 i);
      rest = marks s (reverse (g5 i));
      out = marks s (g6 i).items;
      written = marks s (g7 i);
      todo = tasks_data s (reverse (g8 i).items);
      done = done i;
    } in
    record {
      known = rw same k;
      call_known = rw same (record {
        name = rw g1 ko.name;
        last = rw g4 ko.last;
        rest = rw g5 ko.rest;
        out = rw g6 ko.out;
        written = rw g7 ko.written;
        todo = rw g8 ko.todo;
        done = rw gd (args_known_push s f.done.items y ko.done (rw yw kx) (rw yf tt));
        params = rw g2 ko.params;
        parts = rw (g3, g2) ko.parts;
      });
      all = λ o e.
          let e1 : CallEnds most_units d (frames_of s m.opens.items) (frame_of s g) m.units o = rw same at e in
          let e2 = subst (λ z. CallEnds most_units d (frames_of s m.opens.items) z m.units o) fr e1 in
          step_written most_units d (frames_of s m.opens.items) (before_todo (frame_of s f) (task_data s x)) (frame_of s f).written (task_data s x) (frame_of s f).todo m.units o refl unwanted e2;
      less =
          let a : length g.rest ≡ length f.rest = ap length g5 in
          let b : todo_weight g.todo.items ≡ todo_weight f.todo.items = ap (λ z. todo_weight z.items) g8 in
          rw same (omega (arith, a, b));
    }

pub reverse_twice : (xs : List Pend) → reverse (reverse xs) ≡ xs
reverse_twice [] = refl
reverse_twice (x ∷ xs) = ap reverse (reverse-append (x ∷ []) xs) ∙ (reverse-append (reverse xs) (x ∷ []) ∙ ap (λ ys. x ∷ ys) (reverse_twice xs))

reverse_length : (xs : List Pend) → length (reverse xs) ≡ length xs
reverse_length [] = refl
reverse_length (x ∷ xs) = let e : length (reverse xs ++ x ∷ []) ≡ length (reverse xs) + 1 = length-append (reverse xs) (x ∷ []) in let f : length (reverse xs) ≡ length xs = reverse_length xs in
    let g : length (reverse (x ∷ xs)) ≡ length (reverse xs ++ x ∷ []) = ap length (reverse-append (x ∷ []) xs) in omega (arith, e, f, g)

pub start_turned : (d : Macros) (m n : Machine) (f g : Open) (x : Todo) → KnownMachine m → KnownOpen m.sets f → KnownAll m.sets x.written → KnownAll m.sets x.raw → x.wanted ≡ true
    → n.sets ≡ m.sets → n.opens.items ≡ m.opens.items ++ g ∷ [] → n.pend ≡ reverse x.raw → n.out.items ≡ [] → n.units ≡ m.units
    → g.name ≡ f.name → g.def ≡ f.def → g.parts ≡ f.parts → g.last ≡ f.last → g.rest ≡ f.rest → g.out ≡ f.out → g.written ≡ x.written → g.todo ≡ f.todo → g.done ≡ f.done
    → Turned d n turn.Level (CallUpTo d m f x) (turn_weight m (turn.Call f) + (2 * length x.raw + 2))
start_turned d m n f g x k ko kw kr wanted ns nop np nout nu g1 g2 g3 g4 g5 g6 g7 g8 g9 =
    let s : SetTable = m.sets in
    let fr : frame_of s g ≡ moved_on (before_todo (frame_of s f) (task_data s x)) (marks s x.written) (frame_of s f).todo (frame_of s f).done =
    λ i. record {
      name = mark s (g1 i);
      macro = (g2 i).now;
      names = names_of (g2 i).now.params;
      last = mark s (g4 i);
      rest = marks s (reverse (g5 i));
      out = marks s (g6 i).items;
      written = marks s (g7 i);
      todo = tasks_data s (reverse (g8 i).items);
      done = args_data s (g9 i).items;
    } in
    let kg : KnownOpen s g = record {
      name = rw g1 ko.name;
      last = rw g4 ko.last;
      rest = rw g5 ko.rest;
      out = rw g6 ko.out;
      written = rw g7 kw;
      todo = rw g8 ko.todo;
      done = rw g9 ko.done;
      params = rw g2 ko.params;
      parts = rw (g3, g2) ko.parts;
    } in
    let back : marks s (reverse n.pend) ≡ marks s x.raw = ap (λ ps. marks s (reverse ps)) np ∙ ap (marks s) (reverse_twice x.raw) in
    record {
      known = record { pend = rw (ns, np) (known_reverse s x.raw kr); out = rw nout tt; opens = rw (ns, nop) (opens_known_push s m.opens.items g k.opens kg); units = rw nu k.units };
      call_known = tt;
      all = λ o e.
          let e1 : Ends most_units d (frames_of s (m.opens.items ++ g ∷ [])) (marks s (reverse n.pend)) [] m.units o = rw (ns, nop, nout, nu) at e in
          let e2 = subst (λ z. Ends most_units d z (marks s (reverse n.pend)) [] m.units o) (frames_push s m.opens.items g ∙ ap (λ z. z ∷ frames_of s m.opens.items) fr) e1 in
          let e3 = subst (λ z. Ends most_units d (moved_on (before_todo (frame_of s f) (task_data s x)) (marks s x.written) (frame_of s f).todo (frame_of s f).done ∷ frames_of s m.opens.items) z [] m.units o) back e2 in
          step_start most_units d (frames_of s m.opens.items) (before_todo (frame_of s f) (task_data s x)) (task_data s x) (frame_of s f).todo m.units o refl wanted e3;
      less =
          let w : opens_weight n.opens.items ≡ opens_weight m.opens.items + open_weight g = ap opens_weight nop ∙ opens_weight_push m.opens.items g in
          let a : length g.rest ≡ length f.rest = ap length g5 in
          let b : todo_weight g.todo.items ≡ todo_weight f.todo.items = ap (λ z. todo_weight z.items) g8 in
          let p : length n.pend ≡ length x.raw = ap length np ∙ reverse_length x.raw in
          omega (arith, w, a, b, p, nu);
    }

-- ---- an argument is taken

tasks_pop : (s : SetTable) (todo rest : List Todo) (x : Todo) → todo ≡ rest ++ x ∷ [] → tasks_data s (reverse todo) ≡ task_data s x ∷ tasks_data s (reverse rest)
tasks_pop s todo rest x e = ap (λ ts. tasks_data s (reverse ts)) e ∙ ap (tasks_data s) (reverse-append rest (x ∷ []))

tasks_known_parts : (s : SetTable) (rest : List Todo) (x : Todo) → KnownTasks s (rest ++ x ∷ []) → KnownTasks s rest × KnownAll s x.written × KnownAll s x.raw
tasks_known_parts s [] x h = (tt, h.0, h.1)
tasks_known_parts s (y ∷ rest) x h = let k = tasks_known_parts s rest x h.2 in ((h.0, h.1, k.0), k.1, k.2)

weight_pop : (rest : List Todo) (x : Todo) → todo_weight (rest ++ x ∷ []) ≡ todo_weight rest + (2 * length x.raw + 2)
weight_pop [] x = omega arith
weight_pop (y ∷ ys) x = let e : todo_weight (ys ++ x ∷ []) ≡ todo_weight ys + (2 * length x.raw + 2) = weight_pop ys x in omega (arith, e)

-- a call without its next argument
pub record Popped (s : SetTable) (f g : Open) (x : Todo) : Type 0 where
  pub known : KnownOpen s g
  pub arg_written : KnownAll s x.written
  pub arg_raw : KnownAll s x.raw
  pub frame : frame_of s f ≡ before_todo (frame_of s g) (task_data s x)
  pub weight : open_weight f ≡ open_weight g + (2 * length x.raw + 2)

pub popped : (s : SetTable) (f g : Open) (x : Todo) → KnownOpen s f → f.todo.items ≡ g.todo.items ++ x ∷ [] → g.name ≡ f.name → g.def ≡ f.def → g.parts ≡ f.parts → g.last ≡ f.last → g.rest ≡ f.rest → g.out ≡ f.out → g.written ≡ f.written → g.done ≡ f.done
    → Popped s f g x
popped s f g x ko e g1 g2 g3 g4 g5 g6 g7 g9 =
    let h = tasks_known_parts s g.todo.items x (subst (KnownTasks s) e ko.todo) in
    record {
      known = record { name = rw g1 ko.name; last = rw g4 ko.last; rest = rw g5 ko.rest; out = rw g6 ko.out; written = rw g7 ko.written; todo = h.0; done = rw g9 ko.done; params = rw g2 ko.params; parts = rw (g3, g2) ko.parts };
      arg_written = h.1;
      arg_raw = h.2;
      frame =
          let t = tasks_pop s f.todo.items g.todo.items x e in
          λ i. record {
            name = mark s (sym g1 i);
            macro = (sym g2 i).now;
            names = names_of (sym g2 i).now.params;
            last = mark s (sym g4 i);
            rest = marks s (reverse (sym g5 i));
            out = marks s (sym g6 i).items;
            written = marks s (sym g7 i);
            todo = t i;
            done = args_data s (sym g9 i).items;
          };
      weight =
          let a : length g.rest ≡ length f.rest = ap length g5 in
          let b : todo_weight f.todo.items ≡ todo_weight g.todo.items + (2 * length x.raw + 2) = ap todo_weight e ∙ weight_pop g.todo.items x in
          omega (arith, a, b);
    }

pub popped_turned : (d : Macros) (m n : Machine) (t : Turn) (f g : Open) (x : Todo) (w : ℕ) → Popped m.sets f g x → w ≤ turn_weight m (turn.Call f) → Turned d n t (CallUpTo d m g x) w → Turned d n t (TurnUpTo d m (turn.Call f)) (turn_weight m (turn.Call f))
popped_turned d m n t f g x w p le r = record {
  known = r.known;
  call_known = r.call_known;
  all = λ o e. subst (λ z. CallEnds most_units d (frames_of m.sets m.opens.items) z m.units o) (sym p.frame) (r.all o e);
  less = let l = r.less in omega (arith, l, le);
}

-- ---- a name is looked at

look_named : (d : Macros) (t b : Marked) (us : List Marked) (m : Macro) (names : List (List ℕ)) → macro_at d t ≡ Some m → m.params ≡ Some names → is_punct (codes "(") b.tok ≡ true
    → look d (t ∷ b ∷ us) ≡ look_closed t m names (closed (commas_of names m.variadic) 0 us)
look_named d t b us m names e p h =
    ap (λ o. look_macro t o (b ∷ us)) e ∙ (ap (λ o. look_params t m o (b ∷ us)) p ∙ ap (λ x. if x then look_closed t m names (closed (commas_of names m.variadic) 0 us) else Put t (b ∷ us)) h)

pub unclosed_turned : (d : Macros) (m n : Machine) (tok : Pend) (b : Marked) (def : Macro) (names : List (List ℕ)) → macro_at d (mark m.sets tok) ≡ Some def → def.params ≡ Some names → is_punct (codes "(") b.tok ≡ true
    → None ≡ closed (commas_of names def.variadic) 0 (marks m.sets (reverse m.pend))
    → Turned d n (turn.Refused C2) (LevelEnds d m (mark m.sets tok ∷ b ∷ marks m.sets (reverse m.pend))) (turn_weight m turn.Level + 4)
unclosed_turned d m n tok b def names e p h c = record {
  known = tt;
  call_known = tt;
  all = λ o q. subst (LevelEnds d m (mark m.sets tok ∷ b ∷ marks m.sets (reverse m.pend))) (sym q)
      (step_bad most_units d (frames_of m.sets m.opens.items) (mark m.sets tok ∷ b ∷ marks m.sets (reverse m.pend)) (marks m.sets m.out.items) m.units C2
      (look_named d (mark m.sets tok) b (marks m.sets (reverse m.pend)) def names e p h ∙ ap (look_closed (mark m.sets tok) def names) (sym c)));
  less = omega arith;
}

pub misfit_turned : (d : Macros) (m n : Machine) (tok : Pend) (b : Marked) (def : Macro) (names : List (List ℕ)) (c : Closed) → macro_at d (mark m.sets tok) ≡ Some def → def.params ≡ Some names → is_punct (codes "(") b.tok ≡ true
    → Some c ≡ closed (commas_of names def.variadic) 0 (marks m.sets (reverse m.pend)) → None ≡ fitted names def.variadic c.args
    → Turned d n (turn.Refused C3) (LevelEnds d m (mark m.sets tok ∷ b ∷ marks m.sets (reverse m.pend))) (turn_weight m turn.Level + 4)
misfit_turned d m n tok b def names c e p h s f = record {
  known = tt;
  call_known = tt;
  all = λ o q. subst (LevelEnds d m (mark m.sets tok ∷ b ∷ marks m.sets (reverse m.pend))) (sym q)
      (step_bad most_units d (frames_of m.sets m.opens.items) (mark m.sets tok ∷ b ∷ marks m.sets (reverse m.pend)) (marks m.sets m.out.items) m.units C3
      (look_named d (mark m.sets tok) b (marks m.sets (reverse m.pend)) def names e p h ∙ (ap (look_closed (mark m.sets tok) def names) (sym s) ∙ ap (look_fitted (mark m.sets tok) def names c) (sym f))));
  less = omega arith;
}

pub called_turned : (d : Macros) (m n : Machine) (tok : Pend) (b : Marked) (g : Open) (names : List (List ℕ)) (c : Closed) (raws rows : List (List Pend)) (pend' : List Pend)
    → KnownMachine m → tok.set < set_count m.sets → macro_at d (mark m.sets tok) ≡ Some g.def.now → g.def.now.params ≡ Some names → is_punct (codes "(") b.tok ≡ true
    → Some c ≡ closed (commas_of names g.def.now.variadic) 0 (marks m.sets (reverse m.pend)) → c.last ≡ mark m.sets g.last → c.rest ≡ marks m.sets (reverse g.rest)
    → Some (rows_data m.sets rows) ≡ fitted names g.def.now.variadic c.args
    → map part_data g.parts.now ≡ parts_of g.def.now (Some names) → tasks_data m.sets (reverse g.todo.items) ≡ tasks (map part_data g.parts.now) 0 (rows_data m.sets rows)
    → g.last.set < set_count m.sets → KnownAll m.sets g.rest → KnownTasks m.sets g.todo.items
    → g.name ≡ tok → g.out.items ≡ m.out.items → g.written ≡ [] → g.done.items ≡ [] → n.sets ≡ m.sets → n.opens ≡ m.opens → n.units ≡ m.units → n.pend ≡ [] → n.out.items ≡ []
    → rows_size raws + length g.rest ≡ length m.pend → rows_size rows ≤ rows_size raws + 1 → todo_weight g.todo.items ≤ 2 * rows_size rows
    → Turned d n (turn.Call g) (LevelEnds d m (mark m.sets tok ∷ b ∷ marks m.sets (reverse m.pend))) (turn_weight m turn.Level + 4)
called_turned d m n tok b g names c raws rows pend' k there e p h sc cl cr sf ps ts kl kr kt gn go gw gd ns nop nu np nout z1 z2 z3 =
    let s : SetTable = m.sets in
    let nm : names_of g.def.now.params ≡ names = ap names_of p in
    let todo : tasks_data s (reverse g.todo.items) ≡ tasks (parts_of g.def.now (Some names)) 0 (rows_data s rows) = ts ∙ ap (λ x. tasks x 0 (rows_data s rows)) ps in
    let fr : frame_of s g ≡ opened (mark s tok) g.def.now names (rows_data s rows) (mark s g.last) (marks s (reverse g.rest)) (marks s m.out.items) =
    λ i. record { name = mark s (gn i); macro = g.def.now; names = nm i; last = mark s g.last; rest = marks s (reverse g.rest); out = marks s (go i); written = marks s (gw i); todo = todo i; done = args_data s (gd i) } in
    let l : look d (mark s tok ∷ b ∷ marks s (reverse m.pend)) ≡ Call (mark s tok) g.def.now names (rows_data s rows) (mark s g.last) (marks s (reverse g.rest)) =
    look_named d (mark s tok) b (marks s (reverse m.pend)) g.def.now names e p h ∙ (ap (look_closed (mark s tok) g.def.now names) (sym sc) ∙ (ap (look_fitted (mark s tok) g.def.now names c) (sym sf)
    ∙ (ap (λ x. Call (mark s tok) g.def.now names (rows_data s rows) x c.rest) cl ∙ ap (λ x. Call (mark s tok) g.def.now names (rows_data s rows) (mark s g.last) x) cr))) in
    record {
      known = record { pend = rw np tt; out = rw nout tt; opens = rw (ns, nop) k.opens; units = rw nu k.units };
      call_known = rw ns (record {
        name = rw gn there;
        last = kl;
        rest = kr;
        out = rw go k.out;
        written = rw gw tt;
        todo = kt;
        done = rw gd tt;
        params = p ∙ ap Some (sym nm);
        parts = ps ∙ ap (λ x. parts_of g.def.now (Some x)) (sym nm);
      });
      all = λ o q.
          let q1 : CallEnds most_units d (frames_of s m.opens.items) (frame_of s g) m.units o = rw (ns, nop, nu) at q in
          let q2 = subst (λ z. CallEnds most_units d (frames_of s m.opens.items) z m.units o) fr q1 in
          step_open most_units d (frames_of s m.opens.items) (mark s tok ∷ b ∷ marks s (reverse m.pend)) (marks s (reverse g.rest)) (marks s m.out.items) (mark s tok) (mark s g.last) g.def.now names (rows_data s rows) m.units o l q2;
      less = rw (nop, nu) (omega (arith, z1, z2, z3));
    }

pub look_alone : (d : Macros) (t : Marked) (m : Macro) (names : List (List ℕ)) → macro_at d t ≡ Some m → m.params ≡ Some names → look d (t ∷ []) ≡ Put t []
look_alone d t m names e p = ap (λ o. look_macro t o []) e ∙ ap (λ o. look_params t m o []) p

pub look_other : (d : Macros) (t b : Marked) (us : List Marked) (m : Macro) (names : List (List ℕ)) → macro_at d t ≡ Some m → m.params ≡ Some names → is_punct (codes "(") b.tok ≡ false → look d (t ∷ b ∷ us) ≡ Put t (b ∷ us)
look_other d t b us m names e p h =
    ap (λ o. look_macro t o (b ∷ us)) e ∙ (ap (λ o. look_params t m o (b ∷ us)) p ∙ ap (λ x. if x then look_closed t m names (closed (commas_of names m.variadic) 0 us) else Put t (b ∷ us)) h)

pub look_free : (d : Macros) (t : Marked) (us : List Marked) → macro_at d t ≡ None → look d (t ∷ us) ≡ Put t us
look_free d t us e = ap (λ o. look_macro t o us) e

pub look_object : (d : Macros) (t : Marked) (us : List Marked) (m : Macro) → macro_at d t ≡ Some m → m.params ≡ None → look d (t ∷ us) ≡ Object t m us
look_object d t us m e p = ap (λ o. look_macro t o us) e ∙ ap (λ o. look_params t m o us) p

-- ---- a token was taken off the pending ones

pub pend_pop : (s : SetTable) (ps rest : List Pend) (p : Pend) → ps ≡ rest ++ p ∷ [] → marks s (reverse ps) ≡ mark s p ∷ marks s (reverse rest)
pend_pop s ps rest p e = ap (λ xs. marks s (reverse xs)) e ∙ ap (marks s) (reverse-append rest (p ∷ []))

-- the machine with other pending tokens
abbrev pub same_but_pend : Machine → Machine → Type 0
same_but_pend m k = (k.sets ≡ m.sets) × (k.opens ≡ m.opens) × (k.out ≡ m.out) × (k.units ≡ m.units)

pub put_again : (d : Macros) (m k n : Machine) (t : Turn) (tok : Pend) → same_but_pend m k → k.pend ≡ m.pend
    → Turned d n t (LevelEnds d k (mark k.sets tok ∷ marks k.sets (reverse k.pend))) (turn_weight k turn.Level + 2)
    → Turned d n t (LevelEnds d m (mark m.sets tok ∷ marks m.sets (reverse m.pend))) (turn_weight m turn.Level + 2)
put_again d m k n t tok (es, eo, eout, eu) ep r = record {
  known = r.known;
  call_known = r.call_known;
  all = λ o q. let e = r.all o q in rw (es, eo, eout, eu, ep) at e;
  less = let l = r.less in rw (eo, eu, ep) at l;
}

pub open_again : (d : Macros) (m k n : Machine) (t : Turn) (tok next : Pend) → same_but_pend m k → m.pend ≡ k.pend ++ next ∷ []
    → Turned d n t (LevelEnds d k (mark k.sets tok ∷ mark k.sets next ∷ marks k.sets (reverse k.pend))) (turn_weight k turn.Level + 4)
    → Turned d n t (LevelEnds d m (mark m.sets tok ∷ marks m.sets (reverse m.pend))) (turn_weight m turn.Level + 2)
open_again d m k n t tok next (es, eo, eout, eu) ep r = record {
  known = r.known;
  call_known = r.call_known;
  all = λ o q.
      let e = r.all o q in
      let e1 : LevelEnds d m (mark m.sets tok ∷ mark m.sets next ∷ marks m.sets (reverse k.pend)) o = rw (es, eo, eout, eu) at e in
      subst (λ x. LevelEnds d m (mark m.sets tok ∷ x) o) (sym (pend_pop m.sets m.pend k.pend next ep)) e1;
  less =
      let l = r.less in
      let w : opens_weight k.opens.items ≡ opens_weight m.opens.items = ap (λ v. opens_weight v.items) eo in
      let p : length m.pend ≡ length k.pend + 1 = ap length ep ∙ length-append k.pend (next ∷ []) in
      omega (arith, l, w, p, eu);
}

pub level_turned : (d : Macros) (m k n : Machine) (t : Turn) (tok : Pend) → same_but_pend m k → m.pend ≡ k.pend ++ tok ∷ []
    → Turned d n t (LevelEnds d k (mark k.sets tok ∷ marks k.sets (reverse k.pend))) (turn_weight k turn.Level + 2)
    → Turned d n t (TurnUpTo d m turn.Level) (turn_weight m turn.Level)
level_turned d m k n t tok (es, eo, eout, eu) ep r = record {
  known = r.known;
  call_known = r.call_known;
  all = λ o q.
      let e = r.all o q in
      let e1 : LevelEnds d m (mark m.sets tok ∷ marks m.sets (reverse k.pend)) o = rw (es, eo, eout, eu) at e in
      subst (λ x. LevelEnds d m x o) (sym (pend_pop m.sets m.pend k.pend tok ep)) e1;
  less =
      let l = r.less in
      let w : opens_weight k.opens.items ≡ opens_weight m.opens.items = ap (λ v. opens_weight v.items) eo in
      let p : length m.pend ≡ length k.pend + 1 = ap length ep ∙ length-append k.pend (tok ∷ []) in
      omega (arith, l, w, p, eu);
}

pub ended_turned : (d : Macros) (m k n : Machine) (t : Turn) → same_but_pend m k → m.pend ≡ [] → k.pend ≡ []
    → Turned d n t (LevelEnds d k []) (turn_weight k turn.Level) → Turned d n t (TurnUpTo d m turn.Level) (turn_weight m turn.Level)
ended_turned d m k n t (es, eo, eout, eu) em ek r = record {
  known = r.known;
  call_known = r.call_known;
  all = λ o q. let e = r.all o q in let e1 : LevelEnds d m [] o = rw (es, eo, eout, eu) at e in subst (λ x. LevelEnds d m x o) (sym (ap (λ ps. marks m.sets (reverse ps)) em)) e1;
  less = let l = r.less in
      let w : opens_weight k.opens.items ≡ opens_weight m.opens.items = ap (λ v. opens_weight v.items) eo in
      let a : length k.pend ≡ 0 = ap length ek in let b : length m.pend ≡ 0 = ap length em in omega (arith, l, w, a, b, eu);
}

-- ---- the last argument of a call was taken before

pub same_known : (s : SetTable) (f g : Open) → KnownOpen s f → g.todo.items ≡ f.todo.items → g.name ≡ f.name → g.def ≡ f.def → g.parts ≡ f.parts → g.last ≡ f.last → g.rest ≡ f.rest → g.out ≡ f.out → g.written ≡ f.written → g.done ≡ f.done
    → KnownOpen s g
same_known s f g ko e g1 g2 g3 g4 g5 g6 g7 g9 = record { name = rw g1 ko.name; last = rw g4 ko.last; rest = rw g5 ko.rest; out = rw g6 ko.out; written = rw g7 ko.written; todo = rw e ko.todo; done = rw g9 ko.done; params = rw g2 ko.params; parts = rw (g3, g2) ko.parts }

pub same_turned : (d : Macros) (m n : Machine) (t : Turn) (f g : Open) → g.todo.items ≡ f.todo.items → g.name ≡ f.name → g.def ≡ f.def → g.last ≡ f.last → g.rest ≡ f.rest → g.out ≡ f.out → g.written ≡ f.written → g.done ≡ f.done
    → Turned d n t (TurnUpTo d m (turn.Call g)) (turn_weight m (turn.Call g)) → Turned d n t (TurnUpTo d m (turn.Call f)) (turn_weight m (turn.Call f))
same_turned d m n t f g e g1 g2 g4 g5 g6 g7 g9 r =
    let s : SetTable = m.sets in
    let fr : frame_of s g ≡ frame_of s f =
    λ i. record {
      name = mark s (g1 i);
      macro = (g2 i).now;
      names = names_of (g2 i).now.params;
      last = mark s (g4 i);
      rest = marks s (reverse (g5 i));
      out = marks s (g6 i).items;
      written = marks s (g7 i);
      todo = tasks_data s (reverse (e i));
      done = args_data s (g9 i).items;
    } in
    record {
      known = r.known;
      call_known = r.call_known;
      all = λ o q. subst (λ z. CallEnds most_units d (frames_of s m.opens.items) z m.units o) fr (r.all o q);
      less =
          let l = r.less in
          let a : length g.rest ≡ length f.rest = ap length g5 in
          let b : todo_weight g.todo.items ≡ todo_weight f.todo.items = ap todo_weight e in
          omega (arith, l, a, b);
    }
