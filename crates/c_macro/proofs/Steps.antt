-- Each step of a worklist: what all comes to after it, all came to before it.
use Rattle.std.proofs.Common.{◌≡◌, ℕ, ◌+◌, ◌<◌, ◌≤◌, true, false, List, [], ◌∷◌, ◌++◌, Some, None, length, refl, sym, ap, subst, ◌∙◌, append-nil, append_assoc}
use Rattle.edt_base.specs.declared.fault.Rule.{Rule}
use Rattle.edt_base.specs.declared.fault.Rule.TheVariants.{C4, C7}
use Rattle.c_macro.specs.MacroData.{Macro}
use Rattle.c_macro.specs.Marked.{Marked}
use Rattle.c_macro.specs.Bodies.{Task, Arg, tasks, parts_of, object_text}
use Rattle.c_macro.specs.Expansion.{Macros, End, Put, Object, Call, Bad, look, Outcome, Done, Refused, ArgsOutcome, Ready, Spoiled, before, with_arg, Expands, ends, puts, bad, object, call, spoiled, ArgsExpand, none, as_written, expanded, refused, Replaced, unjoined, above, within}
use Rattle.c_macro.specs.Turns.{Frame, frame_text, ArgsUpTo, UpTo, Ends, CallEnds}

before_twice : (xs ys : List Marked) (o : Outcome) → before xs (before ys o) ≡ before (xs ++ ys) o
before_twice xs ys (Done out u) = ap (λ zs. Done zs u) (sym (append_assoc xs ys out))
before_twice xs ys (Refused r) = refl

before_none : (o : Outcome) → before [] o ≡ o
before_none (Done out u) = refl
before_none (Refused r) = refl

-- a call just opened
abbrev pub opened : Marked → Macro → List (List ℕ) → List (List Marked) → Marked → List Marked → List Marked → Frame
opened t m names raws last rest out = record {
  name = t;
  macro = m;
  names = names;
  last = last;
  rest = rest;
  out = out;
  written = [];
  todo = tasks (parts_of m (Some names)) 0 raws;
  done = [];
}

-- the arguments left to do and those done are these
abbrev pub moved_on : Frame → List Marked → List Task → List Arg → Frame
moved_on f written todo done = record {
  name = f.name;
  macro = f.macro;
  names = f.names;
  last = f.last;
  rest = f.rest;
  out = f.out;
  written = written;
  todo = todo;
  done = done;
}

module _ (limit : ℕ) (d : Macros) where
  up_refused : (fs : List Frame) (r : Rule) → UpTo limit d fs (Refused r) (Refused r)
  up_refused [] r = refl
  up_refused (f ∷ fs) r = refl

  refused_up : (fs : List Frame) (r : Rule) (o : Outcome) → o ≡ Refused r → UpTo limit d fs (Refused r) o
  refused_up [] r o e = e
  refused_up (f ∷ fs) r o e = e

  ends_refused : (fs : List Frame) (ts out : List Marked) (u : ℕ) (r : Rule) → Expands limit d ts u (Refused r) → Ends limit d fs ts out u (Refused r)
  ends_refused fs ts out u r h = record { mid = Refused r; here = h; up = up_refused fs r }

  pub starts : (ts : List Marked) (u : ℕ) (o : Outcome) → Ends limit d [] ts [] u o → Expands limit d ts u o
  starts ts u o e = subst (Expands limit d ts u) (sym (e.up ∙ before_none e.mid)) e.here

  pub all_done : (ts out : List Marked) (u : ℕ) → look d ts ≡ End → Ends limit d [] ts out u (Done out u)
  all_done ts out u l = record { mid = Done [] u; here = ends ts u l; up = ap (λ xs. Done xs u) (sym (append-nil out)) }

  pub step_put : (fs : List Frame) (ts rest out : List Marked) (t : Marked) (u : ℕ) (o : Outcome) → look d ts ≡ Put t rest
      → Ends limit d fs rest (out ++ t ∷ []) u o → Ends limit d fs ts out u o
  step_put fs ts rest out t u o l e = record {
    mid = before (t ∷ []) e.mid;
    here = puts ts u t rest e.mid l e.here;
    up = subst (λ q. UpTo limit d fs q o) (sym (before_twice out (t ∷ []) e.mid)) e.up;
  }

  pub step_object : (fs : List Frame) (ts rest out new : List Marked) (t : Marked) (m : Macro) (u : ℕ) (o : Outcome) → look d ts ≡ Object t m rest → object_text t m ≡ Some new
      → u + 1 + length new ≤ limit → Ends limit d fs (new ++ rest) out (u + 1 + length new) o → Ends limit d fs ts out u o
  step_object fs ts rest out new t m u o l text near e = record {
    mid = e.mid;
    here = object ts u t m rest e.mid l (subst (λ x. Replaced limit d x rest u e.mid) (sym text) (within new rest u e.mid near e.here));
    up = e.up;
  }

  pub object_unjoined : (fs : List Frame) (ts rest out : List Marked) (t : Marked) (m : Macro) (u : ℕ) → look d ts ≡ Object t m rest → object_text t m ≡ None → Ends limit d fs ts out u (Refused C4)
  object_unjoined fs ts rest out t m u l text =
      ends_refused fs ts out u C4 (object ts u t m rest (Refused C4) l (subst (λ x. Replaced limit d x rest u (Refused C4)) (sym text) (unjoined rest u)))

  pub object_above : (fs : List Frame) (ts rest out new : List Marked) (t : Marked) (m : Macro) (u : ℕ) → look d ts ≡ Object t m rest → object_text t m ≡ Some new
      → limit < u + 1 + length new → Ends limit d fs ts out u (Refused C7)
  object_above fs ts rest out new t m u l text far =
      ends_refused fs ts out u C7 (object ts u t m rest (Refused C7) l (subst (λ x. Replaced limit d x rest u (Refused C7)) (sym text) (above new rest u far)))

  pub step_bad : (fs : List Frame) (ts out : List Marked) (u : ℕ) (r : Rule) → look d ts ≡ Bad r → Ends limit d fs ts out u (Refused r)
  step_bad fs ts out u r l = ends_refused fs ts out u r (bad ts u r l)

  pub step_open : (fs : List Frame) (ts rest out : List Marked) (t last : Marked) (m : Macro) (names : List (List ℕ)) (raws : List (List Marked)) (u : ℕ) (o : Outcome)
      → look d ts ≡ Call t m names raws last rest → CallEnds limit d fs (opened t m names raws last rest out) u o → Ends limit d fs ts out u o
  step_open fs ts rest out t last m names raws u o l e = by e.mid e.here e.up
    where
      by : (a : ArgsOutcome) → ArgsExpand limit d (tasks (parts_of m (Some names)) 0 raws) u a → ArgsUpTo limit d (opened t m names raws last rest out) [] (UpTo limit d fs) a o
          → Ends limit d fs ts out u o
      by (Ready args v) h up = record { mid = up.0; here = call ts u t m names raws last rest args v up.0 l h up.1; up = up.2 }
      by (Spoiled r) h up = record { mid = Refused r; here = spoiled ts u t m names raws last rest r l h; up = refused_up fs r o up }

  more_done : (fs : List Frame) (f : Frame) (x : Arg) (done : List Arg) (a : ArgsOutcome) (o : Outcome) → ArgsUpTo limit d f (done ++ x ∷ []) (UpTo limit d fs) a o → ArgsUpTo limit d f done (UpTo limit d fs) (with_arg x a) o
  more_done fs f x done (Ready args v) o (q, h, up) = (q, subst (λ xs. Replaced limit d (frame_text f xs) f.rest v q) (append_assoc done (x ∷ []) args) h, up)
  more_done fs f x done (Spoiled r) o h = h

  pub step_written : (fs : List Frame) (f : Frame) (w : List Marked) (x : Task) (xs : List Task) (u : ℕ) (o : Outcome) → f.todo ≡ x ∷ xs → x.wanted ≡ false
      → CallEnds limit d fs (moved_on f w xs (f.done ++ record { written = x.written; full = [] } ∷ [])) u o → CallEnds limit d fs f u o
  step_written fs f w x xs u o is unwanted e = record {
    mid = with_arg (record { written = x.written; full = [] }) e.mid;
    here = subst (λ t. ArgsExpand limit d t u (with_arg (record { written = x.written; full = [] }) e.mid)) (sym is) (as_written x xs u e.mid unwanted e.here);
    up = more_done fs f (record { written = x.written; full = [] }) f.done e.mid o e.up;
  }

  pub step_start : (fs : List Frame) (f : Frame) (x : Task) (xs : List Task) (u : ℕ) (o : Outcome) → f.todo ≡ x ∷ xs → x.wanted ≡ true
      → Ends limit d (moved_on f x.written xs f.done ∷ fs) x.raw [] u o → CallEnds limit d fs f u o
  step_start fs f x xs u o is wanted e = by e.mid e.here (subst (λ q. UpTo limit d (moved_on f x.written xs f.done ∷ fs) q o) (before_none e.mid) e.up)
    where
      by : (q : Outcome) → Expands limit d x.raw u q → UpTo limit d (moved_on f x.written xs f.done ∷ fs) q o → CallEnds limit d fs f u o
      by (Done full v) h (a, args, up) = record {
        mid = with_arg (record { written = x.written; full = full }) a;
        here = subst (λ t. ArgsExpand limit d t u (with_arg (record { written = x.written; full = full }) a)) (sym is) (expanded x xs u full v a wanted h args);
        up = more_done fs f (record { written = x.written; full = full }) f.done a o up;
      }
      by (Refused r) h up = record {
        mid = Spoiled r;
        here = subst (λ t. ArgsExpand limit d t u (Spoiled r)) (sym is) (refused x xs u r wanted h);
        up = up;
      }

  pub step_close : (fs : List Frame) (f : Frame) (w ts out : List Marked) (u : ℕ) (o : Outcome) → look d ts ≡ End
      → CallEnds limit d fs (moved_on f w f.todo (f.done ++ record { written = f.written; full = out } ∷ [])) u o → Ends limit d (f ∷ fs) ts out u o
  step_close fs f w ts out u o l e = record {
    mid = Done [] u;
    here = ends ts u l;
    up = (e.mid, e.here, subst (λ xs. ArgsUpTo limit d f (f.done ++ record { written = f.written; full = xs } ∷ []) (UpTo limit d fs) e.mid o) (sym (append-nil out)) e.up);
  }

  pub step_text : (fs : List Frame) (f : Frame) (new : List Marked) (u : ℕ) (o : Outcome) → f.todo ≡ [] → frame_text f f.done ≡ Some new → u + 1 + length new ≤ limit
      → Ends limit d fs (new ++ f.rest) f.out (u + 1 + length new) o → CallEnds limit d fs f u o
  step_text fs f new u o is text near e = record {
    mid = Ready [] u;
    here = subst (λ t. ArgsExpand limit d t u (Ready [] u)) (sym is) (none u);
    up = (e.mid, subst (λ xs. Replaced limit d (frame_text f xs) f.rest u e.mid) (sym (append-nil f.done)) (subst (λ x. Replaced limit d x f.rest u e.mid) (sym text) (within new f.rest u e.mid near e.here)), e.up);
  }

  call_refused : (fs : List Frame) (f : Frame) (u : ℕ) (r : Rule) → f.todo ≡ [] → Replaced limit d (frame_text f f.done) f.rest u (Refused r) → CallEnds limit d fs f u (Refused r)
  call_refused fs f u r is h = record {
    mid = Ready [] u;
    here = subst (λ t. ArgsExpand limit d t u (Ready [] u)) (sym is) (none u);
    up = (Refused r, subst (λ xs. Replaced limit d (frame_text f xs) f.rest u (Refused r)) (sym (append-nil f.done)) h, up_refused fs r);
  }

  pub text_unjoined : (fs : List Frame) (f : Frame) (u : ℕ) → f.todo ≡ [] → frame_text f f.done ≡ None → CallEnds limit d fs f u (Refused C4)
  text_unjoined fs f u is text = call_refused fs f u C4 is (subst (λ x. Replaced limit d x f.rest u (Refused C4)) (sym text) (unjoined f.rest u))

  pub text_above : (fs : List Frame) (f : Frame) (new : List Marked) (u : ℕ) → f.todo ≡ [] → frame_text f f.done ≡ Some new → limit < u + 1 + length new → CallEnds limit d fs f u (Refused C7)
  text_above fs f new u is text far = call_refused fs f u C7 is (subst (λ x. Replaced limit d x f.rest u (Refused C7)) (sym text) (above new f.rest u far))
