-- The same expansion from other units, within another limit.
use Rattle.std.proofs.Common.{◌≡◌, ◌⊎◌, ℕ, ◌+◌, ◌<◌, ◌≤◌, true, false, List, [], ◌∷◌, ◌++◌, Option, Some, None, length, refl, sym, ap, subst, ◌∙◌, arith, inl, inr}
use Rattle.std.proofs.lemmas.Bool.{cases_lt}
use Rattle.edt_base.specs.declared.fault.Rule.TheVariants.{C7}
use Rattle.c_macro.specs.MacroData.{Macro}
use Rattle.c_macro.specs.Marked.{Marked}
use Rattle.c_macro.specs.Bodies.{Task, Arg, tasks, parts_of, object_text, call_text}
use Rattle.c_macro.specs.Expansion.{Macros, Put, Object, Call, look, Outcome, Done, Refused, ArgsOutcome, Ready, Spoiled, before, with_arg, Expands, ends, puts, bad, object, call, spoiled, ArgsExpand, none, as_written, expanded, refused, Replaced, unjoined, above, within}
use Rattle.c_macro.specs.Laws.{MovedTo, ExpandsElsewhere}

module _ (l k : ℕ) (d : Macros) where
  -- what costs so much elsewhere comes to the same, or to the limit
  record Moved (P : ℕ → ℕ → Type 0) (Q : ℕ → Type 0) (u v : ℕ) : Type 0 where
    cost : ℕ
    up : v ≡ u + cost
    here : (w : ℕ) → w + cost ≤ k → P w (w + cost)
    far : (w : ℕ) → w ≤ k → k < w + cost → Q w

  abbrev MovedOut : List Marked → ℕ → Outcome → Type 0
  MovedOut ts u (Done out v) = Moved (λ w x. Expands k d ts w (Done out x)) (λ w. Expands k d ts w (Refused C7)) u v
  MovedOut ts u (Refused r) = Unit {0}

  abbrev MovedArgs : List Task → ℕ → ArgsOutcome → Type 0
  MovedArgs xs u (Ready args v) = Moved (λ w x. ArgsExpand k d xs w (Ready args x)) (λ w. ArgsExpand k d xs w (Spoiled C7)) u v
  MovedArgs xs u (Spoiled r) = Unit {0}

  abbrev MovedText : Option (List Marked) → List Marked → ℕ → Outcome → Type 0
  MovedText text rest u (Done out v) = Moved (λ w x. Replaced k d text rest w (Done out x)) (λ w. Replaced k d text rest w (Refused C7)) u v
  MovedText text rest u (Refused r) = Unit {0}

  move_put : (ts rest : List Marked) (u : ℕ) (t : Marked) (o : Outcome) → look d ts ≡ Put t rest → MovedOut rest u o → MovedOut ts u (before (t ∷ []) o)
  move_put ts rest u t (Done out v) e m = record {
    cost = m.cost;
    up = m.up;
    here = λ w h. puts ts w t rest (Done out (w + m.cost)) e (m.here w h);
    far = λ w h f. puts ts w t rest (Refused C7) e (m.far w h f);
  }
  move_put ts rest u t (Refused r) e m = tt

  move_object : (ts rest : List Marked) (u : ℕ) (t : Marked) (m : Macro) (o : Outcome) → look d ts ≡ Object t m rest → MovedText (object_text t m) rest u o → MovedOut ts u o
  move_object ts rest u t mac (Done out v) e m = record {
    cost = m.cost;
    up = m.up;
    here = λ w h. object ts w t mac rest (Done out (w + m.cost)) e (m.here w h);
    far = λ w h f. object ts w t mac rest (Refused C7) e (m.far w h f);
  }
  move_object ts rest u t mac (Refused r) e m = tt

  move_call : (ts rest : List Marked) (u v : ℕ) (t last : Marked) (m : Macro) (names : List (List ℕ)) (raws : List (List Marked)) (args : List Arg) (o : Outcome) → look d ts ≡ Call t m names raws last rest
      → MovedArgs (tasks (parts_of m (Some names)) 0 raws) u (Ready args v) → MovedText (call_text t m names last args) rest v o → MovedOut ts u o
  move_call ts rest u v t last mac names raws args (Done out x) e a m = record {
    cost = a.cost + m.cost;
    up = let p = a.up in let q = m.up in omega (arith, p, q);
    here = λ w h.
        let z : (w + a.cost) + m.cost ≡ w + (a.cost + m.cost) = omega arith in
        subst (λ y. Expands k d ts w (Done out y)) z (call ts w t mac names raws last rest args (w + a.cost) (Done out (w + a.cost + m.cost)) e (a.here w (omega (arith, h))) (m.here (w + a.cost) (omega (arith, h))));
    far = λ w h f. elim (cases_lt k (w + a.cost)) [
      | inl g ↦ spoiled ts w t mac names raws last rest C7 e (a.far w h g)
      | inr g ↦ call ts w t mac names raws last rest args (w + a.cost) (Refused C7) e (a.here w g) (m.far (w + a.cost) g (omega (arith, f)))
    ];
  }
  move_call ts rest u v t last mac names raws args (Refused r) e a m = tt

  move_written : (x : Task) (xs : List Task) (u : ℕ) (o : ArgsOutcome) → x.wanted ≡ false → MovedArgs xs u o → MovedArgs (x ∷ xs) u (with_arg (record { written = x.written; full = [] }) o)
  move_written x xs u (Ready args v) e m = record {
    cost = m.cost;
    up = m.up;
    here = λ w h. as_written x xs w (Ready args (w + m.cost)) e (m.here w h);
    far = λ w h f. as_written x xs w (Spoiled C7) e (m.far w h f);
  }
  move_written x xs u (Spoiled r) e m = tt

  move_expanded : (x : Task) (xs : List Task) (u : ℕ) (full : List Marked) (v : ℕ) (o : ArgsOutcome) → x.wanted ≡ true → MovedOut x.raw u (Done full v) → MovedArgs xs v o → MovedArgs (x ∷ xs) u (with_arg (record { written = x.written; full = full }) o)
  move_expanded x xs u full v (Ready args y) e a m = record {
    cost = a.cost + m.cost;
    up = let p = a.up in let q = m.up in omega (arith, p, q);
    here = λ w h.
        let z : (w + a.cost) + m.cost ≡ w + (a.cost + m.cost) = omega arith in
        subst (λ n. ArgsExpand k d (x ∷ xs) w (Ready (record { written = x.written; full = full } ∷ args) n)) z
        (expanded x xs w full (w + a.cost) (Ready args (w + a.cost + m.cost)) e (a.here w (omega (arith, h))) (m.here (w + a.cost) (omega (arith, h))));
    far = λ w h f. elim (cases_lt k (w + a.cost)) [
      | inl g ↦ refused x xs w C7 e (a.far w h g)
      | inr g ↦ expanded x xs w full (w + a.cost) (Spoiled C7) e (a.here w g) (m.far (w + a.cost) g (omega (arith, f)))
    ];
  }
  move_expanded x xs u full v (Spoiled r) e a m = tt

  move_within : (new rest : List Marked) (u : ℕ) (o : Outcome) → MovedOut (new ++ rest) (u + 1 + length new) o → MovedText (Some new) rest u o
  move_within new rest u (Done out v) m = record {
    cost = 1 + length new + m.cost;
    up = let p = m.up in omega (arith, p);
    here = λ w h.
        let z : w + 1 + length new + m.cost ≡ w + (1 + length new + m.cost) = omega arith in
        subst (λ y. Replaced k d (Some new) rest w (Done out y)) z (within new rest w (Done out (w + 1 + length new + m.cost)) (omega (arith, h)) (m.here (w + 1 + length new) (omega (arith, h))));
    far = λ w h f. elim (cases_lt k (w + 1 + length new)) [
      | inl g ↦ above new rest w g
      | inr g ↦ within new rest w (Refused C7) g (m.far (w + 1 + length new) g (omega (arith, f)))
    ];
  }
  move_within new rest u (Refused r) m = tt

  mutual
    moved : (ts : List Marked) (u : ℕ) (o : Outcome) → Expands l d ts u o → MovedOut ts u o
    moved ts u _ (ends _ _ e) = record {
      cost = 0;
      up = omega arith;
      here = λ w h. let z : w ≡ w + 0 = omega arith in subst (λ y. Expands k d ts w (Done [] y)) z (ends ts w e);
      far = λ w h f. absurd (omega (arith, h, f));
    }
    moved ts u _ (puts _ _ t rest o e h) = move_put ts rest u t o e (moved rest u o h)
    moved ts u _ (bad _ _ r e) = tt
    moved ts u o (object _ _ t m rest _ e h) = move_object ts rest u t m o e (moved_text (object_text t m) rest u o h)
    moved ts u o (call _ _ t m names raws last rest args v _ e a h) =
        move_call ts rest u v t last m names raws args o e (moved_args (tasks (parts_of m (Some names)) 0 raws) u (Ready args v) a) (moved_text (call_text t m names last args) rest v o h)
    moved ts u _ (spoiled _ _ t m names raws last rest r e a) = tt

    moved_args : (xs : List Task) (u : ℕ) (o : ArgsOutcome) → ArgsExpand l d xs u o → MovedArgs xs u o
    moved_args _ u _ (none _) = record {
      cost = 0;
      up = omega arith;
      here = λ w h. let z : w ≡ w + 0 = omega arith in subst (λ y. ArgsExpand k d [] w (Ready [] y)) z (none w);
      far = λ w h f. absurd (omega (arith, h, f));
    }
    moved_args _ u _ (as_written x xs _ o e h) = move_written x xs u o e (moved_args xs u o h)
    moved_args _ u _ (expanded x xs _ full v o e a h) = move_expanded x xs u full v o e (moved x.raw u (Done full v) a) (moved_args xs v o h)
    moved_args _ u _ (refused x xs _ r e h) = tt

    moved_text : (text : Option (List Marked)) (rest : List Marked) (u : ℕ) (o : Outcome) → Replaced l d text rest u o → MovedText text rest u o
    moved_text _ _ u _ (unjoined rest _) = tt
    moved_text _ _ u _ (above new rest _ f) = tt
    moved_text _ _ u _ (within new rest _ o f h) = move_within new rest u o (moved (new ++ rest) (u + 1 + length new) o h)

pub expands_elsewhere : ExpandsElsewhere
expands_elsewhere l k d ts u out v h = let m = moved l k d ts u (Done out v) h in record { cost = m.cost; up = m.up; here = m.here; far = m.far }
