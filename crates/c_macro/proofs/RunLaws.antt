-- An expansion from its first token to its end.
use Rattle.std.proofs.Common.{◌≡◌, ℕ, List, [], ◌∷◌, Option, Some, None, map, reverse, refl, sym, ap, subst, ◌∙◌, arith}
use Rattle.edt_base.specs.declared.fault.Rule.{Rule}
use Rattle.c_tokens.specs.declared.tok.Tok.{Tok}
use Rattle.c_macro.specs.declared.pend.Pend.{Pend}
use Rattle.c_macro.specs.declared.turn.Open.{Open}
use Rattle.c_macro.specs.declared.turn.Machine.{Machine}
use Rattle.c_macro.specs.declared.turn.Turn.TheVariants as turn
use Rattle.c_macro.specs.Marked.{Marked, unbarred, toks_of}
use Rattle.c_macro.specs.Expansion.{Macros, Outcome, Done, Refused, expands, most_units}
use Rattle.c_macro.specs.Turns.{Ends}
use Rattle.c_macro.specs.SetData.{SetTable}
use Rattle.c_macro.specs.Pending.{mark, marks, KnownAll}
use Rattle.c_macro.specs.Worklist.{KnownMachine, TurnUpTo, Turned, turn_of, pend_of, Running}
use Rattle.c_macro.proofs.PlaceLaws.{known_reverse}
use Rattle.c_macro.proofs.TurnLaws.{reverse_twice}
use Rattle.c_macro.proofs.Steps.{starts}

abbrev first_sets : SetTable
first_sets = record { numbers = []; nodes = [] }

pending_known : (ts : List Tok) → KnownAll first_sets (map pend_of ts)
pending_known [] = tt
pending_known (t ∷ ts) = (omega arith, pending_known ts)

pending_marks : (ts : List Tok) → marks first_sets (map pend_of ts) ≡ unbarred ts
pending_marks [] = refl
pending_marks (t ∷ ts) = ap (λ xs. mark first_sets (pend_of t) ∷ xs) (pending_marks ts)

pub begins_known : (m : Machine) (ts : List Tok) → m.sets ≡ first_sets → m.opens.items ≡ [] → m.out.items ≡ [] → m.units ≡ 0 → m.pend ≡ reverse (map pend_of ts) → KnownMachine m
begins_known m ts es eo eout eu ep = record {
  pend = rw (es, ep) (known_reverse first_sets (map pend_of ts) (pending_known ts));
  out = rw eout tt;
  opens = rw eo tt;
  units = rw eu (omega arith);
}

pub begins_all : (d : Macros) (m : Machine) (ts : List Tok) (o : Outcome) → m.sets ≡ first_sets → m.opens.items ≡ [] → m.out.items ≡ [] → m.units ≡ 0 → m.pend ≡ reverse (map pend_of ts) → TurnUpTo d m turn.Level o → expands d ts o
begins_all d m ts o es eo eout eu ep e =
    let e1 : Ends most_units d [] (marks first_sets (reverse (reverse (map pend_of ts)))) [] 0 o = rw (es, eo, eout, eu, ep) at e in
    let e2 : Ends most_units d [] (unbarred ts) [] 0 o = subst (λ x. Ends most_units d [] x [] 0 o) (ap (marks first_sets) (reverse_twice (map pend_of ts)) ∙ pending_marks ts) e1 in
    starts most_units d (unbarred ts) 0 o e2

pub running_goes : (d : Macros) (ts : List Tok) (m n : Machine) (call next : Option Open) (w : ℕ) → Running d ts m call → Turned d n (turn_of next) (TurnUpTo d m (turn_of call)) w → Running d ts n next
running_goes d ts m n call None w r t = record { known = t.known; call_known = t.call_known; all = λ o e. r.all o (t.all o e) }
running_goes d ts m n call (Some f) w r t = record { known = t.known; call_known = t.call_known; all = λ o e. r.all o (t.all o e) }

toks_marks : (s : SetTable) (ps : List Pend) → toks_of (marks s ps) ≡ map (λ p. p.tok) ps
toks_marks s [] = refl
toks_marks s (p ∷ ps) = ap (λ xs. p.tok ∷ xs) (toks_marks s ps)

pub finishes : (d : Macros) (ts out : List Tok) (m n : Machine) (call : Option Open) (w : ℕ) → Running d ts m call → Turned d n turn.Finished (TurnUpTo d m (turn_of call)) w → out ≡ map (λ p. p.tok) n.out.items
    → (marked : List Marked) × (u : ℕ) × expands d ts (Done marked u) × (toks_of marked ≡ out)
finishes d ts out m n call w r t e = (marks n.sets n.out.items, n.units, r.all (Done (marks n.sets n.out.items) n.units) (t.all (Done (marks n.sets n.out.items) n.units) refl), toks_marks n.sets n.out.items ∙ sym e)

pub refuses : (d : Macros) (ts : List Tok) (m n : Machine) (call : Option Open) (rule : Rule) (w : ℕ) → Running d ts m call → Turned d n (turn.Refused rule) (TurnUpTo d m (turn_of call)) w → expands d ts (Refused rule)
refuses d ts m n call rule w r t = r.all (Refused rule) (t.all (Refused rule) refl)
