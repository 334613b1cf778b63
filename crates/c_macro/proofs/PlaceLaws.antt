-- Tokens put in the place of a name, the last one first.
use Rattle.std.proofs.Common.{◌≡◌, ◌⊎◌, ℕ, ◌+◌, ◌<◌, Bool, true, false, List, [], ◌∷◌, ◌++◌, length, reverse, refl, sym, ap, subst, ◌∙◌, arith, append-nil, append_assoc, length-append, inl, inr}
use Rattle.std.proofs.lemmas.List.{reverse-append}
use Rattle.std.proofs.lemmas.Bool.{cases_Bool}
use Rattle.c_macro.specs.declared.pend.Pend.{Pend}
use Rattle.c_macro.specs.Marked.{Marked, Bars, either_bars}
use Rattle.c_macro.specs.Bodies.{spaced_as, add_bars, respaced}
use Rattle.c_macro.specs.SetData.{set_count, SetTable, Grown, bars_of}
use Rattle.c_macro.specs.Pending.{mark, marks, KnownAll}
use Rattle.c_macro.specs.Placing.{spaced_if, Placing}
use Rattle.c_macro.proofs.SetLaws.{grown_refl, grown_trans, bars_grow}
use Rattle.c_macro.proofs.PendLaws.{marks_grow, known_grow, known_append, known_front, known_back}

last_is : (xs : List Pend) (x : Pend) → reverse (xs ++ x ∷ []) ≡ x ∷ reverse xs
last_is xs x = reverse-append xs (x ∷ [])

barred : Bars → Marked → Marked
barred h m = record { tok = m.tok; bars = either_bars m.bars h }

pub known_reverse : (s : SetTable) (ps : List Pend) → KnownAll s ps → KnownAll s (reverse ps)
known_reverse s [] h = tt
known_reverse s (p ∷ ps) h = subst (KnownAll s) (sym (reverse-append (p ∷ []) ps)) (known_append s (reverse ps) (p ∷ []) (known_reverse s ps h.1) (h.0, tt))

pub placing_starts : (s : SetTable) (bars : ℕ) (spaced : Bool) (before whole : List Pend) → KnownAll s whole → KnownAll s before → Placing s s bars spaced before before whole whole
placing_starts s bars spaced before [] h k = record {
  grown = grown_refl s;
  left_known = h;
  after_known = k;
  whole_known = h;
  done = inl (refl, refl);
  size = omega arith;
}
placing_starts s bars spaced before (p ∷ ps) h k = record {
  grown = grown_refl s;
  left_known = h;
  after_known = k;
  whole_known = h;
  done = inr ([], sym (append-nil (p ∷ ps)), omega arith, refl);
  size = omega arith;
}

pub last_known : (s : SetTable) (left rest : List Pend) (p : Pend) → left ≡ rest ++ p ∷ [] → KnownAll s left → p.set < set_count s
last_known s left rest p e h = (known_back s rest (p ∷ []) (subst (KnownAll s) e h)).0

-- a token with the names of the set barred
barred_is : (old now new : SetTable) (bars set : ℕ) (p : Pend) → Grown old now → p.set < set_count old → bars < set_count old → bars_of new set ≡ either_bars (bars_of now p.set) (bars_of now bars)
    → mark new (record { tok = p.tok; set = set }) ≡ barred (bars_of old bars) (mark old p)
unfolding barred
barred_is old now new bars set p g h k e =
    ap (λ b. let m : Marked = record { tok = p.tok; bars = b } in m)
    (e ∙ (ap (λ b. either_bars b (bars_of now bars)) (bars_grow old now p.set g h) ∙ ap (either_bars (bars_of old p.set)) (bars_grow old now bars g k)))

goes_done : (old now new : SetTable) (bars set : ℕ) (spaced first : Bool) (before after after' whole left rest : List Pend) (p : Pend)
    → Placing old now bars spaced before after whole left → left ≡ rest ++ p ∷ [] → bars < set_count old → Grown now new → bars_of new set ≡ either_bars (bars_of now p.set) (bars_of now bars)
    → (first ≡ true → rest ≡ []) → (first ≡ false → 0 < length rest) → after' ≡ after ++ spaced_if first spaced (record { tok = p.tok; set = set }) ∷ []
    → (put : List Pend) → whole ≡ left ++ put → marks now (reverse after) ≡ add_bars (bars_of old bars) (marks old put) ++ marks old (reverse before)
    → ((rest ≡ []) × (marks new (reverse after') ≡ spaced_as spaced (add_bars (bars_of old bars) (marks old whole)) ++ marks old (reverse before)))
    ⊎ ((put' : List Pend) × (whole ≡ rest ++ put') × (0 < length rest) × (marks new (reverse after') ≡ add_bars (bars_of old bars) (marks old put') ++ marks old (reverse before)))
unfolding barred
goes_done old now new bars set spaced first before after after' whole left rest p m e hb g is last_one not_yet a put w k =
    let whole1 : whole ≡ rest ++ p ∷ put = w ∙ (ap (λ xs. xs ++ put) e ∙ append_assoc rest (p ∷ []) put) in
    let hp : p.set < set_count old = (known_back old rest (p ∷ put) (subst (KnownAll old) whole1 m.whole_known)).0 in
    let q : mark new (record { tok = p.tok; set = set }) ≡ barred (bars_of old bars) (mark old p) = barred_is old now new bars set p m.grown hp hb is in
    let later : marks new (reverse after) ≡ marks now (reverse after) = marks_grow now new (reverse after) g (known_reverse now after m.after_known) in
    let head : marks new (reverse after') ≡ mark new (spaced_if first spaced (record { tok = p.tok; set = set })) ∷ marks new (reverse after) =
    ap (λ xs. marks new (reverse xs)) a ∙ ap (marks new) (last_is after (spaced_if first spaced (record { tok = p.tok; set = set }))) in
    let tail : marks new (reverse after) ≡ add_bars (bars_of old bars) (marks old put) ++ marks old (reverse before) = later ∙ k in
    elim (cases_Bool first) [
      | inl f ↦
          let none : rest ≡ [] = last_one f in
          let whole2 : whole ≡ p ∷ put = whole1 ∙ ap (λ xs. xs ++ p ∷ put) none in
          let h1 : mark new (spaced_if first spaced (record { tok = p.tok; set = set })) ≡ respaced spaced (mark new (record { tok = p.tok; set = set })) = rw f refl in
          inl (
            none,
            head ∙ (ap (λ x. x ∷ marks new (reverse after)) (h1 ∙ ap (respaced spaced) q)
                ∙ (ap (λ xs. respaced spaced (barred (bars_of old bars) (mark old p)) ∷ xs) tail
                ∙ ap (λ xs. spaced_as spaced (add_bars (bars_of old bars) (marks old xs)) ++ marks old (reverse before)) (sym whole2))),
          )
      | inr f ↦
          let h1 : mark new (spaced_if first spaced (record { tok = p.tok; set = set })) ≡ mark new (record { tok = p.tok; set = set }) = rw f refl in
          inr (p ∷ put, whole1, not_yet f, head ∙ (ap (λ x. x ∷ marks new (reverse after)) (h1 ∙ q) ∙ ap (λ xs. barred (bars_of old bars) (mark old p) ∷ xs) tail))
    ]

pub placing_goes : (old now new : SetTable) (bars set : ℕ) (spaced first : Bool) (before after after' whole left rest : List Pend) (p : Pend)
    → Placing old now bars spaced before after whole left → left ≡ rest ++ p ∷ [] → bars < set_count old → Grown now new → set < set_count new → bars_of new set ≡ either_bars (bars_of now p.set) (bars_of now bars)
    → (first ≡ true → rest ≡ []) → (first ≡ false → 0 < length rest) → after' ≡ after ++ spaced_if first spaced (record { tok = p.tok; set = set }) ∷ []
    → Placing old new bars spaced before after' whole rest
placing_goes old now new bars set spaced first before after after' whole left rest p m e hb g there is last_one not_yet a =
    let l : length left ≡ length rest + 1 = ap length e ∙ length-append rest (p ∷ []) in
    let n : length after' ≡ length after + 1 = ap length a ∙ length-append after (spaced_if first spaced (record { tok = p.tok; set = set }) ∷ []) in
    let one : (spaced_if first spaced (record { tok = p.tok; set = set })).set < set_count new = elim (cases_Bool first) [ inl f ↦ rw f there | inr f ↦ rw f there ] in
    record {
      grown = grown_trans old now new m.grown g;
      left_known = known_grow now new rest g (known_front now rest (p ∷ []) (subst (KnownAll now) e m.left_known));
      after_known = subst (KnownAll new) (sym a) (known_append new after _ (known_grow now new after g m.after_known) (one, tt));
      whole_known = m.whole_known;
      done = elim m.done [
        | inl d ↦ let c : length left ≡ 0 = ap length d.0 in absurd (omega (arith, c, l))
        | inr d ↦ goes_done old now new bars set spaced first before after after' whole left rest p m e hb g is last_one not_yet a d.0 d.1 d.3
      ];
      size = omega (arith, m.size, l, n);
    }

pub record Placed (old now : SetTable) (bars : ℕ) (spaced : Bool) (before after whole : List Pend) : Type 0 where
  pub grown : Grown old now
  pub known : KnownAll now after
  pub is : marks now (reverse after) ≡ spaced_as spaced (add_bars (bars_of old bars) (marks old whole)) ++ marks old (reverse before)
  pub size : length after ≡ length before + length whole

pub placing_ends : (old now : SetTable) (bars : ℕ) (spaced : Bool) (before after whole left : List Pend) → Placing old now bars spaced before after whole left → left ≡ [] → Placed old now bars spaced before after whole
placing_ends old now bars spaced before after whole left m e =
    let l : length left ≡ 0 = ap length e in
    record {
      grown = m.grown;
      known = m.after_known;
      is = elim m.done [ inl d ↦ d.1 | inr d ↦ absurd (omega (arith, d.2, l)) ];
      size = omega (arith, m.size, l);
    }
