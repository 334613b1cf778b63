-- Spelled tokens are read as these tokens.
use Rattle.std.proofs.Common.{◌≡◌, ◌<◌, ℕ, suc, ◌+◌, Bool, true, false, ◌&&◌, not, List, [], ◌∷◌, ◌++◌, Option, Some, None, Result, Ok, length, drop, take, nat_eq, refl, sym, ap, subst, ◌∙◌, arith, inl, inr, codes, append-nil}
use Rattle.std.specs.List.{list_all, starts_with}
use Rattle.std.proofs.Math.Seq.{drop-append_seam, take-append_seam, drop-length}
use Rattle.std.proofs.lemmas.Bool.{agree_below, agree_below_at, and_left, and_parts, and_right, cases_Bool, cases_eq, cases_lt, cond-false, eqb-false, eqb-true, le-leb, lt-leb, ne_eqb, not-true, or_from, or_parts}
use Rattle.edt_base.specs.SourceBytes.{is_blank, is_plain, is_wide}
use Rattle.dts_lex.specs.Between.{enter, enter_within, gap, skips, start}
use Rattle.dts_lex.specs.Left.{Left}
use Rattle.dts_lex.specs.Spelled.{AreFit, BlanksAreNoTokens, IsFit, Spelling, SpelledTokensAreRead, at_line, begins_hash, is_apart, span_of, spelled}
use Rattle.dts_lex.specs.Tokens.{at_double, behind, found, in_rounds, is_double, is_narrow, is_operator, is_outer_punctuator, is_word_byte, mark, next_at, next_of, punctuator, stands}
use Rattle.dts_lex.specs.declared.between.Between.{Between}
use Rattle.dts_lex.specs.declared.between.Between.TheVariants.{LineStart, Within}
use Rattle.dts_lex.specs.declared.lexer.LexFault.{LexFault}
use Rattle.dts_lex.specs.declared.lexer.Span.{Span}
use Rattle.dts_lex.specs.declared.lexer.SpanKind.{SpanKind}
use Rattle.dts_lex.specs.declared.lexer.SpanKind.TheVariants as kind
use Rattle.dts_lex.specs.declared.opened.Opened.{Opened}
use Rattle.dts_lex.proofs.StandLaws.{elsewhere, mark_of, none_found, plain_slash, same_found, slashed, stays}

-- ---- no token begins with a blank

blank_no : (f : ℕ → Bool) → agree_below (λ b. is_blank b && f b) (λ _. false) 33 ≡ true → (c : ℕ) → is_blank c ≡ true → f c ≡ false
blank_no f t c h = elim (cases_lt c 33) [
  | inl l ↦
      let e : (is_blank c && f c) ≡ false = agree_below_at (λ b. is_blank b && f b) (λ _. false) 33 c t l in
      (rw h at e)
  | inr g ↦
      let k : false ≡ true = rw (ne_eqb c 32 (λ e. absurd (omega arith)), le-leb 9 c (omega arith), lt-leb c 13 (omega arith)) at h in
      cc
]

blank_word : (n : Bool) (c : ℕ) → is_blank c ≡ true → is_word_byte n c ≡ false
blank_word true c h = blank_no is_plain refl c h
blank_word false c h = blank_no is_wide refl c h

double_none : (a b : ℕ) → is_blank a ≡ true → is_double a b ≡ false
double_none a b h =
    let less : nat_eq a 60 ≡ false = blank_no (λ x. nat_eq x 60) refl a h in
    let greater : nat_eq a 62 ≡ false = blank_no (λ x. nat_eq x 62) refl a h in
    let equal : nat_eq a 61 ≡ false = blank_no (λ x. nat_eq x 61) refl a h in
    let bang : nat_eq a 33 ≡ false = blank_no (λ x. nat_eq x 33) refl a h in
    let and : nat_eq a 38 ≡ false = blank_no (λ x. nat_eq x 38) refl a h in
    let bar : nat_eq a 124 ≡ false = blank_no (λ x. nat_eq x 124) refl a h in
    elim (cases_Bool (nat_eq b 61)) [ inl e ↦ rw (less, greater, equal, bang, and, bar, e) refl | inr e ↦ rw (less, greater, and, bar, e) refl ]

at_double_none : (c : ℕ) (xs : List ℕ) → is_blank c ≡ true → at_double (c ∷ xs) ≡ false
at_double_none c [] h = refl
at_double_none c (d ∷ xs) h = double_none c d h

punctuator_none : (r : Bool) (c : ℕ) (xs : List ℕ) → is_blank c ≡ true → punctuator r (c ∷ xs) ≡ 0
punctuator_none r c xs h =
    let s : starts_with nat_eq (c ∷ xs) (codes "/*") ≡ false = and_left (nat_eq 47 c) _ (blank_no (λ x. nat_eq 47 x) refl c h) in
    cond-false _ _ _ s ∙ (cond-false _ _ _ (and_right r _ (at_double_none c xs h))
    ∙ cond-false _ _ _ (or_from _ _ (blank_no is_outer_punctuator refl c h) (and_right r _ (blank_no is_operator refl c h))))

mark_none : (r : Bool) (d p : ℕ) → d ≡ 0 → p ≡ 0 → mark_of r d p ≡ None
mark_none r d p e h = ap (λ n. mark_of r n p) e ∙ (ap (λ n. mark_of r 0 n) h ∙ cond-false _ _ _ (and_right (not r) false refl))

stands_none : (o : Opened) (c : ℕ) (xs : List ℕ) → is_blank c ≡ true → stands o (c ∷ xs) ≡ None
stands_none o c xs h =
    cond-false _ _ _ (blank_word (is_narrow o) c h)
    ∙ (cond-false _ _ _ (blank_no (λ x. nat_eq x 34) refl c h)
    ∙ (cond-false _ _ _ (blank_no (λ x. nat_eq x 39) refl c h)
    ∙ (cond-false _ _ _ (and_left _ _ (blank_no (λ x. nat_eq x 38) refl c h))
    ∙ mark_none (in_rounds o) _ _ (elsewhere c xs (blank_no (λ x. nat_eq 47 x) refl c h)) (punctuator_none (in_rounds o) c xs h))))

-- ---- nor with what opens a comment

word_slash : (n : Bool) → is_word_byte n 47 ≡ false
word_slash true = refl
word_slash false = refl

stands_slash : (o : Opened) (xs : List ℕ) → stands o (47 ∷ xs) ≡ mark o (47 ∷ xs)
stands_slash o xs = cond-false _ _ _ (word_slash (is_narrow o))

slash_alone : (r : Bool) → mark_of r 0 (punctuator r (47 ∷ [])) ≡ found kind.Punct 1
slash_alone true = refl
slash_alone false = refl

slash_slash : (r : Bool) (xs : List ℕ) → mark_of r 0 (punctuator r (47 ∷ 47 ∷ xs)) ≡ found kind.Punct 1
slash_slash true xs = refl
slash_slash false xs = refl

slash_star : (r : Bool) (xs : List ℕ) → mark_of r 0 (punctuator r (47 ∷ 42 ∷ xs)) ≡ None
slash_star true xs = refl
slash_star false xs = refl

abbrev IsSolid : List ℕ → Type 0
IsSolid bytes = (starts_with nat_eq bytes (codes "//") ≡ false) × (starts_with nat_eq bytes (codes "/*") ≡ false)

no_slash : (o : Opened) (k : SpanKind) (d : ℕ) (xs : List ℕ) → stands o (47 ∷ d ∷ xs) ≡ found k (suc (suc (length xs)))
    → (t : Bool) → nat_eq 47 d ≡ t → t ≡ false
no_slash o k d xs h false e = refl
no_slash o k d xs h true e =
    let q : stands o (47 ∷ 47 ∷ xs) ≡ found k (suc (suc (length xs))) =
    subst (λ (x : ℕ). stands o (47 ∷ x ∷ xs) ≡ found k (suc (suc (length xs)))) (sym (eqb-true 47 d e)) h in
    let s : found kind.Punct 1 ≡ found k (suc (suc (length xs))) = sym (stands_slash o (47 ∷ xs) ∙ slash_slash (in_rounds o) xs) ∙ q in
    let n : 1 ≡ suc (suc (length xs)) = (same_found _ _ _ _ s).1 in
    absurd (omega arith)

no_star : (o : Opened) (k : SpanKind) (d : ℕ) (xs : List ℕ) → stands o (47 ∷ d ∷ xs) ≡ found k (suc (suc (length xs)))
    → (t : Bool) → nat_eq 42 d ≡ t → t ≡ false
no_star o k d xs h false e = refl
no_star o k d xs h true e =
    let q : stands o (47 ∷ 42 ∷ xs) ≡ found k (suc (suc (length xs))) =
    subst (λ (x : ℕ). stands o (47 ∷ x ∷ xs) ≡ found k (suc (suc (length xs)))) (sym (eqb-true 42 d e)) h in
    absurd (none_found _ _ (sym (stands_slash o (42 ∷ xs) ∙ slash_star (in_rounds o) xs) ∙ q))

solid_slash : (o : Opened) (k : SpanKind) (xs rest : List ℕ) → stands o (47 ∷ xs) ≡ found k (suc (length xs))
    → is_apart o k (47 ∷ xs) rest ≡ true → IsSolid (47 ∷ xs ++ rest)
solid_slash o k [] [] h a = (refl, refl)
solid_slash o k [] (b ∷ rest) h a =
    let s = same_found kind.Punct k _ _ (sym (stands_slash o [] ∙ slash_alone (in_rounds o)) ∙ h) in
    let i : is_apart o kind.Punct (47 ∷ []) (b ∷ rest) ≡ true = subst (λ (j : SpanKind). is_apart o j (47 ∷ []) (b ∷ rest) ≡ true) (sym s.0) a in
    let q = or_parts (nat_eq 47 47 && slashed b) (in_rounds o && is_double 47 b) (not-true _ i) in
    let p = plain_slash 47 b q.0 refl in
    (and_left _ true p.slash, and_left _ true p.star)
solid_slash o k (d ∷ xs) rest h a =
    (and_left _ true (no_slash o k d xs h (nat_eq 47 d) refl), and_left _ true (no_star o k d xs h (nat_eq 42 d) refl))

solid : (o : Opened) (k : SpanKind) (c : ℕ) (xs rest : List ℕ) → stands o (c ∷ xs) ≡ found k (suc (length xs))
    → is_apart o k (c ∷ xs) rest ≡ true → IsSolid (c ∷ xs ++ rest)
solid o k c xs rest h a = elim (cases_eq c 47) [
  | inl e ↦
      subst (λ (x : ℕ). IsSolid (x ∷ xs ++ rest)) (sym e) (solid_slash o k xs rest
      (subst (λ (x : ℕ). stands o (x ∷ xs) ≡ found k (suc (length xs))) e h)
      (subst (λ (x : ℕ). is_apart o k (x ∷ xs) rest ≡ true) e a))
  | inr n ↦
      let k : nat_eq 47 c ≡ false = ne_eqb 47 c (λ e. n (sym e)) in
      (and_left _ _ k, and_left _ _ k)
]

not_blank : (o : Opened) (k : SpanKind) (c : ℕ) (xs : List ℕ) → stands o (c ∷ xs) ≡ found k (suc (length xs)) → is_blank c ≡ false
not_blank o k c xs h = elim (cases_Bool (is_blank c)) [ inl e ↦ absurd (none_found _ _ (sym (stands_none o c xs e) ∙ h)) | inr e ↦ e ]

-- ---- gaps

-- where a line begins or not
abbrev side : Bool → Between
side true = LineStart
side false = Within

skips_not : (c : ℕ) (xs : List ℕ) → nat_eq c 35 ≡ false → skips (c ∷ xs) ≡ false
skips_not c [] h = let k : nat_eq 35 c ≡ false = ne_eqb 35 c (λ e. eqb-false c 35 h (sym e)) in rw k refl
skips_not c (d ∷ []) h = let k : nat_eq 35 c ≡ false = ne_eqb 35 c (λ e. eqb-false c 35 h (sym e)) in rw k refl
skips_not c (d ∷ e ∷ xs) h = let k : nat_eq 35 c ≡ false = ne_eqb 35 c (λ e. eqb-false c 35 h (sym e)) in rw (h, k) refl

enter_side : (begun : Bool) (c : ℕ) (xs : List ℕ) → (begun && nat_eq c 35) ≡ false → enter (side begun) c (c ∷ xs) ≡ enter_within c (c ∷ xs)
enter_side false c xs h = refl
enter_side true c xs h = cond-false _ _ _ (skips_not c xs h)

enter_blank : (c : ℕ) (xs : List ℕ) → is_blank c ≡ true → enter_within c (c ∷ xs) ≡ Some (side (nat_eq c 10))
enter_blank c xs h = elim (cases_Bool (nat_eq c 10)) [ inl e ↦ rw e refl | inr e ↦ rw (e, h) refl ]

enter_token : (c : ℕ) (xs : List ℕ) → is_blank c ≡ false → IsSolid (c ∷ xs) → enter_within c (c ∷ xs) ≡ None
enter_token c xs h s =
    let n : nat_eq c 10 ≡ false = ne_eqb c 10 (λ e. let f : is_blank c ≡ true = subst (λ (x : ℕ). is_blank x ≡ true) (sym e) refl in cc) in
    cond-false _ _ _ n ∙ (cond-false _ _ _ h ∙ (cond-false _ _ _ s.0 ∙ cond-false _ _ _ (and_left _ _ s.1)))

abbrev gap_of : Option Between → List ℕ → ℕ
gap_of next rest = elim next [ None ↦ 0 | Some k ↦ suc (gap k rest) ]

gap_blanks : (begun : Bool) (blanks rest : List ℕ) → list_all is_blank blanks ≡ true
    → gap (side (at_line begun blanks)) rest ≡ 0 → gap (side begun) (blanks ++ rest) ≡ length blanks
gap_blanks begun [] rest h z = z
gap_blanks begun (b ∷ blanks) rest h z =
    let p = and_parts (is_blank b) (list_all is_blank blanks) h in
    let e : enter (side begun) b (b ∷ blanks ++ rest) ≡ Some (side (nat_eq b 10)) =
    enter_side begun b (blanks ++ rest) (and_right begun _ (blank_no (λ x. nat_eq x 35) refl b p.0)) ∙ enter_blank b (blanks ++ rest) p.0 in
    ap (λ next. gap_of next (blanks ++ rest)) e ∙ ap (λ n. suc n) (gap_blanks (nat_eq b 10) blanks rest p.1 z)

start_side : (at : ℕ) → start at ≡ side (nat_eq at 0)
start_side at = elim (cases_Bool (nat_eq at 0)) [ inl e ↦ rw e refl | inr e ↦ rw e refl ]

-- ---- the next token

abbrev next_after : Left → ℕ → Result (Option (Span × Left)) LexFault
next_after l n = next_at l (drop n l.bytes) (l.at + n) (stands l.opened (drop n l.bytes))

next_text : (l : Left) (at : ℕ) (k : SpanKind) (xs rest : List ℕ) → 0 < length xs
    → next_at l (xs ++ rest) at (found k (length xs)) ≡ Ok (Some (record { kind = k; start = at; end = at + length xs }, record { bytes = rest; at = at + length xs; opened = behind l.opened k xs }))
next_text l at k [] rest h = absurd (omega arith)
next_text l at k (c ∷ xs) rest h =
    ap (λ (bytes : List ℕ). Ok (Some (record { kind = k; start = at; end = at + length (c ∷ xs) }, record { bytes = bytes; at = at + length (c ∷ xs); opened = behind l.opened k (take (length (c ∷ xs)) (c ∷ xs ++ rest)) }))) (drop-append_seam (c ∷ xs) rest)
    ∙ ap (λ (text : List ℕ). Ok (Some (record { kind = k; start = at; end = at + length (c ∷ xs) }, record { bytes = rest; at = at + length (c ∷ xs); opened = behind l.opened k text }))) (take-append_seam (c ∷ xs) rest)

gap_none : (begun : Bool) (o : Opened) (k : SpanKind) (xs rest : List ℕ) → (begun && begins_hash xs) ≡ false
    → stands o xs ≡ found k (length xs) → is_apart o k xs rest ≡ true → gap (side begun) (xs ++ rest) ≡ 0
gap_none begun o k [] rest n h a = absurd (none_found _ _ h)
gap_none begun o k (c ∷ xs) rest n h a =
    ap (λ next. gap_of next (xs ++ rest)) (enter_side begun c (xs ++ rest) n
    ∙ enter_token c (xs ++ rest) (not_blank o k c xs h) (solid o k c xs rest h a))

some_text : (o : Opened) (k : SpanKind) (xs : List ℕ) → stands o xs ≡ found k (length xs) → 0 < length xs
some_text o k [] h = absurd (none_found _ _ h)
some_text o k (c ∷ xs) h = omega arith

next_is : (at : ℕ) (o : Opened) (t : Spelling) (rest : List ℕ) → IsFit (nat_eq at 0) o t rest
    → next_of (record { bytes = t.blanks ++ (t.text ++ rest); at = at; opened = o })
    ≡ Ok (Some (span_of at t, record { bytes = rest; at = (span_of at t).end; opened = behind o t.kind t.text }))
next_is at o t rest f =
    let l : Left = record { bytes = t.blanks ++ (t.text ++ rest); at = at; opened = o } in
    let g : gap (start at) (t.blanks ++ (t.text ++ rest)) ≡ length t.blanks =
    ap (λ k. gap k (t.blanks ++ (t.text ++ rest))) (start_side at)
    ∙ gap_blanks (nat_eq at 0) t.blanks (t.text ++ rest) f.blank (gap_none (at_line (nat_eq at 0) t.blanks) o t.kind t.text rest f.within f.whole f.apart) in
    ap (next_after l) g
    ∙ (ap (λ xs. next_at l xs (at + length t.blanks) (stands o xs)) (drop-append_seam t.blanks (t.text ++ rest))
    ∙ (ap (next_at l (t.text ++ rest) (at + length t.blanks)) (stays o t.kind t.text rest f.whole f.apart)
    ∙ next_text l (at + length t.blanks) t.kind t.text rest (some_text o t.kind t.text f.whole)))

-- ---- the laws

later : (at n m : ℕ) → 0 < m → nat_eq (at + n + m) 0 ≡ false
later at n m h = ne_eqb (at + n + m) 0 (λ e. absurd (omega arith))

pub spelled_tokens_are_read : SpelledTokensAreRead
spelled_tokens_are_read at o [] after f = refl
spelled_tokens_are_read at o (t ∷ ts) after f =
    let e : nat_eq (span_of at t).end 0 ≡ false = later at (length t.blanks) (length t.text) (some_text o t.kind t.text f.0.whole) in (
      record { bytes = spelled ts after; at = (span_of at t).end; opened = behind o t.kind t.text },
      next_is at o t (spelled ts after) f.0,
      spelled_tokens_are_read (span_of at t).end (behind o t.kind t.text) ts after
          (subst (λ (b : Bool). AreFit b (behind o t.kind t.text) ts after) (sym e) f.1),
    )

gap_all : (begun : Bool) (blanks : List ℕ) → list_all is_blank blanks ≡ true → gap (side begun) blanks ≡ length blanks
gap_all begun blanks h =
    ap (gap (side begun)) (sym (append-nil blanks)) ∙ gap_blanks begun blanks [] h refl

pub blanks_are_no_tokens : BlanksAreNoTokens
blanks_are_no_tokens l h =
    let g : gap (start l.at) l.bytes ≡ length l.bytes = ap (λ k. gap k l.bytes) (start_side l.at) ∙ gap_all (nat_eq l.at 0) l.bytes h in
    ap (next_after l) g ∙ ap (λ xs. next_at l xs (l.at + length l.bytes) (stands l.opened xs)) (drop-length l.bytes)
