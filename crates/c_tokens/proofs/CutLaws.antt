-- Joined lines, a line at a time.
use Rattle.std.proofs.Common.{◌≡◌, ℕ, zero, suc, ◌+◌, ◌<◌, ◌≤◌, Bool, true, false, List, [], ◌∷◌, ◌++◌, ◌&&◌, ◌||◌, not, length, take, drop, nat_eq, refl, sym, ap, subst, ◌∙◌, arith, rules, if◌then◌else◌, append-nil, append_assoc, inl, inr, cond, add-zero, add_assoc}
use Rattle.std.specs.List.{take_while}
use Rattle.std.proofs.lemmas.List.{take-append-drop}
use Rattle.std.proofs.lemmas.List.Sums.{take_while-cons}
use Rattle.std.specs.List.{list_all, prefix_len}
use Rattle.std.proofs.lemmas.Bool.{cases_Bool, and_parts, eqb-true}
use Rattle.c_tokens.specs.Lines.{Cut, cut, cut_end, with_byte, with_newline}
use Rattle.c_tokens.specs.Joining.{joined_behind, is_no_newline, EndsElsewhere}

and_false : (b : Bool) → (b && false) ≡ false
and_false true = refl
and_false false = refl

abbrev pub NoNewline : List ℕ → Type 0
NoNewline line = list_all is_no_newline line ≡ true

no_newline : (b : ℕ) → is_no_newline b ≡ true → nat_eq b 10 ≡ false
no_newline b h = elim (cases_Bool (nat_eq b 10)) [ inl e ↦ let k : false ≡ true = rw e at h in cc | inr e ↦ e ]

-- one byte that ends no line and is joined to none
step : (b c : ℕ) (bs : List ℕ) → nat_eq b 10 ≡ false → nat_eq c 10 ≡ false → cut (b ∷ c ∷ bs) ≡ with_byte b (cut (c ∷ bs))
step b c bs h k = rw (k, h, and_false (nat_eq b 92)) refl

pub cut_last : (line : List ℕ) → NoNewline line → cut line ≡ joined_behind line 0 (cut_end [] 0)
cut_last [] h = refl
cut_last (b ∷ []) h = let p = and_parts _ _ h in rw (no_newline b p.0) refl
cut_last (b ∷ c ∷ bs) h =
    let p = and_parts _ _ h in
    let q = and_parts _ _ p.1 in
    step b c bs (no_newline b p.0) (no_newline c q.0) ∙ ap (with_byte b) (cut_last (c ∷ bs) p.1)

not_first : (b : ℕ) → EndsElsewhere (b ∷ []) → nat_eq b 92 ≡ false
not_first b e = elim (cases_Bool (nat_eq b 92)) [ inl h ↦ let k : b ≡ 92 = eqb-true _ _ h in absurd (e [] (ap (λ x. x ∷ []) k)) | inr h ↦ h ]

ends_behind : (b : ℕ) (bs : List ℕ) → EndsElsewhere (b ∷ bs) → EndsElsewhere bs
ends_behind b bs e = λ front is. e (b ∷ front) (ap (λ xs. b ∷ xs) is)

pub cut_ends : (line rest : List ℕ) → NoNewline line → EndsElsewhere line → cut (line ++ 10 ∷ rest) ≡ joined_behind line 0 (cut_end rest 1)
cut_ends [] [] h e = refl
cut_ends [] (r ∷ rest) h e = refl
cut_ends (b ∷ []) rest h e =
    let p = and_parts _ _ h in
    let k : nat_eq b 92 ≡ false = not_first b e in
    rw (k, no_newline b p.0) (ap (with_byte b) (cut_ends [] rest refl (ends_behind b [] e)))
cut_ends (b ∷ c ∷ bs) rest h e =
    let p = and_parts _ _ h in
    let q = and_parts _ _ p.1 in
    step b c (bs ++ 10 ∷ rest) (no_newline b p.0) (no_newline c q.0) ∙ ap (with_byte b) (cut_ends (c ∷ bs) rest p.1 (ends_behind b (c ∷ bs) e))

pub cut_joins : (front rest : List ℕ) → NoNewline front → cut (front ++ 92 ∷ 10 ∷ rest) ≡ joined_behind front 1 (cut rest)
cut_joins [] rest h = let e : (cut rest).newlines + 1 ≡ 1 + (cut rest).newlines = omega arith in ap (λ n. record { bytes = (cut rest).bytes; rest = (cut rest).rest; newlines = n }) e
cut_joins (b ∷ []) rest h =
    let p = and_parts _ _ h in
    step b 92 (10 ∷ rest) (no_newline b p.0) refl ∙ ap (with_byte b) (cut_joins [] rest refl)
cut_joins (b ∷ c ∷ bs) rest h =
    let p = and_parts _ _ h in
    let q = and_parts _ _ p.1 in
    step b c (bs ++ 92 ∷ 10 ∷ rest) (no_newline b p.0) (no_newline c q.0) ∙ ap (with_byte b) (cut_joins (c ∷ bs) rest p.1)

-- ---- what the loop over the lines keeps

line_passes : (p : ℕ → Bool) (xs : List ℕ) → list_all p (take_while p xs) ≡ true
line_passes p [] = refl
line_passes p (x ∷ xs) = rw (take_while-cons p x xs) (elim (cases_Bool (p x)) [ inl h ↦ rw (h, h, line_passes p xs) refl | inr h ↦ rw h refl ])

-- the first byte, if there is one, doesn't pass
abbrev pub Stops : (ℕ → Bool) → List ℕ → Type 0
Stops p [] = Unit {0}
Stops p (b ∷ bs) = p b ≡ false

line_stops : (p : ℕ → Bool) (xs : List ℕ) → Stops p (drop (prefix_len p xs) xs)
line_stops p [] = tt
line_stops p (x ∷ xs) = elim (cases_Bool (p x)) [ inl h ↦ let e : 1 + prefix_len p xs ≡ suc (prefix_len p xs) = omega arith in rw (h, e) (line_stops p xs) | inr h ↦ rw h h ]

-- the parts of a text at its first newline
pub record Parts (text line behind : List ℕ) : Type 0 where
  pub whole : text ≡ line ++ behind
  pub passes : NoNewline line
  pub stops : Stops is_no_newline behind

pub parts_of : (text line behind : List ℕ) (n : ℕ) → n ≡ prefix_len is_no_newline text → line ≡ take n text → behind ≡ drop n text → Parts text line behind
parts_of text line behind n e l b =
    let l1 : line ≡ take_while is_no_newline text = rw e at l in
    let b1 : behind ≡ drop (prefix_len is_no_newline text) text = rw e at b in
    record {
      whole = sym (rw (l1, b1) (take-append-drop (prefix_len is_no_newline text) text));
      passes = rw l1 (line_passes is_no_newline text);
      stops = rw b1 (line_stops is_no_newline text);
    }

pub joined_last : (text line behind js new : List ℕ) (n : ℕ) (all : Cut) → Parts text line behind → length behind ≡ 0 → new ≡ js ++ line
    → joined_behind js n (cut text) ≡ all → record { bytes = new; rest = behind; newlines = n } ≡ all
joined_last text line [] js new n all p none made k =
    let e : text ≡ line = p.whole ∙ append-nil line in
    let c : cut text ≡ joined_behind line 0 (cut_end [] 0) = ap cut e ∙ cut_last line p.passes in
    let m : joined_behind js n (joined_behind line 0 (cut_end [] 0)) ≡ record { bytes = new; rest = []; newlines = n } =
    rw (append-nil, made, add-zero) refl in
    sym m ∙ (ap (joined_behind js n) (sym c) ∙ k)
joined_last text line (b ∷ bs) js new n all p none made k = absurd (omega arith)

passes_front : (xs ys : List ℕ) → NoNewline (xs ++ ys) → NoNewline xs
passes_front [] ys h = refl
passes_front (x ∷ xs) ys h = let p : (is_no_newline x ≡ true) × (list_all is_no_newline (xs ++ ys) ≡ true) = and_parts _ _ h in rw (p.0, passes_front xs ys p.1) refl

newline_first : (behind after : List ℕ) (b : ℕ) → Stops is_no_newline behind → behind ≡ b ∷ after → behind ≡ 10 ∷ after
newline_first behind after b s e =
    let h : is_no_newline b ≡ false = subst (Stops is_no_newline) e s in
    let k : b ≡ 10 = elim (cases_Bool (nat_eq b 10)) [ inl q ↦ eqb-true _ _ q | inr q ↦ let f : true ≡ false = rw q at h in cc ] in
    e ∙ ap (λ x. x ∷ after) k

pub joined_ends : (text line behind after js new : List ℕ) (n b : ℕ) (all : Cut) → Parts text line behind → behind ≡ b ∷ after → EndsElsewhere line → new ≡ js ++ line
    → joined_behind js n (cut text) ≡ all → record { bytes = new; rest = after; newlines = n + 1 } ≡ all
joined_ends text line behind after js new n b all p first elsewhere made k =
    let e : text ≡ line ++ 10 ∷ after = p.whole ∙ ap (λ xs. line ++ xs) (newline_first behind after b p.stops first) in
    let c : cut text ≡ joined_behind line 0 (cut_end after 1) = ap cut e ∙ cut_ends line after p.passes elsewhere in
    let m : joined_behind js n (joined_behind line 0 (cut_end after 1)) ≡ record { bytes = new; rest = after; newlines = n + 1 } =
    rw (append-nil, made) refl in
    sym m ∙ (ap (joined_behind js n) (sym c) ∙ k)

pub joined_more : (text line behind after front js new : List ℕ) (n b : ℕ) (all : Cut) → Parts text line behind → behind ≡ b ∷ after → line ≡ front ++ 92 ∷ [] → new ≡ js ++ front
    → joined_behind js n (cut text) ≡ all → joined_behind new (n + 1) (cut after) ≡ all
joined_more text line behind after front js new n b all p first split made k =
    let e : text ≡ front ++ 92 ∷ 10 ∷ after = p.whole ∙ (ap (λ xs. xs ++ behind) split ∙ (append_assoc front (92 ∷ []) behind ∙ ap (λ xs. front ++ 92 ∷ xs) (newline_first behind after b p.stops first))) in
    let f : NoNewline front = passes_front front (92 ∷ []) (subst NoNewline split p.passes) in
    let c : cut text ≡ joined_behind front 1 (cut after) = ap cut e ∙ cut_joins front after f in
    let m : joined_behind js n (joined_behind front 1 (cut after)) ≡ joined_behind new (n + 1) (cut after) =
    rw (made, append_assoc, add_assoc) refl in
    sym m ∙ (ap (joined_behind js n) (sym c) ∙ k)
