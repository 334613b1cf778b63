-- How quoted texts of written files are read.
use Rattle.std.proofs.Common.{◌≡◌, ℕ, ◌+◌, ◌-◌, ◌*◌, ◌%◌, ◌<◌, Bool, true, false, ◌||◌, if◌then◌else◌, ◌==◌, nat_lt, nat_le, List, [], ◌∷◌, ◌++◌, Ok, refl, sym, ap, subst, ◌∙◌, arith, append_assoc, inl, inr, lit<}
use Rattle.std.specs.List.{list_all, list_any}
use Rattle.std.specs.Char.{len_utf8}
use Rattle.std.proofs.Math.Nat.{mod-eq_of_lt}
use Rattle.std.proofs.lemmas.Bool.{and_parts, cases_Bool}
use Rattle.std.proofs.lemmas.Bool.Decides.{nat_tests}
use Rattle.yaml_profile.specs.declared.front.Role.{Role}
use Rattle.yaml_profile.specs.declared.front.Role.TheVariants.{Value as ValueOnly}
use Rattle.yaml_profile.specs.Signs.{is_blank, begins_with}
use Rattle.yaml_profile.specs.Scalars.{digit}
use Rattle.yaml_profile.specs.Folding.{Folding, nothing_yet, put, end_line, join_line, caught_up}
use Rattle.yaml_profile.specs.Fronts.{Frame, InSingle, AtSecondQuote, InDouble, InEscape, InDigits, AfterQuoted, Front, front}
use Rattle.yaml_profile.specs.Pieces.{in_single, at_second_quote, in_double, in_escape, in_digits, escaped, is_surrogate, is_key_only}
use Rattle.yaml_profile.specs.Reading.{taken}
use Rattle.yaml_profile.specs.Written.{Inner, Itself, Escaped, ByTwo, ByFour, LineEnd, Joined, spell_inner, by_two, by_four, with_digit, is_hex, spell_inners, with_solid, with_char, with_chars, with_inner, with_inners, double_text, is_inner_quoted, is_line_end, spell_singles, single_text, is_feed}
use Rattle.yaml_profile.proofs.WrittenTexts.{goes}
use Rattle.yaml_profile.proofs.ReadSteps.{is_that, line_walk, never, not_true, past, past_append, with_returns}

pub record ItselfFacts (c : ℕ) : Type 0 where
  pub feed : (c == 10) ≡ false
  pub quote : (c == 34) ≡ false
  pub backslash : (c == 92) ≡ false

pub itself_facts : (c : ℕ) → is_inner_quoted (Itself c) ≡ true → ItselfFacts c
itself_facts c h = record { feed = grind (arith, nat_tests); quote = grind (arith, nat_tests); backslash = grind (arith, nat_tests) }

pub record EscapeFacts (c : ℕ) : Type 0 where
  pub feed : (c == 10) ≡ false
  pub x : (c == 120) ≡ false
  pub u : (c == 117) ≡ false
  pub known : (escaped c == 256) ≡ false

pub escape_facts : (c : ℕ) → is_inner_quoted (Escaped c) ≡ true → EscapeFacts c
escape_facts c h =
    let unknown : ℕ → Bool = λ d. escaped d == 256 in
    let known : (escaped c == 256) ≡ false = not_true _ h in
    record { feed = never unknown c 10 known refl; x = never unknown c 120 known refl; u = never unknown c 117 known refl; known = known }

itself_char : (fs : List Frame) (t : Folding) (r : Role) (begun at c : ℕ) (rest : List ℕ) → ItselfFacts c
    → taken fs (InDouble t r begun) at c rest ≡ Ok (front fs (InDouble (with_solid t c) r begun))
unfolding taken in_double
itself_char fs t r begun at c rest f = rw (f.quote, f.backslash, f.feed) (elim (cases_Bool (is_blank c)) [ inl h ↦ rw h refl | inr h ↦ rw h refl ])

line_char : (fs : List Frame) (t : Folding) (r : Role) (begun at : ℕ) (rest : List ℕ) → is_key_only r ≡ false
    → taken fs (InDouble t r begun) at 10 rest ≡ Ok (front fs (InDouble (end_line t) ValueOnly begun))
unfolding taken in_double
line_char fs t r begun at rest k = rw k refl

joined_char : (fs : List Frame) (t : Folding) (r : Role) (begun at : ℕ) (rest : List ℕ) → is_key_only r ≡ false
    → taken fs (InEscape t r begun) at 10 rest ≡ Ok (front fs (InDouble (join_line t) ValueOnly begun))
unfolding taken in_escape
joined_char fs t r begun at rest k = rw k refl

backslash : (fs : List Frame) (t : Folding) (r : Role) (begun at : ℕ) (rest : List ℕ) → taken fs (InDouble t r begun) at 92 rest ≡ Ok (front fs (InEscape t r begun))
unfolding taken in_double
backslash fs t r begun at rest = refl

escape_char : (fs : List Frame) (t : Folding) (r : Role) (begun at c : ℕ) (rest : List ℕ) → EscapeFacts c
    → taken fs (InEscape t r begun) at c rest ≡ Ok (front fs (InDouble (put t (escaped c)) r begun))
unfolding taken in_escape
escape_char fs t r begun at c rest f = rw (f.x, f.u, f.feed, f.known) refl

-- ---- escapes by numbers

below : (d : ℕ) → nat_lt d 16 ≡ true → d < 16
below d h = grind (arith, nat_tests)

not_that : (d : ℕ) → d < 16 → (d == 16) ≡ false
not_that d h = grind (arith, nat_tests)

escape_x : (fs : List Frame) (t : Folding) (r : Role) (begun at : ℕ) (rest : List ℕ) → taken fs (InEscape t r begun) at 120 rest ≡ Ok (front fs (InDigits t r begun 2 0))
unfolding taken in_escape
escape_x fs t r begun at rest = refl

escape_u : (fs : List Frame) (t : Folding) (r : Role) (begun at : ℕ) (rest : List ℕ) → taken fs (InEscape t r begun) at 117 rest ≡ Ok (front fs (InDigits t r begun 4 0))
unfolding taken in_escape
escape_u fs t r begun at rest = refl

-- nothing is lost
pub whole_number : (n d : ℕ) → n < 4096 → d < 16 → (n * 16 + d) % 65536 ≡ n * 16 + d
whole_number n d a b = mod-eq_of_lt (let l : n * 16 + d < 65536 = omega arith in l)

digit_taken : (fs : List Frame) (t : Folding) (r : Role) (begun left next n m at c : ℕ) (rest : List ℕ) → nat_le left 1 ≡ false → left - 1 ≡ next → n < 4096 → digit c < 16 → with_digit n c ≡ m
    → taken fs (InDigits t r begun left n) at c rest ≡ Ok (front fs (InDigits t r begun next m))
unfolding taken in_digits
digit_taken fs t r begun left next n m at c rest l k a b e = rw (not_that (digit c) b, l, whole_number n (digit c) a b, k, e) refl

last_taken : (fs : List Frame) (t : Folding) (r : Role) (begun n at c : ℕ) (rest : List ℕ) → n < 4096 → digit c < 16 → is_surrogate (with_digit n c) ≡ false
    → taken fs (InDigits t r begun 1 n) at c rest ≡ Ok (front fs (InDouble (put t (with_digit n c)) r begun))
unfolding taken in_digits
last_taken fs t r begun n at c rest a b s = rw (not_that (digit c) b, whole_number n (digit c) a b, s) refl

digit_goes : (fs : List Frame) (t : Folding) (r : Role) (begun left next n m at c : ℕ) (rest : List ℕ) → nat_le left 1 ≡ false → left - 1 ≡ next → n < 4096 → is_hex c ≡ true → with_digit n c ≡ m
    → line_walk (front fs (InDigits t r begun left n)) at (c ∷ rest) ≡ line_walk (front fs (InDigits t r begun next m)) (at + len_utf8 c) rest
digit_goes fs t r begun left next n m at c rest l k a h e =
    goes fs (InDigits t r begun left n) (front fs (InDigits t r begun next m)) at c rest (digit_taken fs t r begun left next n m at c (with_returns rest) l k a (below (digit c) h) e)

zero_more : (d : ℕ) → 0 * 16 + d ≡ d
zero_more d = omega arith

pub first_digit : (c : ℕ) → with_digit 0 c ≡ digit c
first_digit c = zero_more (digit c)

last_goes : (fs : List Frame) (t : Folding) (r : Role) (begun n at c : ℕ) (rest : List ℕ) → n < 4096 → is_hex c ≡ true → is_surrogate (with_digit n c) ≡ false
    → line_walk (front fs (InDigits t r begun 1 n)) at (c ∷ rest) ≡ line_walk (front fs (InDouble (put t (with_digit n c)) r begun)) (at + len_utf8 c) rest
last_goes fs t r begun n at c rest a h s =
    goes fs (InDigits t r begun 1 n) (front fs (InDouble (put t (with_digit n c)) r begun)) at c rest (last_taken fs t r begun n at c (with_returns rest) a (below (digit c) h) s)

no_surrogate : (n : ℕ) → n < 256 → is_surrogate n ≡ false
no_surrogate n h = grind (arith, nat_tests)

digits_number : (a b : ℕ) → a < 16 → b < 16 → a * 16 + b < 256
digits_number a b h g = omega arith

digits_small : (n b : ℕ) → n < 256 → b < 16 → n * 16 + b < 4096
digits_small n b h g = omega arith

below_more : (n : ℕ) → n < 16 → n < 4096
below_more n h = omega arith

below_least : (n : ℕ) → n < 256 → n < 4096
below_least n h = omega arith

two_go : (fs : List Frame) (t : Folding) (r : Role) (begun at a b : ℕ) (rest : List ℕ) → is_inner_quoted (ByTwo a b) ≡ true
    → line_walk (front fs (InDouble t r begun)) at (spell_inner (ByTwo a b) ++ rest) ≡ line_walk (front fs (InDouble (put t (by_two a b)) r begun)) (past at (spell_inner (ByTwo a b))) rest
two_go fs t r begun at a b rest h =
    let p : (is_hex a ≡ true) × (is_hex b ≡ true) = and_parts _ _ h in
    let x : digit a < 16 = below (digit a) p.0 in
    let y : digit b < 16 = below (digit b) p.1 in
    let s : is_surrogate (with_digit (digit a) b) ≡ false = no_surrogate (with_digit (digit a) b) (digits_number (digit a) (digit b) x y) in
    goes fs (InDouble t r begun) (front fs (InEscape t r begun)) at 92 (120 ∷ a ∷ b ∷ rest) (backslash fs t r begun at (with_returns (120 ∷ a ∷ b ∷ rest)))
    ∙ (goes fs (InEscape t r begun) (front fs (InDigits t r begun 2 0)) (at + 1) 120 (a ∷ b ∷ rest) (escape_x fs t r begun (at + 1) (with_returns (a ∷ b ∷ rest)))
    ∙ (digit_goes fs t r begun 2 1 0 (digit a) (at + 1 + 1) a (b ∷ rest) refl refl (lit< tt) p.0 (first_digit a)
    ∙ last_goes fs t r begun (digit a) (at + 1 + 1 + len_utf8 a) b rest (below_more (digit a) x) p.1 s))

four_go : (fs : List Frame) (t : Folding) (r : Role) (begun at a b c d : ℕ) (rest : List ℕ) → is_inner_quoted (ByFour a b c d) ≡ true
    → line_walk (front fs (InDouble t r begun)) at (spell_inner (ByFour a b c d) ++ rest) ≡ line_walk (front fs (InDouble (put t (by_four a b c d)) r begun)) (past at (spell_inner (ByFour a b c d))) rest
four_go fs t r begun at a b c d rest h =
    let k = and_parts _ _ h in
    let l = and_parts _ _ k.0 in
    let m = and_parts _ _ l.0 in
    let p : (is_hex a ≡ true) × (is_hex b ≡ true) = and_parts _ _ m.0 in
    let x : digit a < 16 = below (digit a) p.0 in
    let y : digit b < 16 = below (digit b) p.1 in
    let z : digit c < 16 = below (digit c) m.1 in
    let one : ℕ = with_digit (digit a) b in
    let two : ℕ = with_digit one c in
    let u : one < 256 = digits_number (digit a) (digit b) x y in
    let v : two < 4096 = digits_small one (digit c) u z in
    goes fs (InDouble t r begun) (front fs (InEscape t r begun)) at 92 (117 ∷ a ∷ b ∷ c ∷ d ∷ rest) (backslash fs t r begun at (with_returns (117 ∷ a ∷ b ∷ c ∷ d ∷ rest)))
    ∙ (goes fs (InEscape t r begun) (front fs (InDigits t r begun 4 0)) (at + 1) 117 (a ∷ b ∷ c ∷ d ∷ rest) (escape_u fs t r begun (at + 1) (with_returns (a ∷ b ∷ c ∷ d ∷ rest)))
    ∙ (digit_goes fs t r begun 4 3 0 (digit a) (at + 1 + 1) a (b ∷ c ∷ d ∷ rest) refl refl (lit< tt) p.0 (first_digit a)
    ∙ (digit_goes fs t r begun 3 2 (digit a) one (at + 1 + 1 + len_utf8 a) b (c ∷ d ∷ rest) refl refl (below_more (digit a) x) p.1 refl
    ∙ (digit_goes fs t r begun 2 1 one two (at + 1 + 1 + len_utf8 a + len_utf8 b) c (d ∷ rest) refl refl (below_least one u) m.1 refl
    ∙ last_goes fs t r begun two (at + 1 + 1 + len_utf8 a + len_utf8 b + len_utf8 c) d rest v l.1 (not_true _ k.1)))))

-- ---- what is between double quotes

-- a text of several lines is no key
abbrev pub role_by : Bool → Role → Role
role_by true r = ValueOnly
role_by false r = r

abbrev pub role_then : {X : Type 0} → (X → Bool) → Role → List X → Role
role_then f r [] = r
role_then f r (x ∷ xs) = role_then f (role_by (f x) r) xs

by_value : (b : Bool) (r : Role) → is_key_only r ≡ false → is_key_only (role_by b r) ≡ false
by_value true r h = refl
by_value false r h = h

pub value_then : {X : Type 0} (f : X → Bool) (xs : List X) (r : Role) → is_key_only r ≡ false → is_key_only (role_then f r xs) ≡ false
value_then f [] r h = h
value_then f (x ∷ xs) r h = value_then f xs (role_by (f x) r) (by_value (f x) r h)

neither : (a b : Bool) → (a || b) ≡ false → (a ≡ false) × (b ≡ false)
neither true b h = cc
neither false b h = (refl, h)

pub same_then : {X : Type 0} (f : X → Bool) (xs : List X) (r : Role) → list_any f xs ≡ false → role_then f r xs ≡ r
same_then f [] r h = refl
same_then f (x ∷ xs) r h =
    let p : (f x ≡ false) × (list_any f xs ≡ false) = neither (f x) (list_any f xs) h in
    ap (λ (q : Role). role_then f q xs) (ap (λ (b : Bool). role_by b r) p.0) ∙ same_then f xs r p.1

-- the role of these may be that of a text of several lines, if they have one
abbrev pub MayEnd : {X : Type 0} → (X → Bool) → Role → List X → Type 0
MayEnd f r xs = list_any f xs ≡ true → is_key_only r ≡ false

first_end : {X : Type 0} (f : X → Bool) (r : Role) (x : X) (xs : List X) → MayEnd f r (x ∷ xs) → f x ≡ true → is_key_only r ≡ false
first_end f r x xs m e = m (rw e refl)

by_cases : (a b : Bool) (r : Role) → ((a || b) ≡ true → is_key_only r ≡ false) → b ≡ true → is_key_only (role_by a r) ≡ false
by_cases true b r m e = refl
by_cases false b r m e = m e

more_ends : {X : Type 0} (f : X → Bool) (r : Role) (x : X) (xs : List X) → MayEnd f r (x ∷ xs) → MayEnd f (role_by (f x) r) xs
more_ends f r x xs m = λ e. by_cases (f x) (list_any f xs) r m e

escaped_by : (fs : List Frame) (t u : Folding) (r q : Role) (begun at c : ℕ) (rest : List ℕ)
    → taken fs (InEscape t r begun) (at + 1) c (with_returns rest) ≡ Ok (front fs (InDouble u q begun))
    → line_walk (front fs (InDouble t r begun)) at (92 ∷ c ∷ rest) ≡ line_walk (front fs (InDouble u q begun)) (past at (92 ∷ c ∷ [])) rest
escaped_by fs t u r q begun at c rest e =
    goes fs (InDouble t r begun) (front fs (InEscape t r begun)) at 92 (c ∷ rest) (backslash fs t r begun at (with_returns (c ∷ rest))) ∙ goes fs (InEscape t r begun) (front fs (InDouble u q begun)) (at + 1) c rest e

inner_goes : (x : Inner) (fs : List Frame) (t : Folding) (r : Role) (begun at : ℕ) (rest : List ℕ) → is_inner_quoted x ≡ true → (is_line_end x ≡ true → is_key_only r ≡ false)
    → line_walk (front fs (InDouble t r begun)) at (spell_inner x ++ rest) ≡ line_walk (front fs (InDouble (with_inner t x) (role_by (is_line_end x) r) begun)) (past at (spell_inner x)) rest
inner_goes (Itself c) fs t r begun at rest h k =
    let f : ItselfFacts c = itself_facts c h in
    goes fs (InDouble t r begun) (front fs (InDouble (with_solid t c) r begun)) at c rest (itself_char fs t r begun at c (with_returns rest) f)
inner_goes (Escaped c) fs t r begun at rest h k =
    let f : EscapeFacts c = escape_facts c h in
    escaped_by fs t (put t (escaped c)) r r begun at c rest (escape_char fs t r begun (at + 1) c (with_returns rest) f)
inner_goes (ByTwo a b) fs t r begun at rest h k = two_go fs t r begun at a b rest h
inner_goes (ByFour a b c d) fs t r begun at rest h k = four_go fs t r begun at a b c d rest h
inner_goes LineEnd fs t r begun at rest h k = goes fs (InDouble t r begun) (front fs (InDouble (end_line t) ValueOnly begun)) at 10 rest (line_char fs t r begun at (with_returns rest) (k refl))
inner_goes Joined fs t r begun at rest h k = escaped_by fs t (join_line t) r ValueOnly begun at 10 rest (joined_char fs t r begun (at + 1) (with_returns rest) (k refl))

inners_go : (xs : List Inner) (fs : List Frame) (t : Folding) (r : Role) (begun at : ℕ) (rest : List ℕ) → list_all is_inner_quoted xs ≡ true → MayEnd is_line_end r xs
    → line_walk (front fs (InDouble t r begun)) at (spell_inners xs ++ rest) ≡ line_walk (front fs (InDouble (with_inners t xs) (role_then is_line_end r xs) begun)) (past at (spell_inners xs)) rest
inners_go [] fs t r begun at rest a m = refl
inners_go (x ∷ xs) fs t r begun at rest a m =
    let h : (is_inner_quoted x ≡ true) × (list_all is_inner_quoted xs ≡ true) = and_parts _ _ a in
    let u : Folding = with_inner t x in
    let q : Role = role_by (is_line_end x) r in
    let i : Front = front fs (InDouble (with_inners u xs) (role_then is_line_end q xs) begun) in
    ap (λ zs. line_walk (front fs (InDouble t r begun)) at zs) (append_assoc (spell_inner x) (spell_inners xs) rest)
    ∙ (inner_goes x fs t r begun at (spell_inners xs ++ rest) h.0 (first_end is_line_end r x xs m)
    ∙ (inners_go xs fs u q begun (past at (spell_inner x)) rest h.1 (more_ends is_line_end r x xs m) ∙ ap (λ p. line_walk i p rest) (sym (past_append (spell_inner x) (spell_inners xs) at))))

closing : (fs : List Frame) (t : Folding) (r : Role) (begun at : ℕ) (rest : List ℕ) → taken fs (InDouble t r begun) at 34 rest ≡ Ok (front fs (AfterQuoted (caught_up t) r begun false))
unfolding taken in_double
closing fs t r begun at rest = refl

-- from after the opening quote to after the closing one
pub quoted_goes : (xs : List Inner) (fs : List Frame) (r : Role) (begun at : ℕ) (rest : List ℕ) → list_all is_inner_quoted xs ≡ true → MayEnd is_line_end r xs
    → line_walk (front fs (InDouble nothing_yet r begun)) at ((spell_inners xs ++ 34 ∷ []) ++ rest)
    ≡ line_walk (front fs (AfterQuoted (double_text xs) (role_then is_line_end r xs) begun false)) (past at (spell_inners xs ++ 34 ∷ [])) rest
quoted_goes xs fs r begun at rest a m =
    let t : Folding = with_inners nothing_yet xs in
    let q : Role = role_then is_line_end r xs in
    let p : ℕ = past at (spell_inners xs) in
    let g : Front = front fs (AfterQuoted (caught_up t) q begun false) in
    ap (λ zs. line_walk (front fs (InDouble nothing_yet r begun)) at zs) (append_assoc (spell_inners xs) (34 ∷ []) rest)
    ∙ (inners_go xs fs nothing_yet r begun at (34 ∷ rest) a m
    ∙ (goes fs (InDouble t q begun) g p 34 rest (closing fs t q begun p (with_returns rest)) ∙ ap (λ k. line_walk g k rest) (sym (past_append (spell_inners xs) (34 ∷ []) at))))

-- ---- what is between single quotes

single_char : (fs : List Frame) (t : Folding) (r : Role) (begun at c : ℕ) (rest : List ℕ) → (c == 39) ≡ false → (c == 10) ≡ false
    → taken fs (InSingle t r begun) at c rest ≡ Ok (front fs (InSingle (with_solid t c) r begun))
unfolding taken in_single
single_char fs t r begun at c rest q f = rw (q, f) (elim (cases_Bool (is_blank c)) [ inl h ↦ rw h refl | inr h ↦ rw h refl ])

single_feed : (fs : List Frame) (t : Folding) (r : Role) (begun at : ℕ) (rest : List ℕ) → is_key_only r ≡ false
    → taken fs (InSingle t r begun) at 10 rest ≡ Ok (front fs (InSingle (end_line t) ValueOnly begun))
unfolding taken in_single
single_feed fs t r begun at rest k = rw k refl

first_quote : (fs : List Frame) (t : Folding) (r : Role) (begun at : ℕ) (rest : List ℕ) → taken fs (InSingle t r begun) at 39 (39 ∷ rest) ≡ Ok (front fs (AtSecondQuote t r begun))
unfolding taken in_single
first_quote fs t r begun at rest = refl

second_quote : (fs : List Frame) (t : Folding) (r : Role) (begun at c : ℕ) (rest : List ℕ) → taken fs (AtSecondQuote t r begun) at c rest ≡ Ok (front fs (InSingle (put t c) r begun))
unfolding taken at_second_quote
second_quote fs t r begun at c rest = refl

single_closing : (fs : List Frame) (t : Folding) (r : Role) (begun at : ℕ) (rest : List ℕ) → begins_with 39 rest ≡ false → taken fs (InSingle t r begun) at 39 rest ≡ Ok (front fs (AfterQuoted (caught_up t) r begun false))
unfolding taken in_single
single_closing fs t r begun at rest h = rw h refl

-- a character as it is spelled
abbrev spell_one : ℕ → List ℕ
spell_one c = if c == 39 then 39 ∷ 39 ∷ [] else c ∷ []

one_goes : (c : ℕ) (fs : List Frame) (t : Folding) (r : Role) (begun at : ℕ) (rest : List ℕ) → ((c == 10) ≡ true → is_key_only r ≡ false)
    → line_walk (front fs (InSingle t r begun)) at (spell_one c ++ rest) ≡ line_walk (front fs (InSingle (with_char t c) (role_by (c == 10) r) begun)) (past at (spell_one c)) rest
one_goes c fs t r begun at rest k =
    let P : ℕ → Type 0 = λ d. line_walk (front fs (InSingle t r begun)) at (spell_one d ++ rest) ≡ line_walk (front fs (InSingle (with_char t d) (role_by (d == 10) r) begun)) (past at (spell_one d)) rest in
    elim (cases_Bool (c == 39)) [
      | inl q ↦ subst P (is_that c 39 q) (goes fs (InSingle t r begun) (front fs (AtSecondQuote t r begun)) at 39 (39 ∷ rest) (first_quote fs t r begun at (with_returns rest))
          ∙ goes fs (AtSecondQuote t r begun) (front fs (InSingle (put t 39) r begun)) (at + 1) 39 rest (second_quote fs t r begun (at + 1) 39 (with_returns rest)))
      | inr q ↦ elim (cases_Bool (c == 10)) [
        | inl e ↦ subst P (is_that c 10 e) (goes fs (InSingle t r begun) (front fs (InSingle (end_line t) ValueOnly begun)) at 10 rest (single_feed fs t r begun at (with_returns rest) (k e)))
        | inr e ↦ rw (q, e) (goes fs (InSingle t r begun) (front fs (InSingle (with_solid t c) r begun)) at c rest (single_char fs t r begun at c (with_returns rest) q e))
      ]
    ]

singles_go : (cs : List ℕ) (fs : List Frame) (t : Folding) (r : Role) (begun at : ℕ) (rest : List ℕ) → MayEnd is_feed r cs
    → line_walk (front fs (InSingle t r begun)) at (spell_singles cs ++ rest) ≡ line_walk (front fs (InSingle (with_chars t cs) (role_then is_feed r cs) begun)) (past at (spell_singles cs)) rest
singles_go [] fs t r begun at rest m = refl
singles_go (c ∷ cs) fs t r begun at rest m =
    let u : Folding = with_char t c in
    let q : Role = role_by (c == 10) r in
    let i : Front = front fs (InSingle (with_chars u cs) (role_then is_feed q cs) begun) in
    ap (λ zs. line_walk (front fs (InSingle t r begun)) at zs) (append_assoc (spell_one c) (spell_singles cs) rest)
    ∙ (one_goes c fs t r begun at (spell_singles cs ++ rest) (first_end is_feed r c cs m)
    ∙ (singles_go cs fs u q begun (past at (spell_one c)) rest (more_ends is_feed r c cs m) ∙ ap (λ p. line_walk i p rest) (sym (past_append (spell_one c) (spell_singles cs) at))))

-- from after the opening quote to after the closing one, which no other follows
pub single_goes : (cs : List ℕ) (fs : List Frame) (r : Role) (begun at : ℕ) (rest : List ℕ) → MayEnd is_feed r cs → begins_with 39 (with_returns rest) ≡ false
    → line_walk (front fs (InSingle nothing_yet r begun)) at ((spell_singles cs ++ 39 ∷ []) ++ rest)
    ≡ line_walk (front fs (AfterQuoted (single_text cs) (role_then is_feed r cs) begun false)) (past at (spell_singles cs ++ 39 ∷ [])) rest
single_goes cs fs r begun at rest m h =
    let t : Folding = with_chars nothing_yet cs in
    let q : Role = role_then is_feed r cs in
    let p : ℕ = past at (spell_singles cs) in
    let g : Front = front fs (AfterQuoted (caught_up t) q begun false) in
    ap (λ zs. line_walk (front fs (InSingle nothing_yet r begun)) at zs) (append_assoc (spell_singles cs) (39 ∷ []) rest)
    ∙ (singles_go cs fs nothing_yet r begun at (39 ∷ rest) m
    ∙ (goes fs (InSingle t q begun) g p 39 rest (single_closing fs t q begun p (with_returns rest) h) ∙ ap (λ k. line_walk g k rest) (sym (past_append (spell_singles cs) (39 ∷ []) at))))
