-- A name is read back from its spelling.
use Rattle.std.proofs.Common.{◌≡◌, ℕ, zero, suc, ◌/◌, ◌%◌, ◌<◌, Bool, true, false, not, List, [], ◌∷◌, ◌++◌, ◌&&◌, ◌||◌, nat_eq, nat_le, nat_lt, refl, sym, ap, ◌∙◌, arith, inl, inr, codes, append_assoc, if◌then◌else◌}
use Rattle.std.specs.Prelude.{decimal}
use Rattle.std.specs.List.{flat_map}
use Rattle.std.specs.Fmt.{digits_onto, digit_glyph, digits}
use Rattle.std.specs.Str.{bytes_eq}
use Rattle.std.proofs.lemmas.Bool.{cases_Bool, and_parts, or_cases, not-true}
use Rattle.std.proofs.lemmas.List.{append-nil}
use Rattle.edt_base.specs.Forms.{form_of, form_char, form_byte}
use Rattle.dt_names.specs.Names.{NamePart, marker, word, behind_marker, name_parts}
use Rattle.dt_names.specs.Pieces.{PieceData, lit, form, str, num, spell, spells}

-- ---- reading

abbrev pub is_capital : ℕ → Bool
is_capital c = nat_le 65 c && nat_le c 90

abbrev pub begins_capital : List ℕ → Bool
begins_capital [] = false
begins_capital (c ∷ cs) = is_capital c

-- a character more at the front of the first part
abbrev pub with_char : ℕ → List NamePart → List NamePart
with_char c [] = []
with_char c (marker t ∷ ps) = marker (c ∷ t) ∷ ps
with_char c (word w ∷ ps) = word (c ∷ w) ∷ ps

abbrev pub with_text : List ℕ → List NamePart → List NamePart
with_text [] ps = ps
with_text (c ∷ cs) ps = with_char c (with_text cs ps)

abbrev pub no_more : Bool → List NamePart
no_more false = marker [] ∷ []
no_more true = word [] ∷ []

-- within a word or not: a `_` before a capital begins a marker, and another `_` of a marker ends it
abbrev pub read : Bool → List ℕ → List NamePart
read within [] = no_more within
read false (c ∷ cs) = with_char c (if nat_eq c 95 && not (begins_capital cs) then marker [] ∷ read true cs else read false cs)
read true (c ∷ cs) = if nat_eq c 95 && begins_capital cs then word [] ∷ with_char c (read false cs) else with_char c (read true cs)

-- ---- markers

abbrev pub is_none : List ℕ → Bool
is_none [] = true
is_none (c ∷ cs) = false

-- a marker that ends with a capital, and one that ends with `_`; each other `_` stands before a capital
abbrev pub is_whole : List ℕ → Bool
is_whole [] = false
is_whole (c ∷ cs) = if nat_eq c 95 then begins_capital cs && is_whole cs else is_none cs || is_whole cs

abbrev pub is_open : List ℕ → Bool
is_open [] = false
is_open (c ∷ cs) = if nat_eq c 95 then is_none cs || (begins_capital cs && is_open cs) else is_open cs

capital_on : (cs rest : List ℕ) → begins_capital cs ≡ true → begins_capital (cs ++ rest) ≡ true
capital_on [] rest h = absurd (cc)
capital_on (c ∷ cs) rest h = h

read_whole : (t rest : List ℕ) → is_whole t ≡ true → read false (t ++ rest) ≡ with_text t (read false rest)
read_whole [] rest h = absurd (cc)
read_whole (c ∷ []) rest h = elim (cases_Bool (nat_eq c 95)) [
  | inl e ↦ let k : false ≡ true = rw e at h in absurd (cc)
  | inr e ↦ rw e refl
]
read_whole (c ∷ d ∷ ds) rest h = elim (cases_Bool (nat_eq c 95)) [
  | inl e ↦
      let k : (is_capital d && is_whole (d ∷ ds)) ≡ true = rw e at h in
      let p : (is_capital d ≡ true) × (is_whole (d ∷ ds) ≡ true) = and_parts _ _ k in
      rw (e, p.0) (ap (with_char c) (read_whole (d ∷ ds) rest p.1))
  | inr e ↦
      let k : is_whole (d ∷ ds) ≡ true = rw e at h in
      rw e (ap (with_char c) (read_whole (d ∷ ds) rest k))
]

read_open : (t rest : List ℕ) → is_open t ≡ true → begins_capital rest ≡ false → read false (t ++ rest) ≡ with_text t (marker [] ∷ read true rest)
read_open [] rest h n = absurd (cc)
read_open (c ∷ []) rest h n = elim (cases_Bool (nat_eq c 95)) [
  | inl e ↦ rw (e, n) refl
  | inr e ↦ let k : false ≡ true = rw e at h in absurd (cc)
]
read_open (c ∷ d ∷ ds) rest h n = elim (cases_Bool (nat_eq c 95)) [
  | inl e ↦
      let k : (is_capital d && is_open (d ∷ ds)) ≡ true = rw e at h in
      let p : (is_capital d ≡ true) × (is_open (d ∷ ds) ≡ true) = and_parts _ _ k in
      rw (e, p.0) (ap (with_char c) (read_open (d ∷ ds) rest p.1 n))
  | inr e ↦
      let k : is_open (d ∷ ds) ≡ true = rw e at h in
      rw e (ap (with_char c) (read_open (d ∷ ds) rest k n))
]

text_marker : (t u : List ℕ) (ps : List NamePart) → with_text t (marker u ∷ ps) ≡ marker (t ++ u) ∷ ps
text_marker [] u ps = refl
text_marker (c ∷ cs) u ps = ap (with_char c) (text_marker cs u ps)

text_word : (t u : List ℕ) (ps : List NamePart) → with_text t (word u ∷ ps) ≡ word (t ++ u) ∷ ps
text_word [] u ps = refl
text_word (c ∷ cs) u ps = ap (with_char c) (text_word cs u ps)

-- ---- words

-- no capital is in it
abbrev pub is_low : List ℕ → Bool
is_low [] = true
is_low (c ∷ cs) = not (is_capital c) && is_low cs

-- the end, or a marker
abbrev pub ends_word : List ℕ → Bool
ends_word [] = true
ends_word (c ∷ cs) = nat_eq c 95 && begins_capital cs

low_not : (c : ℕ) → not (is_capital c) ≡ true → is_capital c ≡ false
low_not c h = elim (cases_Bool (is_capital c)) [ inl e ↦ let k : false ≡ true = rw e at h in absurd (cc) | inr e ↦ e ]

end_not_capital : (rest : List ℕ) → ends_word rest ≡ true → begins_capital rest ≡ false
end_not_capital [] h = refl
end_not_capital (c ∷ cs) h =
    let p : (nat_eq c 95 ≡ true) × (begins_capital cs ≡ true) = and_parts _ _ h in
    let e : c ≡ 95 = grind (arith, p.0) in
    rw e refl

begins_low : (w rest : List ℕ) → is_low w ≡ true → begins_capital rest ≡ false → begins_capital (w ++ rest) ≡ false
begins_low [] rest h n = n
begins_low (c ∷ cs) rest h n =
    let p : (not (is_capital c) ≡ true) × (is_low cs ≡ true) = and_parts _ _ h in low_not c p.0

and_false : (x y : Bool) → y ≡ false → (x && y) ≡ false
and_false true y h = h
and_false false y h = refl

read_word : (w rest : List ℕ) → is_low w ≡ true → begins_capital rest ≡ false → read true (w ++ rest) ≡ with_text w (read true rest)
read_word [] rest h n = refl
read_word (c ∷ cs) rest h n =
    let p : (not (is_capital c) ≡ true) × (is_low cs ≡ true) = and_parts _ _ h in
    rw (and_false (nat_eq c 95) (begins_capital (cs ++ rest)) (begins_low cs rest p.1 n)) (ap (with_char c) (read_word cs rest p.1 n))

-- behind a word
read_end : (c : ℕ) (cs : List ℕ) → ends_word (c ∷ cs) ≡ true → read true (c ∷ cs) ≡ word [] ∷ read false (c ∷ cs)
read_end c cs h =
    let p : (nat_eq c 95 ≡ true) × (begins_capital cs ≡ true) = and_parts _ _ h in
    rw (p.0, p.1) refl

-- ---- forms and decimals have no capital

form_byte_low : (c : ℕ) → is_capital (form_byte c) ≡ false
form_byte_low c = elim (cases_Bool (nat_le 65 c && nat_le c 90)) [
  | inl e ↦ rw e (grind (arith, e))
  | inr e ↦ rw e (elim (cases_Bool ((nat_le 97 c && nat_le c 122) || (nat_le 48 c && nat_le c 57))) [ inl f ↦ rw f e | inr f ↦ rw f refl ])
]

low_append : (a b : List ℕ) → is_low a ≡ true → is_low b ≡ true → is_low (a ++ b) ≡ true
low_append [] b h k = k
low_append (c ∷ cs) b h k =
    let p : (not (is_capital c) ≡ true) × (is_low cs ≡ true) = and_parts _ _ h in
    rw p.0 (low_append cs b p.1 k)

form_char_low : (c : ℕ) → is_low (form_char c) ≡ true
form_char_low c = elim (cases_Bool (nat_lt c 128)) [
  | inl e ↦ rw (e, form_byte_low c) refl
  | inr e ↦ rw e (elim (cases_Bool (nat_lt c 192)) [ inl f ↦ rw f refl | inr f ↦ rw f refl ])
]

chars_low : (t : List ℕ) → is_low (flat_map form_char t) ≡ true
chars_low [] = refl
chars_low (c ∷ cs) = low_append (form_char c) (flat_map form_char cs) (form_char_low c) (chars_low cs)

pub form_low : (t : List ℕ) → is_low (form_of t) ≡ true
unfolding form_of
form_low t = chars_low t

glyph_low : (d : ℕ) → is_capital (digit_glyph false d) ≡ false
glyph_low d = elim (cases_Bool (nat_lt d 10)) [ inl e ↦ rw e (grind (arith, e)) | inr e ↦ rw e (grind (arith, e)) ]

digits_low : (k n : ℕ) (acc : List ℕ) → is_low acc ≡ true → is_low (digits_onto k 10 false n acc) ≡ true
digits_low zero n acc h = h
digits_low (suc k) n acc h =
    let g : is_low (digit_glyph false (n % 10) ∷ acc) ≡ true = rw (glyph_low (n % 10)) h in
    elim (cases_Bool (nat_eq (n / 10) 0)) [ inl e ↦ rw e g | inr e ↦ rw e (digits_low k (n / 10) (digit_glyph false (n % 10) ∷ acc) g) ]

pub decimal_low : (n : ℕ) → is_low (decimal n) ≡ true
unfolding digits
decimal_low n = digits_low 64 n [] refl

-- ---- names

-- what may come next: the rest of a marker, a word, or what stands behind a word
pub data Place : Type 0 where
  within : Place
  word_next : Place
  behind : Place

abbrev pub begins_marker : List ℕ → Bool
begins_marker [] = false
begins_marker (c ∷ cs) = nat_eq c 95 && begins_capital cs

abbrev pub is_good : Place → List PieceData → Bool
is_good within [] = true
is_good within (lit t ∷ ps) = (is_whole t && is_good within ps) || (is_open t && is_good word_next ps)
is_good within (form t ∷ ps) = false
is_good within (str t ∷ ps) = false
is_good within (num n ∷ ps) = false
is_good word_next [] = false
is_good word_next (lit t ∷ ps) = false
is_good word_next (form t ∷ ps) = is_good behind ps
is_good word_next (str t ∷ ps) = false
is_good word_next (num n ∷ ps) = is_good behind ps
is_good behind [] = true
is_good behind (lit t ∷ ps) = begins_marker t && ((is_whole t && is_good within ps) || (is_open t && is_good word_next ps))
is_good behind (form t ∷ ps) = false
is_good behind (str t ∷ ps) = false
is_good behind (num n ∷ ps) = false

abbrev pub IsRead : Place → List PieceData → Type 0
IsRead within ps = read false (spells ps) ≡ behind_marker [] (name_parts ps)
IsRead word_next ps = (read true (spells ps) ≡ name_parts ps) × (begins_capital (spells ps) ≡ false) × (behind_marker [] (name_parts ps) ≡ marker [] ∷ name_parts ps)
IsRead behind ps = (read true (spells ps) ≡ word [] ∷ name_parts ps) × (begins_capital (spells ps) ≡ false)

markers_join : (t : List ℕ) (qs : List NamePart) → with_text t (behind_marker [] qs) ≡ behind_marker t qs
markers_join t [] = text_marker t [] [] ∙ ap (λ (x : List ℕ). marker x ∷ []) (append-nil t)
markers_join t (marker u ∷ qs) = text_marker t u qs
markers_join t (word w ∷ qs) = text_marker t [] (word w ∷ qs) ∙ ap (λ (x : List ℕ). marker x ∷ word w ∷ qs) (append-nil t)

pub no_marker : (t : List ℕ) (qs : List NamePart) → behind_marker [] (behind_marker t qs) ≡ behind_marker t qs
no_marker t [] = refl
no_marker t (marker u ∷ qs) = refl
no_marker t (word w ∷ qs) = refl

pub spells_cons : (p : PieceData) (ps : List PieceData) → spells (p ∷ ps) ≡ spell p ++ spells ps
unfolding spells
spells_cons p ps = refl

spells_nil : spells [] ≡ []
unfolding spells
spells_nil = refl

-- a marker, and what stands behind it
lit_read : (t : List ℕ) (ps : List PieceData) → ((is_whole t && is_good within ps) || (is_open t && is_good word_next ps)) ≡ true
    → (is_good within ps ≡ true → IsRead within ps) → (is_good word_next ps ≡ true → IsRead word_next ps)
    → read false (t ++ spells ps) ≡ behind_marker t (name_parts ps)
lit_read t ps h more word_more = elim (or_cases (is_whole t && is_good within ps) (is_open t && is_good word_next ps) h) [
  | inl e ↦
      let p : (is_whole t ≡ true) × (is_good within ps ≡ true) = and_parts _ _ e in
      read_whole t (spells ps) p.0 ∙ ap (with_text t) (more p.1) ∙ markers_join t (name_parts ps)
  | inr e ↦
      let p : (is_open t ≡ true) × (is_good word_next ps ≡ true) = and_parts _ _ e in
      let w : IsRead word_next ps = word_more p.1 in
      read_open t (spells ps) p.0 w.1 ∙ ap (λ (x : List NamePart). with_text t (marker [] ∷ x)) w.0 ∙ ap (with_text t) (sym w.2) ∙ markers_join t (name_parts ps)
]

-- a word, and what stands behind it
word_read : (w : List ℕ) (ps : List PieceData) → is_low w ≡ true → IsRead behind ps
    → (read true (w ++ spells ps) ≡ word w ∷ name_parts ps) × (begins_capital (w ++ spells ps) ≡ false)
word_read w ps low b = (
  read_word w (spells ps) low b.1 ∙ ap (with_text w) b.0 ∙ text_word w [] (name_parts ps) ∙ ap (λ (x : List ℕ). word x ∷ name_parts ps) (append-nil w),
  begins_low w (spells ps) low b.1,
)

ends_before : (t rest : List ℕ) → begins_marker t ≡ true → ends_word (t ++ rest) ≡ true
ends_before [] rest h = absurd (cc)
ends_before (c ∷ []) rest h = let p : (nat_eq c 95 ≡ true) × (false ≡ true) = and_parts _ _ h in absurd (cc)
ends_before (c ∷ d ∷ ds) rest h = h

read_marker : (t rest : List ℕ) → begins_marker t ≡ true → read true (t ++ rest) ≡ word [] ∷ read false (t ++ rest)
read_marker [] rest h = absurd (cc)
read_marker (c ∷ cs) rest h = read_end c (cs ++ rest) (ends_before (c ∷ cs) rest h)

is_read : (place : Place) (ps : List PieceData) → is_good place ps ≡ true → IsRead place ps
is_read within [] h = rw spells_nil refl
is_read within (lit t ∷ ps) h =
    rw (spells_cons (lit t) ps) (lit_read t ps h (is_read within ps) (is_read word_next ps) ∙ sym (no_marker t (name_parts ps)))
is_read within (form t ∷ ps) h = absurd (cc)
is_read within (str t ∷ ps) h = absurd (cc)
is_read within (num n ∷ ps) h = absurd (cc)
is_read word_next [] h = absurd (cc)
is_read word_next (lit t ∷ ps) h = absurd (cc)
is_read word_next (form t ∷ ps) h =
    let w = word_read (form_of t) ps (form_low t) (is_read behind ps h) in
    rw (spells_cons (form t) ps) (w.0, w.1, refl)
is_read word_next (str t ∷ ps) h = absurd (cc)
is_read word_next (num n ∷ ps) h =
    let w = word_read (decimal n) ps (decimal_low n) (is_read behind ps h) in
    rw (spells_cons (num n) ps) (w.0, w.1, refl)
is_read behind [] h = rw spells_nil (refl, refl)
is_read behind (lit t ∷ ps) h =
    let p : (begins_marker t ≡ true) × (((is_whole t && is_good within ps) || (is_open t && is_good word_next ps)) ≡ true) = and_parts _ _ h in
    rw (spells_cons (lit t) ps) (
      read_marker t (spells ps) p.0 ∙ ap (λ (x : List NamePart). word [] ∷ x) (lit_read t ps p.1 (is_read within ps) (is_read word_next ps)),
      end_not_capital (t ++ spells ps) (ends_before t (spells ps) p.0),
    )
is_read behind (form t ∷ ps) h = absurd (cc)
is_read behind (str t ∷ ps) h = absurd (cc)
is_read behind (num n ∷ ps) h = absurd (cc)

-- ---- instances, whose number and word have a `_` between them

-- what stands before the first `_`, and behind it
abbrev pub before_line : List ℕ → List ℕ
before_line [] = []
before_line (c ∷ cs) = if nat_eq c 95 then [] else c ∷ before_line cs

abbrev pub behind_line : List ℕ → List ℕ
behind_line [] = []
behind_line (c ∷ cs) = if nat_eq c 95 then cs else behind_line cs

-- an instance by its number
abbrev pub is_instance : List NamePart → Bool
is_instance [] = false
is_instance (word w ∷ ps) = false
is_instance (marker m ∷ []) = false
is_instance (marker m ∷ marker n ∷ ps) = false
is_instance (marker m ∷ word w ∷ []) = bytes_eq m (codes "DT_N_INST_")
is_instance (marker m ∷ word w ∷ p ∷ ps) = false

abbrev pub parted : List NamePart → List NamePart
parted [] = []
parted (word w ∷ ps) = word w ∷ ps
parted (marker m ∷ []) = marker m ∷ []
parted (marker m ∷ marker n ∷ ps) = marker m ∷ marker n ∷ ps
parted (marker m ∷ word w ∷ []) = if bytes_eq m (codes "DT_N_INST_") then marker m ∷ word (before_line w) ∷ marker (codes "_") ∷ word (behind_line w) ∷ [] else marker m ∷ word w ∷ []
parted (marker m ∷ word w ∷ p ∷ ps) = marker m ∷ word w ∷ p ∷ ps

not_parted : (ps : List NamePart) → is_instance ps ≡ false → parted ps ≡ ps
not_parted [] h = refl
not_parted (word w ∷ ps) h = refl
not_parted (marker m ∷ []) h = refl
not_parted (marker m ∷ marker n ∷ ps) h = refl
not_parted (marker m ∷ word w ∷ []) h = rw h refl
not_parted (marker m ∷ word w ∷ p ∷ ps) h = refl

-- the parts of a name, read from its spelling
abbrev pub told : List ℕ → List NamePart
told text = parted (read false text)

-- a name is told by its spelling
abbrev pub IsTold : List PieceData → Type 0
IsTold name = told (spells name) ≡ name_parts name

-- one that begins with a marker and is no instance
pub told_marked : (t : List ℕ) (ps : List PieceData) → (is_good within (lit t ∷ ps) && not (is_instance (name_parts (lit t ∷ ps)))) ≡ true → IsTold (lit t ∷ ps)
told_marked t ps h =
    let p : (is_good within (lit t ∷ ps) ≡ true) × (not (is_instance (name_parts (lit t ∷ ps))) ≡ true) = and_parts _ _ h in
    let n : is_instance (name_parts (lit t ∷ ps)) ≡ false = not-true _ p.1 in
    let r : read false (spells (lit t ∷ ps)) ≡ behind_marker [] (name_parts (lit t ∷ ps)) = is_read within (lit t ∷ ps) p.0 in
    ap parted (r ∙ no_marker t (name_parts ps)) ∙ not_parted (name_parts (lit t ∷ ps)) n

-- no `_` is in it
abbrev pub is_unlined : List ℕ → Bool
is_unlined [] = true
is_unlined (c ∷ cs) = not (nat_eq c 95) && is_unlined cs

before_first : (w v : List ℕ) → is_unlined w ≡ true → before_line (w ++ 95 ∷ v) ≡ w
before_first [] v h = refl
before_first (c ∷ cs) v h =
    let p : (not (nat_eq c 95) ≡ true) × (is_unlined cs ≡ true) = and_parts _ _ h in
    rw (not-true _ p.0) (ap (λ (x : List ℕ). c ∷ x) (before_first cs v p.1))

behind_first : (w v : List ℕ) → is_unlined w ≡ true → behind_line (w ++ 95 ∷ v) ≡ v
behind_first [] v h = refl
behind_first (c ∷ cs) v h =
    let p : (not (nat_eq c 95) ≡ true) × (is_unlined cs ≡ true) = and_parts _ _ h in
    rw (not-true _ p.0) (behind_first cs v p.1)

glyph_unlined : (n : ℕ) → nat_eq (digit_glyph false (n % 10)) 95 ≡ false
glyph_unlined n = let h : n % 10 < 10 = omega arith in elim (cases_Bool (nat_lt (n % 10) 10)) [ inl e ↦ rw e (grind (arith, h)) | inr e ↦ absurd (grind (arith, e, h)) ]

digits_unlined : (k n : ℕ) (acc : List ℕ) → is_unlined acc ≡ true → is_unlined (digits_onto k 10 false n acc) ≡ true
digits_unlined zero n acc h = h
digits_unlined (suc k) n acc h =
    let g : is_unlined (digit_glyph false (n % 10) ∷ acc) ≡ true = rw (glyph_unlined n) h in
    elim (cases_Bool (nat_eq (n / 10) 0)) [ inl e ↦ rw e g | inr e ↦ rw e (digits_unlined k (n / 10) (digit_glyph false (n % 10) ∷ acc) g) ]

decimal_unlined : (n : ℕ) → is_unlined (decimal n) ≡ true
unfolding digits
decimal_unlined n = digits_unlined 64 n [] refl

low_line : (w : List ℕ) → is_low w ≡ true → is_low (95 ∷ w) ≡ true
low_line w h = h

pub told_instance : (i : ℕ) (c : List ℕ) → IsTold (lit (codes "DT_N_INST_") ∷ num i ∷ lit (codes "_") ∷ form c ∷ [])
told_instance i c =
    let w = decimal i ++ 95 ∷ form_of c in
    let low : is_low w ≡ true = low_append (decimal i) (95 ∷ form_of c) (decimal_low i) (form_low c) in
    let s : spells (lit (codes "DT_N_INST_") ∷ num i ∷ lit (codes "_") ∷ form c ∷ []) ≡ codes "DT_N_INST_" ++ (w ++ spells []) =
    spells_cons _ _ ∙ ap (λ (x : List ℕ). codes "DT_N_INST_" ++ x) (spells_cons _ _ ∙ ap (λ (x : List ℕ). decimal i ++ x) (spells_cons _ _ ∙ ap (λ (x : List ℕ). 95 ∷ x) (spells_cons _ _)) ∙ sym (append_assoc (decimal i) (95 ∷ form_of c) (spells []))) in
    let b : IsRead behind [] = is_read behind [] refl in
    let v = word_read w [] low b in
    let r : read false (codes "DT_N_INST_" ++ (w ++ spells [])) ≡ with_text (codes "DT_N_INST_") (marker [] ∷ read true (w ++ spells [])) = read_open (codes "DT_N_INST_") (w ++ spells []) refl v.1 in
    let q : read false (spells (lit (codes "DT_N_INST_") ∷ num i ∷ lit (codes "_") ∷ form c ∷ [])) ≡ marker (codes "DT_N_INST_") ∷ word w ∷ [] =
    ap (read false) s ∙ r ∙ ap (λ (x : List NamePart). with_text (codes "DT_N_INST_") (marker [] ∷ x)) v.0 in
    ap parted q ∙ ap (λ (x : List ℕ). marker (codes "DT_N_INST_") ∷ word x ∷ marker (codes "_") ∷ word (behind_line w) ∷ []) (before_first (decimal i) (form_of c) (decimal_unlined i))
    ∙ ap (λ (x : List ℕ). marker (codes "DT_N_INST_") ∷ word (decimal i) ∷ marker (codes "_") ∷ word x ∷ []) (behind_first (decimal i) (form_of c) (decimal_unlined i))
