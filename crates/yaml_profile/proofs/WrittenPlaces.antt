-- Fronts that differ in places alone take in the same characters, and line ends with a carriage return or without.
use Rattle.std.proofs.Common.{◌≡◌, ℕ, zero, suc, ◌+◌, ◌-◌, ◌*◌, ◌%◌, ◌<◌, ◌≤◌, Bool, true, false, not, ◌&&◌, ◌||◌, ◌==◌, nat_le, List, [], ◌∷◌, ◌++◌, codes, Some, None, Result, Ok, Err, if◌then◌else◌, refl, sym, ap, subst, ◌∙◌, arith, inl, inr}
use Rattle.std.specs.List.{list_any}
use Rattle.std.specs.Char.{len_utf8}
use Rattle.std.specs.Str.{bytes_eq}
use Rattle.std.proofs.lemmas.Bool.{and_parts, cases_Bool}
use Rattle.std.proofs.lemmas.Bool.Decides.{nat_tests}
use Rattle.std.proofs.lemmas.Str.{len_utf8_bounds}
use Rattle.edt_base.specs.YamlData.{Value, a_text, null}
use Rattle.yaml_profile.specs.declared.stop.Broken.{Broken}
use Rattle.yaml_profile.specs.declared.front.Role.{Role}
use Rattle.yaml_profile.specs.declared.front.Role.TheVariants.{Value as ValueOnly, Either, Key as KeyOnly}
use Rattle.yaml_profile.specs.Answers.{◌>>=◌}
use Rattle.yaml_profile.specs.Signs.{is_blank, begins_with, ends_word, begins_mark, is_flow_sign, is_word_sign, begins_nothing, is_digit, behind}
use Rattle.yaml_profile.specs.Scalars.{digit, scalar_of}
use Rattle.yaml_profile.specs.Folding.{Folding}
use Rattle.yaml_profile.specs.BlockText.{BlockText, first_line, begin_line, block_text}
use Rattle.yaml_profile.specs.Fronts.{Frame, InMap, InList, InFlow, Waiting, Fresh, Nothing, Going, Whole, Innermost, AtLine, AtValue, InPlain, InSingle, AtSecondQuote, InDouble, InEscape, InDigits, AfterQuoted, AfterValue, InComment, InMark, InHeader, InHeaderComment, AtTextLine, AtBlankEnd, InTextLine, Front, front, is_flow, is_deeper, is_map_at, is_full, closed, value_so_far}
use Rattle.yaml_profile.specs.Pieces.{open_list, open_flow, first_key, further_key, key_of, plain_key, is_value_only, is_key_only, after_item, end_flow, in_after_value, begin_sign, is_value_sign, begin_value, in_at_value, in_plain, in_single, at_second_quote, in_double, in_escape, in_digits, escaped, is_surrogate, in_after_quoted}
use Rattle.yaml_profile.specs.Layout.{is_dash, next_item, ends_block, next_entry, settle, is_fresh, begin_on_line, value_on_line, block_line, flow_line, line_content, in_line, in_comment, in_mark, in_header, in_header_comment, is_text_line, is_indented, ends_blank_line, at_text_line, at_blank_end, in_text_line}
use Rattle.yaml_profile.specs.Reading.{taken, step, takes_return}
use Rattle.yaml_profile.proofs.ReadSteps.{is_that}

-- ---- fronts that differ in places alone

-- the same number of characters after the start of a line
abbrev pub Placed : (s at r to n : ℕ) → Type 0
Placed s at r to n = (at ≡ s + n) × (to ≡ r + n)

abbrev pub Alike : (at to : ℕ) → Innermost → Innermost → Type 0
Alike at to (AtLine s w) j = (r : ℕ) × (n : ℕ) × (j ≡ AtLine r w) × Placed s at r to n
Alike at to (AtValue s true sp) j = (r : ℕ) × (n : ℕ) × (j ≡ AtValue r true sp) × Placed s at r to n
Alike at to (AtValue s false sp) j = (r : ℕ) × (j ≡ AtValue r false sp)
Alike at to (InPlain t r b sp) j = (d : ℕ) × (j ≡ InPlain t r d sp)
Alike at to (InSingle t r b) j = (d : ℕ) × (j ≡ InSingle t r d)
Alike at to (AtSecondQuote t r b) j = (d : ℕ) × (j ≡ AtSecondQuote t r d)
Alike at to (InDouble t r b) j = (d : ℕ) × (j ≡ InDouble t r d)
Alike at to (InEscape t r b) j = (d : ℕ) × (j ≡ InEscape t r d)
Alike at to (InDigits t r b left number) j = (d : ℕ) × (j ≡ InDigits t r d left number)
Alike at to (AfterQuoted x r b sp) j = (d : ℕ) × (j ≡ AfterQuoted x r d sp)
Alike at to (AtTextLine s b) j = (r : ℕ) × (n : ℕ) × (j ≡ AtTextLine r b) × Placed s at r to n
Alike at to i j = j ≡ i

-- so many dashes stand next
abbrev pub dashes : ℕ → List ℕ → Bool
dashes zero rest = true
dashes (suc n) [] = false
dashes (suc n) (c ∷ cs) = (c == 45) && dashes n cs

-- what can stand before these characters
abbrev pub Fits : List ℕ → Innermost → Type 0
Fits rest (InMark left) = (0 < left) × (dashes left rest ≡ true)
Fits rest (AtBlankEnd n b) = ⊥
Fits rest i = Unit {0}

-- a line of a block scalar has begun
abbrev pub Begun : (begun : Bool) → (at : ℕ) → Innermost → Type 0
Begun true at (AtTextLine s b) = s < at
Begun begun at i = Unit {0}

abbrev pub Same : (begun : Bool) → (at to : ℕ) → (rest : List ℕ) → Result Front Broken → Result Front Broken → Type 0
Same begun at to rest (Ok g) (Ok h) = (h.frames ≡ g.frames) × Alike at to g.inner h.inner × Fits rest g.inner × Begun begun at g.inner
Same begun at to rest (Ok g) (Err e) = ⊥
Same begun at to rest (Err e) (Ok h) = ⊥
Same begun at to rest (Err e) (Err g) = Unit {0}

-- after one character that ends no line
abbrev pub Goes : (at to c : ℕ) → (rest : List ℕ) → Result Front Broken → Result Front Broken → Type 0
Goes at to c rest x y = Same true (at + len_utf8 c) (to + len_utf8 c) rest x y

-- the same tests hold of what follows
pub record Ahead (rest more : List ℕ) : Type 0 where
  pub word : ends_word more ≡ ends_word rest
  pub quote : begins_with 39 more ≡ begins_with 39 rest
  pub space : begins_with 32 more ≡ begins_with 32 rest
  pub mark : (c : ℕ) → begins_mark c more ≡ begins_mark c rest

pub on_column : (s at n : ℕ) → at ≡ s + n → at - s ≡ n
on_column s at n e = omega arith

later : (s at n c : ℕ) → at ≡ s + n → at + len_utf8 c ≡ s + (n + len_utf8 c)
later s at n c e = omega arith

begun_line : (s at n c : ℕ) → at ≡ s + n → s < at + len_utf8 c
begun_line s at n c e = let l : (1 ≤ len_utf8 c) × (len_utf8 c ≤ 4) = len_utf8_bounds c in let k : 1 ≤ len_utf8 c = l.0 in omega arith

-- ---- keys

first_key_same : (at to c : ℕ) (rest : List ℕ) (fs : List Frame) (column : ℕ) (key : List ℕ) (b d : ℕ) → Goes at to c rest (first_key fs column key b) (first_key fs column key d)
first_key_same at to c rest fs column key b d = elim (cases_Bool (is_full fs)) [ inl e ↦ rw e tt | inr e ↦ rw e (refl, (0, refl), tt, tt) ]

further_key_same : (at to c : ℕ) (rest : List ℕ) (fs : List Frame) (key : List ℕ) (b d : ℕ) → Goes at to c rest (further_key fs key b) (further_key fs key d)
further_key_same at to c rest [] key b d = tt
further_key_same at to c rest (InMap column keys values ∷ fs) key b d = elim (cases_Bool (list_any (bytes_eq key) keys)) [ inl e ↦ rw e tt | inr e ↦ rw e (refl, (0, refl), tt, tt) ]
further_key_same at to c rest (InList column items ∷ fs) key b d = tt
further_key_same at to c rest (InFlow items ∷ fs) key b d = tt

key_same : (at to c : ℕ) (rest : List ℕ) (fs : List Frame) (role : Role) (key : List ℕ) (b x d y : ℕ) → Goes at to c rest (key_of fs role key b x) (key_of fs role key d y)
unfolding key_of
key_same at to c rest fs ValueOnly key b x d y = tt
key_same at to c rest fs (Either column) key b x d y = first_key_same at to c rest fs column key b d
key_same at to c rest fs KeyOnly key b x d y = further_key_same at to c rest fs key b d

plain_key_same : (at to c : ℕ) (rest : List ℕ) (fs : List Frame) (role : Role) (key : List ℕ) (b x d y : ℕ) → Goes at to c rest (plain_key fs role key b x) (plain_key fs role key d y)
unfolding plain_key
plain_key_same at to c rest fs role key b x d y = elim (cases_Bool (bytes_eq key (codes "<<") && not (is_value_only role))) [ inl e ↦ rw e tt | inr e ↦ rw e (key_same at to c rest fs role key b x d y) ]

-- ---- flow lists, and what stands after a value

after_item_same : (at to c : ℕ) (rest : List ℕ) (fs : List Frame) (v : Value) → Goes at to c rest (after_item fs v at c) (after_item fs v to c)
unfolding after_item
after_item_same at to c rest [] v = tt
after_item_same at to c rest (InMap column keys values ∷ fs) v = tt
after_item_same at to c rest (InList column items ∷ fs) v = tt
after_item_same at to c rest (InFlow items ∷ fs) v = elim (cases_Bool (c == 44)) [
  | inl e ↦ rw e (refl, (0, refl), tt, tt)
  | inr e ↦ elim (cases_Bool (c == 93)) [ inl g ↦ rw (e, g) (refl, refl, tt, tt) | inr g ↦ rw (e, g) tt ]
]

end_flow_same : (at to c : ℕ) (rest : List ℕ) (fs : List Frame) → Goes at to c rest (end_flow fs at) (end_flow fs to)
unfolding end_flow
end_flow_same at to c rest [] = tt
end_flow_same at to c rest (InMap column keys values ∷ fs) = tt
end_flow_same at to c rest (InList column items ∷ fs) = tt
end_flow_same at to c rest (InFlow items ∷ fs) = (refl, refl, tt, tt)

after_value_same : (at to c : ℕ) (rest : List ℕ) (fs : List Frame) (w : Waiting) (sp : Bool) → (c == 10) ≡ false → Goes at to c rest (in_after_value fs w sp at c) (in_after_value fs w sp to c)
unfolding in_after_value
after_value_same at to c rest fs w sp n = elim (cases_Bool (c == 32)) [
  | inl e ↦ rw e (refl, refl, tt, tt)
  | inr e ↦ elim (cases_Bool ((c == 35) && sp)) [
    | inl g ↦ rw (e, n, g) (refl, refl, tt, tt)
    | inr g ↦ rw (e, n, g) (after_item_same at to c rest fs (value_so_far w))
  ]
]

-- ---- where a value begins

open_list_same : (s at r to n c : ℕ) (rest : List ℕ) (fs : List Frame) (column : ℕ) → Placed s at r to n → Goes at to c rest (open_list fs s column at) (open_list fs r column to)
unfolding open_list
open_list_same s at r to n c rest fs column p =
    elim (cases_Bool (is_full fs)) [ inl e ↦ rw e tt | inr e ↦ rw e (refl, (r, n + len_utf8 c, refl, (later s at n c p.0, later r to n c p.1)), tt, tt) ]

open_flow_same : (at to c : ℕ) (rest : List ℕ) (fs : List Frame) → Goes at to c rest (open_flow fs at) (open_flow fs to)
unfolding open_flow
open_flow_same at to c rest fs = elim (cases_Bool (is_full fs)) [ inl e ↦ rw e tt | inr e ↦ rw e (refl, (0, refl), tt, tt) ]

begin_sign_same : (at to c : ℕ) (rest : List ℕ) (fs : List Frame) → Goes at to c rest (begin_sign fs at c) (begin_sign fs to c)
unfolding begin_sign
begin_sign_same at to c rest fs = elim (cases_Bool (c == 91)) [
  | inl e ↦ rw e (open_flow_same at to c rest fs)
  | inr e ↦ elim (cases_Bool (c == 124)) [
    | inl g ↦ elim (cases_Bool (is_flow fs)) [ inl f ↦ rw (e, g, f) tt | inr f ↦ rw (e, g, f) (refl, refl, tt, tt) ]
    | inr g ↦ elim (cases_Bool (c == 62)) [
      | inl h ↦ elim (cases_Bool (is_flow fs)) [ inl f ↦ rw (e, g, h, f) tt | inr f ↦ rw (e, g, h, f) (refl, refl, tt, tt) ]
      | inr h ↦ rw (e, g, h) tt
    ]
  ]
]

plain_begin_same : (at to c : ℕ) (rest more : List ℕ) (fs : List Frame) (role : Role) → (c == 34) ≡ false → (c == 39) ≡ false → (is_word_sign c && ends_word rest) ≡ false → Ahead rest more
    → Goes at to c rest (begin_value fs role at c rest) (begin_value fs role to c more)
unfolding begin_value
plain_begin_same at to c rest more fs role a b w h = elim (cases_Bool (is_value_sign c && not (is_key_only role))) [
  | inl e ↦ rw (a, b, h.word, w, e) (begin_sign_same at to c rest fs)
  | inr e ↦ elim (cases_Bool (is_value_sign c || begins_nothing c)) [
    | inl g ↦ rw (a, b, h.word, w, e, g) tt
    | inr g ↦ elim (cases_Bool (c == 9)) [ inl t ↦ rw (a, b, h.word, w, e, g, t) (refl, (to, refl), tt, tt) | inr t ↦ rw (a, b, h.word, w, e, g, t) (refl, (to, refl), tt, tt) ]
  ]
]

begin_value_same : (at to c : ℕ) (rest more : List ℕ) (fs : List Frame) (role : Role) → Ahead rest more → Goes at to c rest (begin_value fs role at c rest) (begin_value fs role to c more)
unfolding begin_value
begin_value_same at to c rest more fs role h = elim (cases_Bool (c == 34)) [
  | inl a ↦ rw a (refl, (to, refl), tt, tt)
  | inr a ↦ elim (cases_Bool (c == 39)) [
    | inl b ↦ rw (a, b) (refl, (to, refl), tt, tt)
    | inr b ↦ elim (cases_Bool (is_word_sign c && ends_word rest)) [
      | inl w ↦ elim (cases_Bool ((c == 63) && begins_with 32 rest)) [ inl q ↦ rw (a, b, h.word, h.space, w, q) tt | inr q ↦ rw (a, b, h.word, h.space, w, q) tt ]
      | inr w ↦ plain_begin_same at to c rest more fs role a b w h
    ]
  ]
]

at_value_same : (s at r to c : ℕ) (rest more : List ℕ) (fs : List Frame) (role : Role) (m sp : Bool) → (c == 10) ≡ false → Ahead rest more
    → Alike (at + len_utf8 c) (to + len_utf8 c) (AtValue s m true) (AtValue r m true) → at - s ≡ to - r
    → Goes at to c rest (in_at_value fs s m sp at c rest) (in_at_value fs r m sp to c more)
unfolding in_at_value
at_value_same s at r to c rest more fs role m sp n h a e = elim (cases_Bool (c == 32)) [
  | inl x ↦ rw x (refl, a, tt, tt)
  | inr x ↦ elim (cases_Bool ((c == 35) && sp)) [
    | inl y ↦ rw (x, n, y) (refl, refl, tt, tt)
    | inr y ↦ elim (cases_Bool ((c == 93) && is_flow fs)) [
      | inl z ↦ rw (x, n, y, z) (end_flow_same at to c rest fs)
      | inr z ↦ rw (x, n, y, z, e) (begin_value_same at to c rest more fs (if m then Either (to - r) else ValueOnly) h)
    ]
  ]
]

-- ---- texts

in_plain_same : (at to c : ℕ) (rest more : List ℕ) (fs : List Frame) (t : Folding) (role : Role) (b d : ℕ) (sp : Bool) → (c == 10) ≡ false → Ahead rest more
    → Goes at to c rest (in_plain fs t role b sp at c rest) (in_plain fs t role d sp to c more)
unfolding in_plain
in_plain_same at to c rest more fs t role b d sp n h = elim (cases_Bool ((c == 58) && ends_word rest)) [
  | inl e ↦ rw (h.word, e) (plain_key_same at to c rest fs role t.text b (behind at rest) d (behind to more))
  | inr e ↦ elim (cases_Bool ((c == 35) && sp)) [
    | inl g ↦ elim (cases_Bool (is_key_only role)) [ inl k ↦ rw (h.word, e, g, k) tt | inr k ↦ rw (h.word, e, g, k) (refl, refl, tt, tt) ]
    | inr g ↦ elim (cases_Bool (is_flow_sign c && is_flow fs)) [
      | inl f ↦ rw (h.word, e, g, n, f) (after_item_same at to c rest fs (scalar_of t.text))
      | inr f ↦ elim (cases_Bool (is_blank c)) [ inl k ↦ rw (h.word, e, g, n, f, k) (refl, (d, refl), tt, tt) | inr k ↦ rw (h.word, e, g, n, f, k) (refl, (d, refl), tt, tt) ]
    ]
  ]
]

in_single_same : (at to c : ℕ) (rest more : List ℕ) (fs : List Frame) (t : Folding) (role : Role) (b d : ℕ) → (c == 10) ≡ false → Ahead rest more
    → Goes at to c rest (in_single fs t role b at c rest) (in_single fs t role d to c more)
unfolding in_single
in_single_same at to c rest more fs t role b d n h = elim (cases_Bool (c == 39)) [
  | inl e ↦ elim (cases_Bool (begins_with 39 rest)) [ inl q ↦ rw (h.quote, e, q) (refl, (d, refl), tt, tt) | inr q ↦ rw (h.quote, e, q) (refl, (d, refl), tt, tt) ]
  | inr e ↦ elim (cases_Bool (is_blank c)) [ inl k ↦ rw (e, n, k) (refl, (d, refl), tt, tt) | inr k ↦ rw (e, n, k) (refl, (d, refl), tt, tt) ]
]

in_double_same : (at to c : ℕ) (rest : List ℕ) (fs : List Frame) (t : Folding) (role : Role) (b d : ℕ) → (c == 10) ≡ false → Goes at to c rest (in_double fs t role b at c) (in_double fs t role d to c)
unfolding in_double
in_double_same at to c rest fs t role b d n = elim (cases_Bool (c == 34)) [
  | inl e ↦ rw e (refl, (d, refl), tt, tt)
  | inr e ↦ elim (cases_Bool (c == 92)) [
    | inl g ↦ rw (e, g) (refl, (d, refl), tt, tt)
    | inr g ↦ elim (cases_Bool (is_blank c)) [ inl k ↦ rw (e, g, n, k) (refl, (d, refl), tt, tt) | inr k ↦ rw (e, g, n, k) (refl, (d, refl), tt, tt) ]
  ]
]

in_escape_same : (at to c : ℕ) (rest : List ℕ) (fs : List Frame) (t : Folding) (role : Role) (b d : ℕ) → (c == 10) ≡ false → Goes at to c rest (in_escape fs t role b at c) (in_escape fs t role d to c)
unfolding in_escape
in_escape_same at to c rest fs t role b d n = elim (cases_Bool (c == 120)) [
  | inl e ↦ rw e (refl, (d, refl), tt, tt)
  | inr e ↦ elim (cases_Bool (c == 117)) [
    | inl g ↦ rw (e, g) (refl, (d, refl), tt, tt)
    | inr g ↦ elim (cases_Bool (escaped c == 256)) [ inl k ↦ rw (e, g, n, k) tt | inr k ↦ rw (e, g, n, k) (refl, (d, refl), tt, tt) ]
  ]
]

in_digits_same : (at to c : ℕ) (rest : List ℕ) (fs : List Frame) (t : Folding) (role : Role) (b d left number : ℕ) → Goes at to c rest (in_digits fs t role b left number at c) (in_digits fs t role d left number to c)
unfolding in_digits
in_digits_same at to c rest fs t role b d left number = elim (cases_Bool (digit c == 16)) [
  | inl e ↦ rw e tt
  | inr e ↦ elim (cases_Bool (nat_le left 1)) [
    | inl g ↦ elim (cases_Bool (is_surrogate ((number * 16 + digit c) % 65536))) [ inl k ↦ rw (e, g, k) tt | inr k ↦ rw (e, g, k) (refl, (d, refl), tt, tt) ]
    | inr g ↦ rw (e, g) (refl, (d, refl), tt, tt)
  ]
]

after_quoted_same : (at to c : ℕ) (rest more : List ℕ) (fs : List Frame) (x : List ℕ) (role : Role) (b d : ℕ) (sp : Bool) → (c == 10) ≡ false → Ahead rest more
    → Goes at to c rest (in_after_quoted fs x role b sp at c rest) (in_after_quoted fs x role d sp to c more)
unfolding in_after_quoted
after_quoted_same at to c rest more fs x role b d sp n h = elim (cases_Bool (c == 32)) [
  | inl e ↦ rw e (refl, (d, refl), tt, tt)
  | inr e ↦ elim (cases_Bool (c == 58)) [
    | inl g ↦ elim (cases_Bool (ends_word rest || is_value_only role)) [ inl k ↦ rw (h.word, e, g, k) (key_same at to c rest fs role x b at d to) | inr k ↦ rw (h.word, e, g, k) tt ]
    | inr g ↦ elim (cases_Bool (is_key_only role)) [ inl k ↦ rw (e, g, k) tt | inr k ↦ rw (e, g, k) (after_value_same at to c rest fs (Whole (a_text x)) sp n) ]
  ]
]

-- ---- the starts of lines

next_item_same : (s at r to n c : ℕ) (rest more : List ℕ) (fs : List Frame) (column : ℕ) (items : List Value) → Placed s at r to n → Ahead rest more
    → Goes at to c rest (next_item fs column items s at c rest) (next_item fs column items r to c more)
unfolding next_item
next_item_same s at r to n c rest more fs column items p h = elim (cases_Bool ((c == 45) && ends_word rest)) [
  | inl e ↦ rw (h.word, e) (refl, (r, n + len_utf8 c, refl, (later s at n c p.0, later r to n c p.1)), tt, tt)
  | inr e ↦ elim (cases_Bool (c == 45)) [ inl g ↦ rw (h.word, e, g) tt | inr g ↦ rw (h.word, e, g) tt ]
]

next_entry_same : (f : Frame) (s at r to n c : ℕ) (rest more : List ℕ) (fs : List Frame) (v : Value) → Placed s at r to n → Ahead rest more
    → Goes at to c rest (next_entry f fs v s at c rest) (next_entry f fs v r to c more)
unfolding next_entry
next_entry_same (InMap own keys values) s at r to n c rest more fs v p h =
    let a : at - s ≡ n = on_column s at n p.0 in
    let b : to - r ≡ n = on_column r to n p.1 in
    elim (cases_Bool (own == n)) [
      | inl e ↦ rw (a, b, e) (begin_value_same at to c rest more (InMap own keys (values ++ v ∷ []) ∷ fs) KeyOnly h)
      | inr e ↦ rw (a, b, e) tt
    ]
next_entry_same (InList own items) s at r to n c rest more fs v p h =
    let a : at - s ≡ n = on_column s at n p.0 in
    let b : to - r ≡ n = on_column r to n p.1 in
    elim (cases_Bool (own == n)) [
      | inl e ↦ rw (a, b, e) (next_item_same s at r to n c rest more fs own (items ++ v ∷ []) p h)
      | inr e ↦ rw (a, b, e) tt
    ]
next_entry_same (InFlow items) s at r to n c rest more fs v p h = tt

dash_same : (c : ℕ) (rest more : List ℕ) → Ahead rest more → is_dash c more ≡ is_dash c rest
dash_same c rest more h = ap (λ (w : Bool). (c == 45) && w) h.word

settle_same : (fs : List Frame) (s at r to n c : ℕ) (rest more : List ℕ) (v : Value) → Placed s at r to n → Ahead rest more
    → Goes at to c rest (settle fs v s at c rest) (settle fs v r to c more)
unfolding settle
settle_same [] s at r to n c rest more v p h = tt
settle_same (f ∷ fs) s at r to n c rest more v p h =
    let a : at - s ≡ n = on_column s at n p.0 in
    let b : to - r ≡ n = on_column r to n p.1 in
    elim (cases_Bool (ends_block f fs n (is_dash c rest))) [
      | inl e ↦ rw (a, b, h.word, e) (settle_same fs s at r to n c rest more (closed f v) p h)
      | inr e ↦ rw (a, b, h.word, e) (next_entry_same f s at r to n c rest more fs v p h)
    ]

on_line_same : (s at r to n c : ℕ) (rest more : List ℕ) (fs : List Frame) → Placed s at r to n → Ahead rest more
    → Goes at to c rest (begin_on_line fs s at c rest) (begin_on_line fs r to c more)
unfolding begin_on_line
on_line_same s at r to n c rest more fs p h =
    let a : at - s ≡ n = on_column s at n p.0 in
    let b : to - r ≡ n = on_column r to n p.1 in
    elim (cases_Bool ((c == 45) && ends_word rest)) [
      | inl e ↦ rw (a, b, h.word, e) (open_list_same s at r to n c rest fs n p)
      | inr e ↦ rw (a, b, h.word, e) (begin_value_same at to c rest more fs (Either n) h)
    ]

value_on_line_same : (s at r to n c : ℕ) (rest more : List ℕ) (fs : List Frame) → Placed s at r to n → Ahead rest more
    → Goes at to c rest (value_on_line fs s at c rest) (value_on_line fs r to c more)
unfolding value_on_line
value_on_line_same s at r to n c rest more fs p h =
    let a : at - s ≡ n = on_column s at n p.0 in
    let b : to - r ≡ n = on_column r to n p.1 in
    elim (cases_Bool (is_deeper n fs)) [
      | inl e ↦ rw (a, b, e) (on_line_same s at r to n c rest more fs p h)
      | inr e ↦ elim (cases_Bool (is_map_at n fs && is_dash c rest)) [
        | inl g ↦ rw (a, b, h.word, e, g) (open_list_same s at r to n c rest fs n p)
        | inr g ↦ rw (a, b, h.word, e, g) (settle_same fs s at r to n c rest more null p h)
      ]
    ]

block_line_same : (w : Waiting) (s at r to n c : ℕ) (rest more : List ℕ) (fs : List Frame) → Placed s at r to n → (c == 10) ≡ false → Ahead rest more
    → Goes at to c rest (block_line fs w s at c rest) (block_line fs w r to c more)
unfolding block_line
block_line_same Fresh s at r to n c rest more fs p x h = value_on_line_same s at r to n c rest more fs p h
block_line_same Nothing s at r to n c rest more fs p x h = value_on_line_same s at r to n c rest more fs p h
block_line_same (Going t) s at r to n c rest more fs p x h =
    let a : at - s ≡ n = on_column s at n p.0 in
    let b : to - r ≡ n = on_column r to n p.1 in
    elim (cases_Bool (is_deeper n fs)) [
      | inl e ↦ rw (a, b, e) (in_plain_same at to c rest more fs t ValueOnly at to false x h)
      | inr e ↦ rw (a, b, e) (settle_same fs s at r to n c rest more (scalar_of t.text) p h)
    ]
block_line_same (Whole v) s at r to n c rest more fs p x h = settle_same fs s at r to n c rest more v p h

flow_begin_same : (at to c : ℕ) (rest more : List ℕ) (fs : List Frame) → Ahead rest more
    → Goes at to c rest (if c == 93 then end_flow fs at else begin_value fs ValueOnly at c rest) (if c == 93 then end_flow fs to else begin_value fs ValueOnly to c more)
flow_begin_same at to c rest more fs h = elim (cases_Bool (c == 93)) [ inl e ↦ rw e (end_flow_same at to c rest fs) | inr e ↦ rw e (begin_value_same at to c rest more fs ValueOnly h) ]

flow_line_same : (w : Waiting) (s at r to n c : ℕ) (rest more : List ℕ) (fs : List Frame) → Placed s at r to n → (c == 10) ≡ false → Ahead rest more
    → Goes at to c rest (flow_line fs w s at c rest) (flow_line fs w r to c more)
unfolding flow_line
flow_line_same Fresh s at r to n c rest more fs p x h = flow_begin_same at to c rest more fs h
flow_line_same Nothing s at r to n c rest more fs p x h = flow_begin_same at to c rest more fs h
flow_line_same (Going t) s at r to n c rest more fs p x h =
    let a : at - s ≡ n = on_column s at n p.0 in
    let b : to - r ≡ n = on_column r to n p.1 in
    elim (cases_Bool (is_deeper n fs)) [
      | inl e ↦ rw (a, b, e) (in_plain_same at to c rest more fs t ValueOnly at to false x h)
      | inr e ↦ rw (a, b, e) (after_item_same at to c rest fs (scalar_of t.text))
    ]
flow_line_same (Whole v) s at r to n c rest more fs p x h = after_item_same at to c rest fs v

two_dashes : (rest : List ℕ) → begins_mark 45 rest ≡ true → dashes 2 rest ≡ true
two_dashes [] h = cc
two_dashes (d ∷ []) h = cc
two_dashes (d ∷ e ∷ more) h =
    let a : (((d == 45) && (e == 45)) ≡ true) × (ends_word more ≡ true) = and_parts _ _ h in
    let b : ((d == 45) ≡ true) × ((e == 45) ≡ true) = and_parts _ _ a.0 in
    rw (b.0, b.1) refl

dashes_of : (c : ℕ) (rest : List ℕ) → (c == 45) ≡ true → begins_mark c rest ≡ true → dashes 2 rest ≡ true
dashes_of c rest e h = two_dashes rest (subst (λ (k : ℕ). begins_mark k rest ≡ true) (sym (is_that c 45 e)) h)

line_content_same : (w : Waiting) (s at r to n c : ℕ) (rest more : List ℕ) (fs : List Frame) → Placed s at r to n → (c == 10) ≡ false → Ahead rest more
    → Goes at to c rest (line_content fs w s at c rest) (line_content fs w r to c more)
unfolding line_content
line_content_same w s at r to n c rest more fs p x h =
    let a : at - s ≡ n = on_column s at n p.0 in
    let b : to - r ≡ n = on_column r to n p.1 in
    elim (cases_Bool (is_flow fs)) [
      | inl f ↦ rw f (flow_line_same w s at r to n c rest more fs p x h)
      | inr f ↦ elim (cases_Bool ((n == 0) && begins_mark c rest)) [
        | inl m ↦ elim (cases_Bool (is_fresh w && (c == 45))) [
          | inl k ↦
              let d : ((n == 0) ≡ true) × (begins_mark c rest ≡ true) = and_parts _ _ m in
              let g : (is_fresh w ≡ true) × ((c == 45) ≡ true) = and_parts _ _ k in
              rw (a, b, h.mark c, f, m, k) (refl, refl, (omega arith, dashes_of c rest g.1 d.1), tt)
          | inr k ↦ rw (a, b, h.mark c, f, m, k) tt
        ]
        | inr m ↦ rw (a, b, h.mark c, f, m) (block_line_same w s at r to n c rest more fs p x h)
      ]
    ]

in_line_same : (w : Waiting) (s at r to n c : ℕ) (rest more : List ℕ) (fs : List Frame) → Placed s at r to n → (c == 10) ≡ false → Ahead rest more
    → Goes at to c rest (in_line fs w s at c rest) (in_line fs w r to c more)
unfolding in_line
in_line_same w s at r to n c rest more fs p x h = elim (cases_Bool (c == 32)) [
  | inl e ↦ rw e (refl, (r, n + len_utf8 c, refl, (later s at n c p.0, later r to n c p.1)), tt, tt)
  | inr e ↦ elim (cases_Bool (c == 9)) [
    | inl g ↦ rw (e, x, g) tt
    | inr g ↦ elim (cases_Bool (c == 35)) [
      | inl k ↦ rw (e, x, g, k) (refl, refl, tt, tt)
      | inr k ↦ rw (e, x, g, k) (line_content_same w s at r to n c rest more fs p x h)
    ]
  ]
]

-- ---- marks, and block scalars

in_mark_same : (at to c left : ℕ) (rest : List ℕ) (fs : List Frame) → 0 < left → dashes left (c ∷ rest) ≡ true → Goes at to c rest (in_mark fs left) (in_mark fs left)
unfolding in_mark
in_mark_same at to c zero rest fs l h = absurd (omega arith)
in_mark_same at to c (suc k) rest fs l h = elim (cases_Bool (nat_le (suc k) 1)) [
  | inl e ↦ rw e (refl, refl, tt, tt)
  | inr e ↦
      let d : ((c == 45) ≡ true) × (dashes k rest ≡ true) = and_parts _ _ h in
      let m : suc k - 1 ≡ k = omega arith in
      let z : 0 < k = grind (arith, nat_tests) in
      rw (e, m) (refl, refl, (z, d.1), tt)
]

in_header_same : (at to c : ℕ) (rest : List ℕ) (fs : List Frame) (b : BlockText) (g sp : Bool) → (c == 10) ≡ false → Goes at to c rest (in_header fs b g sp at c) (in_header fs b g sp to c)
unfolding in_header
in_header_same at to c rest fs b g sp n = elim (cases_Bool (c == 32)) [
  | inl e ↦ rw e (refl, refl, tt, tt)
  | inr e ↦ elim (cases_Bool ((c == 35) && sp)) [
    | inl x ↦ rw (e, n, x) (refl, refl, tt, tt)
    | inr x ↦ elim (cases_Bool (is_digit c && not sp)) [
      | inl y ↦ rw (e, n, x, y) tt
      | inr y ↦ elim (cases_Bool (((c == 43) || (c == 45)) && not sp && not g)) [
        | inl z ↦ rw (e, n, x, y, z) (refl, refl, tt, tt)
        | inr z ↦ rw (e, n, x, y, z) tt
      ]
    ]
  ]
]

text_line_same : (b : BlockText) (s at r to n c : ℕ) (rest more : List ℕ) (fs : List Frame) → Placed s at r to n → (c == 10) ≡ false → ends_blank_line c rest ≡ false → ends_blank_line c more ≡ false → Ahead rest more
    → Goes at to c rest (at_text_line fs b s at c rest) (at_text_line fs b r to c more)
unfolding at_text_line
text_line_same b s at r to n c rest more fs p x q z h =
    let i : at - s ≡ n = on_column s at n p.0 in
    let j : to - r ≡ n = on_column r to n p.1 in
    elim (cases_Bool ((c == 32) && not (is_indented b n))) [
      | inl e ↦ rw (i, j, x, q, z, e) (refl, (r, n + len_utf8 c, refl, (later s at n c p.0, later r to n c p.1)), tt, begun_line s at n c p.0)
      | inr e ↦ elim (cases_Bool (is_text_line fs b n && not ((n == 0) && begins_mark c rest))) [
        | inl g ↦ rw (i, j, h.mark c, x, q, z, e, g) (refl, ap (λ (k : ℕ). InTextLine (elim b.indent [ None ↦ first_line b k c | Some _ ↦ begin_line b c ])) (j ∙ sym i), tt, tt)
        | inr g ↦ rw (i, j, h.mark c, x, q, z, e, g) (in_line_same (Whole (a_text (block_text b))) s at r to n c rest more fs p x h)
      ]
    ]

-- ---- one character

at_item_same : (s at r to c : ℕ) (rest more : List ℕ) (fs : List Frame) (sp : Bool) → (c == 10) ≡ false → Ahead rest more
    → Goes at to c rest (in_at_value fs s false sp at c rest) (in_at_value fs r false sp to c more)
unfolding in_at_value
at_item_same s at r to c rest more fs sp n h = elim (cases_Bool (c == 32)) [
  | inl x ↦ rw x (refl, (r, refl), tt, tt)
  | inr x ↦ elim (cases_Bool ((c == 35) && sp)) [
    | inl y ↦ rw (x, n, y) (refl, refl, tt, tt)
    | inr y ↦ elim (cases_Bool ((c == 93) && is_flow fs)) [
      | inl z ↦ rw (x, n, y, z) (end_flow_same at to c rest fs)
      | inr z ↦ rw (x, n, y, z) (begin_value_same at to c rest more fs ValueOnly h)
    ]
  ]
]

turned : (fs : List Frame) (i j k : Innermost) (at to c : ℕ) (rest more : List ℕ) → j ≡ k → Goes at to c rest (taken fs i at c rest) (taken fs k to c more) → Goes at to c rest (taken fs i at c rest) (taken fs j to c more)
turned fs i j k at to c rest more e h = subst (λ (x : Innermost). Goes at to c rest (taken fs i at c rest) (taken fs x to c more)) (sym e) h

pub taken_same : (i j : Innermost) (at to c : ℕ) (rest more : List ℕ) (fs : List Frame) → Alike at to i j → Fits (c ∷ rest) i → (c == 10) ≡ false → ends_blank_line c rest ≡ false → ends_blank_line c more ≡ false → Ahead rest more
    → Goes at to c rest (taken fs i at c rest) (taken fs j to c more)
unfolding taken in_comment in_header_comment in_text_line at_second_quote
taken_same (AtLine s w) j at to c rest more fs (r, n, e, p) f x u v h = turned fs (AtLine s w) j (AtLine r w) at to c rest more e (in_line_same w s at r to n c rest more fs p x h)
taken_same (AtValue s true sp) j at to c rest more fs (r, n, e, p) f x u v h =
    turned fs (AtValue s true sp) j (AtValue r true sp) at to c rest more e
    (at_value_same s at r to c rest more fs ValueOnly true sp x h (r, n + len_utf8 c, refl, (later s at n c p.0, later r to n c p.1)) (on_column s at n p.0 ∙ sym (on_column r to n p.1)))
taken_same (AtValue s false sp) j at to c rest more fs (r, e) f x u v h = turned fs (AtValue s false sp) j (AtValue r false sp) at to c rest more e (at_item_same s at r to c rest more fs sp x h)
taken_same (InPlain t role b sp) j at to c rest more fs (d, e) f x u v h = turned fs (InPlain t role b sp) j (InPlain t role d sp) at to c rest more e (in_plain_same at to c rest more fs t role b d sp x h)
taken_same (InSingle t role b) j at to c rest more fs (d, e) f x u v h = turned fs (InSingle t role b) j (InSingle t role d) at to c rest more e (in_single_same at to c rest more fs t role b d x h)
taken_same (AtSecondQuote t role b) j at to c rest more fs (d, e) f x u v h = turned fs (AtSecondQuote t role b) j (AtSecondQuote t role d) at to c rest more e (refl, (d, refl), tt, tt)
taken_same (InDouble t role b) j at to c rest more fs (d, e) f x u v h = turned fs (InDouble t role b) j (InDouble t role d) at to c rest more e (in_double_same at to c rest fs t role b d x)
taken_same (InEscape t role b) j at to c rest more fs (d, e) f x u v h = turned fs (InEscape t role b) j (InEscape t role d) at to c rest more e (in_escape_same at to c rest fs t role b d x)
taken_same (InDigits t role b left number) j at to c rest more fs (d, e) f x u v h =
    turned fs (InDigits t role b left number) j (InDigits t role d left number) at to c rest more e (in_digits_same at to c rest fs t role b d left number)
taken_same (AfterQuoted y role b sp) j at to c rest more fs (d, e) f x u v h = turned fs (AfterQuoted y role b sp) j (AfterQuoted y role d sp) at to c rest more e (after_quoted_same at to c rest more fs y role b d sp x h)
taken_same (AfterValue w sp) j at to c rest more fs e f x u v h = turned fs (AfterValue w sp) j (AfterValue w sp) at to c rest more e (after_value_same at to c rest fs w sp x)
taken_same (InComment w) j at to c rest more fs e f x u v h = turned fs (InComment w) j (InComment w) at to c rest more e (rw x (refl, refl, tt, tt))
taken_same (InMark left) j at to c rest more fs e f x u v h = turned fs (InMark left) j (InMark left) at to c rest more e (in_mark_same at to c left rest fs f.0 f.1)
taken_same (InHeader b g sp) j at to c rest more fs e f x u v h = turned fs (InHeader b g sp) j (InHeader b g sp) at to c rest more e (in_header_same at to c rest fs b g sp x)
taken_same (InHeaderComment b) j at to c rest more fs e f x u v h = turned fs (InHeaderComment b) j (InHeaderComment b) at to c rest more e (rw x (refl, refl, tt, tt))
taken_same (AtTextLine s b) j at to c rest more fs (r, n, e, p) f x u v h = turned fs (AtTextLine s b) j (AtTextLine r b) at to c rest more e (text_line_same b s at r to n c rest more fs p x u v h)
taken_same (AtBlankEnd n b) j at to c rest more fs e f x u v h = absurd f
taken_same (InTextLine b) j at to c rest more fs e f x u v h = turned fs (InTextLine b) j (InTextLine b) at to c rest more e (rw x (refl, refl, tt, tt))

-- ---- a line end

abbrev pub is_text_start : Innermost → Bool
is_text_start (AtTextLine s b) = true
is_text_start i = false

-- with a line feed, whose place may be any but in a block scalar
abbrev pub Fed : (at q : ℕ) → (rest : List ℕ) → Result Front Broken → Result Front Broken → Type 0
Fed at q rest x y = Same false (at + 1) (q + 1) rest x y

fed_by : (fs : List Frame) (i j k : Innermost) (at q : ℕ) (rest more : List ℕ) → j ≡ k → Fed at q rest (taken fs i at 10 rest) (taken fs k q 10 more) → Fed at q rest (taken fs i at 10 rest) (taken fs j q 10 more)
fed_by fs i j k at q rest more e h = subst (λ (x : Innermost). Fed at q rest (taken fs i at 10 rest) (taken fs x q 10 more)) (sym e) h

line_start : (at : ℕ) → at + 1 ≡ (at + 1) + 0
line_start at = omega arith

started : (at q : ℕ) → Placed (at + 1) (at + 1) (q + 1) (q + 1) 0
started at q = (line_start at, line_start q)

fed : (i j : Innermost) (at to q : ℕ) (rest more : List ℕ) (fs : List Frame) → Alike at to i j → Fits (10 ∷ rest) i → is_text_start i ≡ false → Fed at q rest (taken fs i at 10 rest) (taken fs j q 10 more)
unfolding taken in_line in_at_value in_plain in_single at_second_quote in_double in_escape in_digits in_after_quoted in_after_value in_comment in_header in_header_comment in_text_line
fed (AtLine s w) j at to q rest more fs (r, n, e, p) f x = fed_by fs (AtLine s w) j (AtLine r w) at q rest more e (refl, (q + 1, 0, refl, started at q), tt, tt)
fed (AtValue s true sp) j at to q rest more fs (r, n, e, p) f x = fed_by fs (AtValue s true sp) j (AtValue r true sp) at q rest more e (refl, (q + 1, 0, refl, started at q), tt, tt)
fed (AtValue s false sp) j at to q rest more fs (r, e) f x = fed_by fs (AtValue s false sp) j (AtValue r false sp) at q rest more e (refl, (q + 1, 0, refl, started at q), tt, tt)
fed (InPlain t role b sp) j at to q rest more fs (d, e) f x =
    fed_by fs (InPlain t role b sp) j (InPlain t role d sp) at q rest more e (elim (cases_Bool (is_key_only role)) [ inl k ↦ rw k tt | inr k ↦ rw k (refl, (q + 1, 0, refl, started at q), tt, tt) ])
fed (InSingle t role b) j at to q rest more fs (d, e) f x =
    fed_by fs (InSingle t role b) j (InSingle t role d) at q rest more e (elim (cases_Bool (is_key_only role)) [ inl k ↦ rw k tt | inr k ↦ rw k (refl, (d, refl), tt, tt) ])
fed (AtSecondQuote t role b) j at to q rest more fs (d, e) f x = fed_by fs (AtSecondQuote t role b) j (AtSecondQuote t role d) at q rest more e (refl, (d, refl), tt, tt)
fed (InDouble t role b) j at to q rest more fs (d, e) f x =
    fed_by fs (InDouble t role b) j (InDouble t role d) at q rest more e (elim (cases_Bool (is_key_only role)) [ inl k ↦ rw k tt | inr k ↦ rw k (refl, (d, refl), tt, tt) ])
fed (InEscape t role b) j at to q rest more fs (d, e) f x =
    fed_by fs (InEscape t role b) j (InEscape t role d) at q rest more e (elim (cases_Bool (is_key_only role)) [ inl k ↦ rw k tt | inr k ↦ rw k (refl, (d, refl), tt, tt) ])
fed (InDigits t role b left number) j at to q rest more fs (d, e) f x = fed_by fs (InDigits t role b left number) j (InDigits t role d left number) at q rest more e tt
fed (AfterQuoted y role b sp) j at to q rest more fs (d, e) f x =
    fed_by fs (AfterQuoted y role b sp) j (AfterQuoted y role d sp) at q rest more e (elim (cases_Bool (is_key_only role)) [ inl k ↦ rw k tt | inr k ↦ rw k (refl, (q + 1, 0, refl, started at q), tt, tt) ])
fed (AfterValue w sp) j at to q rest more fs e f x = fed_by fs (AfterValue w sp) j (AfterValue w sp) at q rest more e (refl, (q + 1, 0, refl, started at q), tt, tt)
fed (InComment w) j at to q rest more fs e f x = fed_by fs (InComment w) j (InComment w) at q rest more e (refl, (q + 1, 0, refl, started at q), tt, tt)
fed (InMark zero) j at to q rest more fs e f x = absurd (let l : 0 < 0 = f.0 in omega arith)
fed (InMark (suc k)) j at to q rest more fs e f x = absurd (let g : false ≡ true = f.1 in cc)
fed (InHeader b g sp) j at to q rest more fs e f x = fed_by fs (InHeader b g sp) j (InHeader b g sp) at q rest more e (refl, (q + 1, 0, refl, started at q), tt, tt)
fed (InHeaderComment b) j at to q rest more fs e f x = fed_by fs (InHeaderComment b) j (InHeaderComment b) at q rest more e (refl, (q + 1, 0, refl, started at q), tt, tt)
fed (AtTextLine s b) j at to q rest more fs a f x = cc
fed (AtBlankEnd n b) j at to q rest more fs e f x = absurd f
fed (InTextLine b) j at to q rest more fs e f x = fed_by fs (InTextLine b) j (InTextLine b) at q rest more e (refl, (q + 1, 0, refl, started at q), tt, tt)

pub feed_same : (i j : Innermost) (at to : ℕ) (rest more : List ℕ) (fs : List Frame) → Alike at to i j → Fits (10 ∷ rest) i → Fed at to rest (taken fs i at 10 rest) (taken fs j to 10 more)
unfolding taken at_text_line
feed_same (AtTextLine s b) j at to rest more fs (r, n, e, p) f =
    let a : at - s ≡ n = on_column s at n p.0 in
    let d : to - r ≡ n = on_column r to n p.1 in
    fed_by fs (AtTextLine s b) j (AtTextLine r b) at to rest more e (rw (a, d) (refl, (to + 1, 0, refl, started at to), tt, tt))
feed_same (AtLine s w) j at to rest more fs a f = fed (AtLine s w) j at to to rest more fs a f refl
feed_same (AtValue s m sp) j at to rest more fs a f = fed (AtValue s m sp) j at to to rest more fs a f refl
feed_same (InPlain t role b sp) j at to rest more fs a f = fed (InPlain t role b sp) j at to to rest more fs a f refl
feed_same (InSingle t role b) j at to rest more fs a f = fed (InSingle t role b) j at to to rest more fs a f refl
feed_same (AtSecondQuote t role b) j at to rest more fs a f = fed (AtSecondQuote t role b) j at to to rest more fs a f refl
feed_same (InDouble t role b) j at to rest more fs a f = fed (InDouble t role b) j at to to rest more fs a f refl
feed_same (InEscape t role b) j at to rest more fs a f = fed (InEscape t role b) j at to to rest more fs a f refl
feed_same (InDigits t role b left number) j at to rest more fs a f = fed (InDigits t role b left number) j at to to rest more fs a f refl
feed_same (AfterQuoted y role b sp) j at to rest more fs a f = fed (AfterQuoted y role b sp) j at to to rest more fs a f refl
feed_same (AfterValue w sp) j at to rest more fs a f = fed (AfterValue w sp) j at to to rest more fs a f refl
feed_same (InComment w) j at to rest more fs a f = fed (InComment w) j at to to rest more fs a f refl
feed_same (InMark left) j at to rest more fs a f = fed (InMark left) j at to to rest more fs a f refl
feed_same (InHeader b g sp) j at to rest more fs a f = fed (InHeader b g sp) j at to to rest more fs a f refl
feed_same (InHeaderComment b) j at to rest more fs a f = fed (InHeaderComment b) j at to to rest more fs a f refl
feed_same (AtBlankEnd n b) j at to rest more fs a f = fed (AtBlankEnd n b) j at to to rest more fs a f refl
feed_same (InTextLine b) j at to rest more fs a f = fed (InTextLine b) j at to to rest more fs a f refl

-- with a carriage return before the line feed
abbrev pub returned : List Frame → Innermost → (to : ℕ) → List ℕ → Result Front Broken
returned fs j to more = step (front fs j) to 13 (10 ∷ more) >>= λ h. step h (to + 1) 10 more

return_taken : (fs : List Frame) (j : Innermost) (to : ℕ) (more : List ℕ) → takes_return j ≡ true → returned fs j to more ≡ taken fs j (to + 1) 10 more
unfolding step
return_taken fs j to more h = rw h refl

by_return : (i j k : Innermost) (at to : ℕ) (rest more : List ℕ) (fs : List Frame) → Alike at to i j → j ≡ k → Fits (10 ∷ rest) i → is_text_start i ≡ false → takes_return k ≡ true → Fed at (to + 1) rest (taken fs i at 10 rest) (returned fs j to more)
by_return i j k at to rest more fs a e f x t =
    let r : takes_return j ≡ true = ap takes_return e ∙ t in
    subst (λ (y : Result Front Broken). Fed at (to + 1) rest (taken fs i at 10 rest) y) (sym (return_taken fs j to more r)) (fed i j at to (to + 1) rest more fs a f x)

key_quoted : (fs : List Frame) (y : List ℕ) (role : Role) (b d : ℕ) (sp : Bool) (at to : ℕ) (rest more : List ℕ) → is_key_only role ≡ true
    → Fed at (to + 1) rest (taken fs (AfterQuoted y role b sp) at 10 rest) (returned fs (AfterQuoted y role d sp) to more)
unfolding taken step in_after_quoted
key_quoted fs y role b d sp at to rest more k = rw k tt

pub return_same : (i j : Innermost) (at to : ℕ) (rest more : List ℕ) (fs : List Frame) → Alike at to i j → Fits (10 ∷ rest) i → Fed at (to + 1) rest (taken fs i at 10 rest) (returned fs j to more)
unfolding taken step at_text_line at_blank_end in_digits
return_same (AtTextLine s b) j at to rest more fs (r, n, e, p) f =
    let a : at - s ≡ n = on_column s at n p.0 in
    let d : to - r ≡ n = on_column r to n p.1 in
    subst (λ (x : Innermost). Fed at (to + 1) rest (taken fs (AtTextLine s b) at 10 rest) (returned fs x to more)) (sym e) (rw (a, d) (refl, (to + 1 + 1, 0, refl, started at (to + 1)), tt, tt))
return_same (AtLine s w) j at to rest more fs (r, n, e, p) f = by_return (AtLine s w) j (AtLine r w) at to rest more fs (r, n, e, p) e f refl refl
return_same (AtValue s true sp) j at to rest more fs (r, n, e, p) f = by_return (AtValue s true sp) j (AtValue r true sp) at to rest more fs (r, n, e, p) e f refl refl
return_same (AtValue s false sp) j at to rest more fs (r, e) f = by_return (AtValue s false sp) j (AtValue r false sp) at to rest more fs (r, e) e f refl refl
return_same (InPlain t role b sp) j at to rest more fs (d, e) f = by_return (InPlain t role b sp) j (InPlain t role d sp) at to rest more fs (d, e) e f refl refl
return_same (InSingle t role b) j at to rest more fs (d, e) f = by_return (InSingle t role b) j (InSingle t role d) at to rest more fs (d, e) e f refl refl
return_same (AtSecondQuote t role b) j at to rest more fs (d, e) f = by_return (AtSecondQuote t role b) j (AtSecondQuote t role d) at to rest more fs (d, e) e f refl refl
return_same (InDouble t role b) j at to rest more fs (d, e) f = by_return (InDouble t role b) j (InDouble t role d) at to rest more fs (d, e) e f refl refl
return_same (InEscape t role b) j at to rest more fs (d, e) f = by_return (InEscape t role b) j (InEscape t role d) at to rest more fs (d, e) e f refl refl
return_same (InDigits t role b left number) j at to rest more fs (d, e) f =
    subst (λ (x : Innermost). Fed at (to + 1) rest (taken fs (InDigits t role b left number) at 10 rest) (returned fs x to more)) (sym e) tt
return_same (AfterQuoted y role b sp) j at to rest more fs (d, e) f = elim (cases_Bool (is_key_only role)) [
  | inl k ↦ subst (λ (x : Innermost). Fed at (to + 1) rest (taken fs (AfterQuoted y role b sp) at 10 rest) (returned fs x to more)) (sym e) (key_quoted fs y role b d sp at to rest more k)
  | inr k ↦ by_return (AfterQuoted y role b sp) j (AfterQuoted y role d sp) at to rest more fs (d, e) e f refl (rw k refl)
]
return_same (AfterValue w sp) j at to rest more fs e f = by_return (AfterValue w sp) j (AfterValue w sp) at to rest more fs e e f refl refl
return_same (InComment w) j at to rest more fs e f = by_return (InComment w) j (InComment w) at to rest more fs e e f refl refl
return_same (InMark left) j at to rest more fs e f = by_return (InMark left) j (InMark left) at to rest more fs e e f refl refl
return_same (InHeader b g sp) j at to rest more fs e f = by_return (InHeader b g sp) j (InHeader b g sp) at to rest more fs e e f refl refl
return_same (InHeaderComment b) j at to rest more fs e f = by_return (InHeaderComment b) j (InHeaderComment b) at to rest more fs e e f refl refl
return_same (AtBlankEnd n b) j at to rest more fs e f = absurd f
return_same (InTextLine b) j at to rest more fs e f = by_return (InTextLine b) j (InTextLine b) at to rest more fs e e f refl refl
