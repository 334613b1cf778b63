-- How the bodies of the header's definitions are read.
use Rattle.std.proofs.Common.{◌≡◌, ◌∙◌, ◌++◌, ℕ, Bool, true, false, not, ◌&&◌, ◌||◌, List, [], ◌∷◌, codes, nat_eq, nat_le, nat_lt, refl, sym, ap, subst, inl, inr, arith, append-nil, append_assoc, if◌then◌else◌}
use Rattle.std.specs.Prelude.{decimal}
use Rattle.std.specs.List.{flat_map, list_all}
use Rattle.std.specs.Str.{bytes_eq}
use Rattle.std.proofs.lemmas.Bool.{cases_Bool, and_parts, and_from}
use Rattle.std.proofs.lemmas.Bool.Decides.{nat_tests}
use Rattle.std.proofs.lemmas.Slice.Eq.{bytes_eq-Decides}
use Rattle.std.proofs.lemmas.List.Folds.{list_all-append}
use Rattle.edt_base.specs.Forms.{form_byte, form_char, form_of}
use Rattle.c_tokens.specs.declared.tok.Tok.{Tok}
use Rattle.c_tokens.specs.Bytes.{is_digit, is_letter, is_word_byte}
use Rattle.c_tokens.specs.Laws.{IsToken, is_identifier, respaced}
use Rattle.c_macro.specs.Directive.{is_punct, is_va_args}
use Rattle.dt_names.specs.Facts.{between, braces, elem_visit, id_pieces, names_pieces, ords_body, visit, visit_end, visits}
use Rattle.dt_names.specs.Pieces.{PieceData, escaped, form, lit, num, quoted, spell, spells, str}
use Rattle.dt_names.specs.declared.piece.Params.{Params}
use Rattle.dt_names.specs.declared.piece.Params.TheVariants as params
use Rattle.dt_api.specs.HeaderDefs.{is_variadic}
use Rattle.dt_api.proofs.PieceReads.{are_words, decimal_word, decimal_token, form_word, id_words, spells_append, words_spelled}
use Rattle.dt_api.proofs.TokenReads.{Reads, a_number, a_sign, a_string, a_word, is_byte, is_fresh, number_token, reads_gap, reads_none, reads_sign, reads_token, sign_token, string_token, word_token}

-- a token that may stand in a body: no `#` and no `##`, and the name of the variable part only where there is one
abbrev pub is_fine : (variadic : Bool) → Tok → Bool
is_fine variadic t = not (is_punct (codes "#") t) && (not (is_punct (codes "##") t) && (variadic || not (is_va_args t)))

abbrev pub AreFine : Bool → List Tok → Type 0
AreFine variadic toks = list_all (is_fine variadic) toks ≡ true

fine_any : (variadic : Bool) (t : Tok) → is_fine false t ≡ true → is_fine variadic t ≡ true
fine_any false t h = h
fine_any true t h =
    let p : (not (is_punct (codes "#") t) ≡ true) × ((not (is_punct (codes "##") t) && not (is_va_args t)) ≡ true) = and_parts _ _ h in
    let q : (not (is_punct (codes "##") t) ≡ true) × (not (is_va_args t) ≡ true) = and_parts _ _ p.1 in
    and_from _ _ p.0 (and_from _ _ q.0 refl)

fine_all : (variadic : Bool) (toks : List Tok) → AreFine false toks → AreFine variadic toks
fine_all variadic [] h = refl
fine_all variadic (t ∷ ts) h =
    let p : (is_fine false t ≡ true) × (AreFine false ts) = and_parts _ _ h in
    and_from _ _ (fine_any variadic t p.0) (fine_all variadic ts p.1)

fine_append : (variadic : Bool) (ts us : List Tok) → AreFine variadic ts → AreFine variadic us → AreFine variadic (ts ++ us)
fine_append variadic ts us h k = list_all-append (is_fine variadic) ts us ∙ and_from _ _ h k

-- ---- what bytes come to before others

-- the bytes of a thing, before any that don't continue it
pub record IsThing (bytes : List ℕ) : Type 0 where
  pub toks : List Tok
  pub fine : AreFine false toks
  pub reads : (rest : List ℕ) (more : List Tok) → is_fresh rest ≡ true → Reads false rest more → Reads false (bytes ++ rest) (toks ++ more)

-- a token is a thing
token_thing : (t : Tok) → IsToken t → is_fine false (respaced false t) ≡ true → IsThing t.spell
token_thing t is fine = record {
  toks = respaced false t ∷ [];
  fine = and_from _ _ fine refl;
  reads = λ rest more fresh h. reads_token false t rest more is fresh h;
}

pub number_thing : (n : ℕ) → IsThing (decimal n)
number_thing n = token_thing (a_number false (decimal n)) (decimal_token false n) refl

pub string_thing : (text : List ℕ) → list_all is_byte text ≡ true → IsThing (quoted text)
string_thing text h = token_thing (a_string false (quoted text)) (string_token false text h) refl

-- an id
abbrev id_rest : List ℕ → List ℕ
id_rest path = 84 ∷ 95 ∷ 78 ∷ spells (names_pieces path)

id_is : (path : List ℕ) → spells (id_pieces path) ≡ 68 ∷ id_rest path
unfolding spells
id_is path = refl

pub id_identifier : (path : List ℕ) → is_identifier (spells (id_pieces path)) ≡ true
id_identifier path =
    let all : list_all is_word_byte (68 ∷ id_rest path) ≡ true = subst (λ w. list_all is_word_byte w ≡ true) (id_is path) (words_spelled (id_pieces path) (id_words path)) in
    let parts : (is_word_byte 68 ≡ true) × (list_all is_word_byte (id_rest path) ≡ true) = and_parts _ _ all in
    subst (λ w. is_identifier w ≡ true) (sym (id_is path)) (and_from _ _ refl parts.1)

id_fine : (spaced : Bool) (path : List ℕ) → is_fine false (a_word spaced (spells (id_pieces path))) ≡ true
id_fine spaced path = subst (λ w. is_fine false (a_word spaced w) ≡ true) (sym (id_is path)) refl

pub id_thing : (path : List ℕ) → IsThing (spells (id_pieces path))
id_thing path = token_thing (a_word false (spells (id_pieces path))) (word_token false (spells (id_pieces path)) (id_identifier path)) (id_fine false path)

-- ---- forms

abbrev no_v : ℕ → Bool
no_v b = not (nat_eq b 86)

form_byte_no_v : (c : ℕ) → no_v (form_byte c) ≡ true
form_byte_no_v c = elim (cases_Bool (nat_le 65 c && nat_le c 90)) [
  | inl e ↦ rw e (grind (arith, nat_tests))
  | inr e ↦ rw e (elim (cases_Bool ((nat_le 97 c && nat_le c 122) || (nat_le 48 c && nat_le c 57))) [ inl f ↦ rw f (grind (arith, nat_tests)) | inr f ↦ rw f refl ])
]

form_char_no_v : (c : ℕ) → list_all no_v (form_char c) ≡ true
form_char_no_v c = elim (cases_Bool (nat_lt c 128)) [
  | inl e ↦ rw (e, form_byte_no_v c) refl
  | inr e ↦ rw e (elim (cases_Bool (nat_lt c 192)) [ inl f ↦ rw f refl | inr f ↦ rw f refl ])
]

chars_no_v : (t : List ℕ) → list_all no_v (flat_map form_char t) ≡ true
chars_no_v [] = refl
chars_no_v (c ∷ cs) = list_all-append no_v (form_char c) (flat_map form_char cs) ∙ and_from _ _ (form_char_no_v c) (chars_no_v cs)

form_no_v : (t : List ℕ) → list_all no_v (form_of t) ≡ true
unfolding form_of
form_no_v t = chars_no_v t

-- a word that is no name of the variable part
word_fine : (spaced : Bool) (w : List ℕ) → list_all no_v w ≡ true → is_fine false (a_word spaced w) ≡ true
word_fine spaced w h = elim (cases_Bool (bytes_eq w (codes "__VA_ARGS__"))) [
  | inl e ↦ let k : w ≡ codes "__VA_ARGS__" = (bytes_eq-Decides w (codes "__VA_ARGS__")).0 e in let f : false ≡ true = subst (λ x. list_all no_v x ≡ true) k h in cc
  | inr e ↦ rw e refl
]

abbrev comma : Bool → Tok
comma spaced = a_sign spaced (codes ",")

-- an id, a form and a number, as a walk over elements visits them
abbrev elem_bytes : List ℕ → List ℕ → ℕ → List ℕ
elem_bytes path w i = spells (id_pieces path) ++ (44 ∷ 32 ∷ (w ++ (44 ∷ 32 ∷ decimal i)))

elem_is : (path name : List ℕ) (i : ℕ) → spells (elem_visit path name i) ≡ elem_bytes path (form_of name) i
unfolding spells
elem_is path name i =
    spells_append (id_pieces path) (lit (codes ", ") ∷ form name ∷ lit (codes ", ") ∷ num i ∷ [])
    ∙ ap (λ z. spells (id_pieces path) ++ (44 ∷ 32 ∷ (form_of name ++ (44 ∷ 32 ∷ z)))) (append-nil (decimal i))

-- the tokens of a word, of which there is none where it has no bytes, and of the comma behind it
word_toks : List ℕ → List Tok
word_toks [] = comma true ∷ []
word_toks (b ∷ bs) = (if is_letter b then a_word true (b ∷ bs) else a_number true (b ∷ bs)) ∷ comma false ∷ []

word_toks_fine : (w : List ℕ) → list_all no_v w ≡ true → AreFine false (word_toks w)
unfolding word_toks
word_toks_fine [] h = refl
word_toks_fine (b ∷ bs) h = elim (cases_Bool (is_letter b)) [ inl e ↦ rw e (and_from _ _ (word_fine true (b ∷ bs) h) refl) | inr e ↦ rw e refl ]

not_letter : (b : ℕ) → is_word_byte b ≡ true → is_letter b ≡ false → is_digit b ≡ true
not_letter b h e = sym (ap (λ x. x || is_digit b) e) ∙ h

comma_reads : (spaced : Bool) (rest : List ℕ) (more : List Tok) → is_fresh rest ≡ true → Reads false rest more → Reads spaced (44 ∷ rest) (comma spaced ∷ more)
comma_reads spaced rest more fresh h = reads_token spaced (comma false) rest more (sign_token false (codes ",") refl refl) fresh h

word_reads : (w : List ℕ) (rest : List ℕ) (more : List Tok) → list_all is_word_byte w ≡ true → is_fresh rest ≡ true → Reads false rest more
    → Reads true (w ++ (44 ∷ rest)) (word_toks w ++ more)
unfolding word_toks
word_reads [] rest more all fresh h = comma_reads true rest more fresh h
word_reads (b ∷ bs) rest more all fresh h =
    let p : (is_word_byte b ≡ true) × (list_all is_word_byte bs ≡ true) = and_parts _ _ all in
    let behind = comma_reads false rest more fresh h in
    elim (cases_Bool (is_letter b)) [
      | inl e ↦ rw e (reads_token true (a_word true (b ∷ bs)) (44 ∷ rest) (comma false ∷ more) (word_token true (b ∷ bs) (and_from _ _ e p.1)) refl behind)
      | inr e ↦ rw e (reads_token true (a_number true (b ∷ bs)) (44 ∷ rest) (comma false ∷ more) (number_token true b bs (not_letter b p.0 e) p.1) refl behind)
    ]

abbrev elem_toks : List ℕ → List ℕ → ℕ → List Tok
elem_toks path w i = a_word false (spells (id_pieces path)) ∷ comma false ∷ (word_toks w ++ (a_number true (decimal i) ∷ []))

elem_reads : (path w : List ℕ) (i : ℕ) (rest : List ℕ) (more : List Tok) → list_all is_word_byte w ≡ true → is_fresh rest ≡ true → Reads false rest more
    → Reads false (elem_bytes path w i ++ rest) (elem_toks path w i ++ more)
elem_reads path w i rest more all fresh h =
    let id = spells (id_pieces path) in
    let last : Reads false (32 ∷ (decimal i ++ rest)) (a_number true (decimal i) ∷ more) =
    reads_gap false (decimal i ++ rest) (a_number true (decimal i) ∷ more) (reads_token true (a_number true (decimal i)) rest more (decimal_token true i) fresh h) in
    let word : Reads true (w ++ (44 ∷ 32 ∷ (decimal i ++ rest))) (word_toks w ++ (a_number true (decimal i) ∷ more)) =
    word_reads w (32 ∷ (decimal i ++ rest)) (a_number true (decimal i) ∷ more) all refl last in
    let first : Reads false (44 ∷ 32 ∷ (w ++ (44 ∷ 32 ∷ (decimal i ++ rest)))) (comma false ∷ (word_toks w ++ (a_number true (decimal i) ∷ more))) =
    comma_reads false (32 ∷ (w ++ (44 ∷ 32 ∷ (decimal i ++ rest)))) _ refl (reads_gap false _ _ word) in
    let all_of : Reads false (id ++ (44 ∷ 32 ∷ (w ++ (44 ∷ 32 ∷ (decimal i ++ rest))))) (a_word false id ∷ comma false ∷ (word_toks w ++ (a_number true (decimal i) ∷ more))) =
    reads_token false (a_word false id) (44 ∷ 32 ∷ (w ++ (44 ∷ 32 ∷ (decimal i ++ rest)))) _ (word_token false id (id_identifier path)) refl first in
    let bytes : id ++ (44 ∷ 32 ∷ (w ++ (44 ∷ 32 ∷ (decimal i ++ rest)))) ≡ elem_bytes path w i ++ rest =
    ap (λ z. id ++ (44 ∷ 32 ∷ z)) (sym (append_assoc w (44 ∷ 32 ∷ decimal i) rest)) ∙ sym (append_assoc id (44 ∷ 32 ∷ (w ++ (44 ∷ 32 ∷ decimal i))) rest) in
    let toks : a_word false id ∷ comma false ∷ (word_toks w ++ (a_number true (decimal i) ∷ more)) ≡ elem_toks path w i ++ more =
    ap (λ z. a_word false id ∷ comma false ∷ z) (sym (append_assoc (word_toks w) (a_number true (decimal i) ∷ []) more)) in
    subst (λ z. Reads false z (elem_toks path w i ++ more)) bytes (subst (λ z. Reads false (id ++ (44 ∷ 32 ∷ (w ++ (44 ∷ 32 ∷ (decimal i ++ rest))))) z) toks all_of)

pub elem_thing : (path name : List ℕ) (i : ℕ) → IsThing (spells (elem_visit path name i))
elem_thing path name i = subst IsThing (sym (elem_is path name i)) (record {
  toks = elem_toks path (form_of name) i;
  fine = and_from _ _ (id_fine false path) (and_from _ _ refl (fine_append false (word_toks (form_of name)) (a_number true (decimal i) ∷ []) (word_toks_fine (form_of name) (form_no_v name)) refl));
  reads = λ rest more fresh h. elem_reads path (form_of name) i rest more (form_word name) fresh h;
})

-- ---- lines

-- a byte that ends no line
abbrev pub is_inner : ℕ → Bool
is_inner b = not (nat_eq b 10)

-- pieces whose literal texts end no line
abbrev pub are_lined : List PieceData → Bool
are_lined [] = true
are_lined (lit t ∷ ps) = list_all is_inner t && are_lined ps
are_lined (p ∷ ps) = are_lined ps

-- the last byte, if there is one, is no backslash
abbrev pub ends_well : List ℕ → Bool
ends_well [] = true
ends_well (b ∷ []) = not (nat_eq b 92)
ends_well (b ∷ c ∷ bs) = ends_well (c ∷ bs)

pub ends_behind : (xs : List ℕ) (c : ℕ) (ys : List ℕ) → ends_well (c ∷ ys) ≡ true → ends_well (xs ++ c ∷ ys) ≡ true
ends_behind [] c ys h = h
ends_behind (x ∷ []) c ys h = h
ends_behind (x ∷ y ∷ xs) c ys h = ends_behind (y ∷ xs) c ys h

word_ends : (b : ℕ) → is_word_byte b ≡ true → not (nat_eq b 92) ≡ true
word_ends b h = grind (arith, nat_tests)

pub words_end : (w : List ℕ) → list_all is_word_byte w ≡ true → ends_well w ≡ true
words_end [] h = refl
words_end (b ∷ []) h = let p : (is_word_byte b ≡ true) × (true ≡ true) = and_parts _ _ h in word_ends b p.0
words_end (b ∷ c ∷ bs) h = let p : (is_word_byte b ≡ true) × (list_all is_word_byte (c ∷ bs) ≡ true) = and_parts _ _ h in words_end (c ∷ bs) p.1

pub lined_append : (ps qs : List PieceData) → are_lined ps ≡ true → are_lined qs ≡ true → are_lined (ps ++ qs) ≡ true
lined_append [] qs h k = k
lined_append (lit t ∷ ps) qs h k = let p : (list_all is_inner t ≡ true) × (are_lined ps ≡ true) = and_parts _ _ h in and_from _ _ p.0 (lined_append ps qs p.1 k)
lined_append (form t ∷ ps) qs h k = lined_append ps qs h k
lined_append (str t ∷ ps) qs h k = lined_append ps qs h k
lined_append (num n ∷ ps) qs h k = lined_append ps qs h k

word_inner : (b : ℕ) → is_word_byte b ≡ true → is_inner b ≡ true
word_inner b h = grind (arith, nat_tests)

pub words_inner : (w : List ℕ) → list_all is_word_byte w ≡ true → list_all is_inner w ≡ true
words_inner [] h = refl
words_inner (b ∷ bs) h = let p : (is_word_byte b ≡ true) × (list_all is_word_byte bs ≡ true) = and_parts _ _ h in and_from _ _ (word_inner b p.0) (words_inner bs p.1)

-- pieces of a word have no newline
pub words_lined : (ps : List PieceData) → are_words ps ≡ true → are_lined ps ≡ true
words_lined [] h = refl
words_lined (lit t ∷ ps) h = let p : (list_all is_word_byte t ≡ true) × (are_words ps ≡ true) = and_parts _ _ h in and_from _ _ (words_inner t p.0) (words_lined ps p.1)
words_lined (form t ∷ ps) h = words_lined ps h
words_lined (num n ∷ ps) h = words_lined ps h
words_lined (str t ∷ ps) h = cc

-- ---- bodies

-- the first token, if there is one, stands behind white space
abbrev pub is_spaced : List Tok → Bool
is_spaced [] = true
is_spaced (t ∷ ts) = t.spaced

-- a body behind white space
pub record IsBody (variadic : Bool) (body : List PieceData) : Type 0 where
  pub toks : List Tok
  pub fine : AreFine variadic toks
  pub first : is_spaced toks ≡ true
  pub lined : are_lined body ≡ true
  pub last : ends_well (spells body) ≡ true
  pub reads : Reads true (spells body) toks

pub body_none : (variadic : Bool) → IsBody variadic []
unfolding spells
body_none variadic = record { toks = []; fine = refl; first = refl; lined = refl; last = refl; reads = reads_none true }

pub body_token : (variadic : Bool) (body : List PieceData) (t : Tok) → spells body ≡ t.spell → IsToken t → is_fine variadic (respaced true t) ≡ true → are_lined body ≡ true
    → ends_well t.spell ≡ true → IsBody variadic body
body_token variadic body t e is fine lined last = record {
  toks = respaced true t ∷ [];
  fine = and_from _ _ fine refl;
  first = refl;
  lined = lined;
  last = subst (λ z. ends_well z ≡ true) (sym e) last;
  reads = subst (λ z. Reads true z (respaced true t ∷ [])) (append-nil t.spell ∙ sym e) (reads_token true t [] [] is refl (reads_none false));
}

pub body_number : (variadic : Bool) (n : ℕ) → IsBody variadic (num n ∷ [])
unfolding spells
body_number variadic n = body_token variadic (num n ∷ []) (a_number true (decimal n)) (append-nil (decimal n)) (decimal_token true n) (fine_any variadic (a_number true (decimal n)) refl) refl (words_end (decimal n) (decimal_word n))

pub body_string : (variadic : Bool) (text : List ℕ) → list_all is_byte text ≡ true → IsBody variadic (str text ∷ [])
unfolding spells
body_string variadic text h = body_token variadic (str text ∷ []) (a_string true (quoted text)) (append-nil (quoted text)) (string_token true text h) (fine_any variadic (a_string true (quoted text)) refl) refl (ends_behind (34 ∷ flat_map escaped text) 34 [] refl)

pub body_id : (variadic : Bool) (path : List ℕ) → IsBody variadic (id_pieces path)
body_id variadic path =
    let w = spells (id_pieces path) in
    body_token variadic (id_pieces path) (a_word true w) refl (word_token true w (id_identifier path)) (fine_any variadic (a_word true w) (id_fine true path)) (words_lined (id_pieces path) (id_words path)) (words_end w (words_spelled (id_pieces path) (id_words path)))

-- ---- ordinals

abbrev further : List ℕ → List PieceData
further os = flat_map (λ p. lit (codes " ") ∷ num p ∷ lit (codes ",") ∷ []) os

further_toks : List ℕ → List Tok
further_toks [] = []
further_toks (o ∷ os) = a_number true (decimal o) ∷ comma false ∷ further_toks os

further_is : (o : ℕ) (os : List ℕ) → spells (further (o ∷ os)) ≡ 32 ∷ (decimal o ++ (44 ∷ spells (further os)))
unfolding spells
further_is o os = refl

further_fresh : (os : List ℕ) → is_fresh (spells (further os)) ≡ true
unfolding spells
further_fresh [] = refl
further_fresh (o ∷ os) = refl

further_reads : (os : List ℕ) → Reads false (spells (further os)) (further_toks os)
unfolding further_toks spells
further_reads [] = reads_none false
further_reads (o ∷ os) =
    let behind = comma_reads false (spells (further os)) (further_toks os) (further_fresh os) (further_reads os) in
    subst (λ z. Reads false z (further_toks (o ∷ os))) (sym (further_is o os))
    (reads_gap false (decimal o ++ (44 ∷ spells (further os))) _ (reads_token true (a_number true (decimal o)) (44 ∷ spells (further os)) _ (decimal_token true o) refl behind))

further_fine : (os : List ℕ) → AreFine false (further_toks os)
unfolding further_toks
further_fine [] = refl
further_fine (o ∷ os) = further_fine os

further_lined : (os : List ℕ) → are_lined (further os) ≡ true
further_lined [] = refl
further_lined (o ∷ os) = further_lined os

further_ends : (os : List ℕ) → ends_well (44 ∷ spells (further os)) ≡ true
unfolding spells
further_ends [] = refl
further_ends (o ∷ os) = subst (λ z. ends_well (44 ∷ z) ≡ true) (sym (further_is o os)) (ends_behind (44 ∷ 32 ∷ decimal o) 44 (spells (further os)) (further_ends os))

pub body_ords : (variadic : Bool) (os : List ℕ) → IsBody variadic (ords_body os)
unfolding spells
body_ords variadic [] = body_none variadic
body_ords variadic (o ∷ os) =
    let behind = comma_reads false (spells (further os)) (further_toks os) (further_fresh os) (further_reads os) in
    record {
      toks = a_number true (decimal o) ∷ comma false ∷ further_toks os;
      fine = fine_all variadic (a_number true (decimal o) ∷ comma false ∷ further_toks os) (further_fine os);
      first = refl;
      lined = further_lined os;
      last = ends_behind (decimal o) 44 (spells (further os)) (further_ends os);
      reads = reads_token true (a_number true (decimal o)) (44 ∷ spells (further os)) _ (decimal_token true o) refl behind;
    }

-- ---- values in braces

-- a piece that is one token
pub record IsValue (v : PieceData) : Type 0 where
  pub tok : Tok
  pub is : IsToken tok
  pub spelled : spell v ≡ tok.spell
  pub fine : (spaced : Bool) → is_fine false (respaced spaced tok) ≡ true
  pub lined : are_lined (v ∷ []) ≡ true

pub number_value : (n : ℕ) → IsValue (num n)
number_value n = record { tok = a_number false (decimal n); is = decimal_token false n; spelled = refl; fine = λ s. refl; lined = refl }

pub string_value : (text : List ℕ) → list_all is_byte text ≡ true → IsValue (str text)
string_value text h = record { tok = a_string false (quoted text); is = string_token false text h; spelled = refl; fine = λ s. refl; lined = refl }

value_lined : (v : PieceData) (ps : List PieceData) → IsValue v → are_lined ps ≡ true → are_lined (v ∷ ps) ≡ true
value_lined v ps x h = lined_append (v ∷ []) ps x.lined h

abbrev pub AreValues : List PieceData → Type 0
AreValues [] = Unit {0}
AreValues (v ∷ vs) = IsValue v × AreValues vs

value_reads : (spaced : Bool) (v : PieceData) (x : IsValue v) (rest : List ℕ) (more : List Tok) → is_fresh rest ≡ true → Reads false rest more
    → Reads spaced (spell v ++ rest) (respaced spaced x.tok ∷ more)
value_reads spaced v x rest more fresh h =
    subst (λ z. Reads spaced (z ++ rest) (respaced spaced x.tok ∷ more)) (sym x.spelled) (reads_token spaced x.tok rest more x.is fresh h)

-- the values behind the first, and the closing brace
abbrev others : List PieceData → List PieceData
others vs = flat_map (λ w. lit (codes ", ") ∷ w ∷ []) vs ++ lit (codes "}") ∷ []

abbrev closing : Tok
closing = a_sign false (codes "}")

others_toks : (vs : List PieceData) → AreValues vs → List Tok
others_toks [] h = closing ∷ []
others_toks (v ∷ vs) h = comma false ∷ respaced true h.0.tok ∷ others_toks vs h.1

others_is : (v : PieceData) (vs : List PieceData) → spells (others (v ∷ vs)) ≡ 44 ∷ 32 ∷ (spell v ++ spells (others vs))
unfolding spells
others_is v vs = refl

others_fresh : (vs : List PieceData) → is_fresh (spells (others vs)) ≡ true
unfolding spells
others_fresh [] = refl
others_fresh (v ∷ vs) = refl

others_reads : (vs : List PieceData) (h : AreValues vs) → Reads false (spells (others vs)) (others_toks vs h)
unfolding others_toks spells
others_reads [] h = reads_token false closing [] [] (sign_token false (codes "}") refl refl) refl (reads_none false)
others_reads (v ∷ vs) h =
    let behind = value_reads true v h.0 (spells (others vs)) (others_toks vs h.1) (others_fresh vs) (others_reads vs h.1) in
    subst (λ z. Reads false z (others_toks (v ∷ vs) h)) (sym (others_is v vs))
    (comma_reads false (32 ∷ (spell v ++ spells (others vs))) _ refl (reads_gap false (spell v ++ spells (others vs)) _ behind))

others_fine : (vs : List PieceData) (h : AreValues vs) → AreFine false (others_toks vs h)
unfolding others_toks
others_fine [] h = refl
others_fine (v ∷ vs) h = and_from _ _ (h.0.fine true) (others_fine vs h.1)

abbrev opening : Bool → Tok
opening spaced = a_sign spaced (codes "{")

braces_is : (v : PieceData) (vs : List PieceData) → spells (braces (v ∷ vs)) ≡ 123 ∷ (spell v ++ spells (others vs))
unfolding spells
braces_is v vs = refl

others_lined : (vs : List PieceData) → AreValues vs → are_lined (others vs) ≡ true
others_lined [] h = refl
others_lined (v ∷ vs) h = value_lined v (others vs) h.0 (others_lined vs h.1)

braces_lined : (v : PieceData) (vs : List PieceData) → AreValues (v ∷ vs) → are_lined (braces (v ∷ vs)) ≡ true
braces_lined v vs h = value_lined v (others vs) h.0 (others_lined vs h.1)

others_end : (front : List ℕ) (vs : List PieceData) → ends_well (front ++ spells (others vs)) ≡ true
unfolding spells
others_end front [] = ends_behind front 125 [] refl
others_end front (v ∷ vs) =
    subst (λ z. ends_well z ≡ true) (append_assoc front (44 ∷ 32 ∷ spell v) (spells (others vs)) ∙ ap (λ z. front ++ z) (sym (others_is v vs)))
    (others_end (front ++ 44 ∷ 32 ∷ spell v) vs)

pub body_braces : (variadic : Bool) (vs : List PieceData) → AreValues vs → IsBody variadic (braces vs)
unfolding spells
body_braces variadic [] h = record {
  toks = opening true ∷ closing ∷ [];
  fine = fine_all variadic (opening true ∷ closing ∷ []) refl;
  first = refl;
  lined = refl;
  last = refl;
  reads = reads_token true (opening false) (125 ∷ []) (closing ∷ []) (sign_token false (codes "{") refl refl) refl
      (reads_token false closing [] [] (sign_token false (codes "}") refl refl) refl (reads_none false));
}
body_braces variadic (v ∷ vs) h =
    let toks = opening true ∷ respaced false h.0.tok ∷ others_toks vs h.1 in
    let value = value_reads false v h.0 (spells (others vs)) (others_toks vs h.1) (others_fresh vs) (others_reads vs h.1) in
    record {
      toks = toks;
      fine = fine_all variadic toks (and_from _ _ (h.0.fine false) (others_fine vs h.1));
      first = refl;
      lined = braces_lined v vs h;
      last = subst (λ z. ends_well z ≡ true) (sym (braces_is v vs)) (others_end (123 ∷ spell v) vs);
      reads = subst (λ z. Reads true z toks) (sym (braces_is v vs)) (reads_sign true 123 (spell v ++ spells (others vs)) _ refl refl value);
    }

-- ---- visits

fine_here : (ps : Params) (t : Tok) → is_fine false t ≡ true → is_fine (is_variadic ps) t ≡ true
fine_here ps t h = fine_any (is_variadic ps) t h

end_toks : Params → List Tok
end_toks params.FnVargs = comma false ∷ a_word true (codes "__VA_ARGS__") ∷ a_sign false (codes ")") ∷ []
end_toks _ = a_sign false (codes ")") ∷ []

close_reads : (rest : List ℕ) (more : List Tok) → Reads false rest more → Reads false (41 ∷ rest) (a_sign false (codes ")") ∷ more)
close_reads rest more h = reads_sign false 41 rest more refl refl h

end_reads : (ps : Params) (rest : List ℕ) (more : List Tok) → Reads false rest more → Reads false (visit_end ps ++ rest) (end_toks ps ++ more)
unfolding end_toks
end_reads params.Plain rest more h = close_reads rest more h
end_reads params.Fn rest more h = close_reads rest more h
end_reads params.FnSep rest more h = close_reads rest more h
end_reads params.FnVargs rest more h =
    let word = reads_token true (a_word false (codes "__VA_ARGS__")) (41 ∷ rest) _ (word_token false (codes "__VA_ARGS__") refl) refl (close_reads rest more h) in
    comma_reads false (codes " __VA_ARGS__)" ++ rest) _ refl (reads_gap false (codes "__VA_ARGS__)" ++ rest) _ word)

end_fine : (ps : Params) → AreFine (is_variadic ps) (end_toks ps)
unfolding end_toks
end_fine params.Plain = refl
end_fine params.Fn = refl
end_fine params.FnSep = refl
end_fine params.FnVargs = refl

end_fresh : (ps : Params) (rest : List ℕ) → is_fresh (visit_end ps ++ rest) ≡ true
end_fresh params.Plain rest = refl
end_fresh params.Fn rest = refl
end_fresh params.FnSep rest = refl
end_fresh params.FnVargs rest = refl

between_toks : Params → List Tok
between_toks params.FnSep = a_word true (codes "DT_DEBRACKET_INTERNAL") ∷ a_word true (codes "sep") ∷ []
between_toks _ = []

between_reads : (ps : Params) (rest : List ℕ) (more : List Tok) → Reads true rest more → Reads false (between ps ++ rest) (between_toks ps ++ more)
unfolding between_toks
between_reads params.Plain rest more h = reads_gap false rest more h
between_reads params.Fn rest more h = reads_gap false rest more h
between_reads params.FnVargs rest more h = reads_gap false rest more h
between_reads params.FnSep rest more h =
    let sep = reads_token true (a_word false (codes "sep")) (32 ∷ rest) more (word_token false (codes "sep") refl) refl (reads_gap false rest more h) in
    reads_gap false (codes "DT_DEBRACKET_INTERNAL sep " ++ rest) _
    (reads_token true (a_word false (codes "DT_DEBRACKET_INTERNAL")) (codes " sep " ++ rest) _ (word_token false (codes "DT_DEBRACKET_INTERNAL") refl) refl
    (reads_gap false (codes "sep " ++ rest) _ sep))

between_fine : (ps : Params) → AreFine (is_variadic ps) (between_toks ps)
unfolding between_toks
between_fine params.Plain = refl
between_fine params.Fn = refl
between_fine params.FnSep = refl
between_fine params.FnVargs = refl

visit_toks : (spaced : Bool) (ps : Params) (thing : List Tok) → List Tok
visit_toks spaced ps thing = a_word spaced (codes "fn") ∷ a_sign false (codes "(") ∷ (thing ++ end_toks ps)

visit_is : (ps : Params) (thing : List PieceData) (rest : List ℕ) → spells (visit ps thing) ++ rest ≡ 102 ∷ 110 ∷ 40 ∷ (spells thing ++ (visit_end ps ++ rest))
unfolding spells
visit_is ps thing rest =
    ap (λ z. 102 ∷ 110 ∷ 40 ∷ (z ++ rest)) (spells_append thing (lit (visit_end ps) ∷ []) ∙ ap (λ z. spells thing ++ z) (append-nil (visit_end ps)))
    ∙ ap (λ z. 102 ∷ 110 ∷ 40 ∷ z) (append_assoc (spells thing) (visit_end ps) rest)

visit_reads : (spaced : Bool) (ps : Params) (thing : List PieceData) (x : IsThing (spells thing)) (rest : List ℕ) (more : List Tok) → Reads false rest more
    → Reads spaced (spells (visit ps thing) ++ rest) (visit_toks spaced ps x.toks ++ more)
unfolding visit_toks
visit_reads spaced ps thing x rest more h =
    let inner = x.reads (visit_end ps ++ rest) (end_toks ps ++ more) (end_fresh ps rest) (end_reads ps rest more h) in
    let open_ = reads_sign false 40 (spells thing ++ (visit_end ps ++ rest)) _ refl refl inner in
    let fn_ = reads_token spaced (a_word false (codes "fn")) (40 ∷ (spells thing ++ (visit_end ps ++ rest))) _ (word_token false (codes "fn") refl) refl open_ in
    subst (λ z. Reads spaced z (visit_toks spaced ps x.toks ++ more)) (sym (visit_is ps thing rest))
    (subst (λ z. Reads spaced (102 ∷ 110 ∷ 40 ∷ (spells thing ++ (visit_end ps ++ rest))) (a_word spaced (codes "fn") ∷ a_sign false (codes "(") ∷ z)) (sym (append_assoc x.toks (end_toks ps) more)) fn_)

visit_fine : (spaced : Bool) (ps : Params) (toks : List Tok) → AreFine false toks → AreFine (is_variadic ps) (visit_toks spaced ps toks)
unfolding visit_toks
visit_fine spaced ps toks h =
    and_from _ _ (fine_here ps (a_word spaced (codes "fn")) refl) (and_from _ _ (fine_here ps (a_sign false (codes "(")) refl)
    (fine_append (is_variadic ps) toks (end_toks ps) (fine_all (is_variadic ps) toks h) (end_fine ps)))

abbrev pub AreThings : List (List PieceData) → Type 0
AreThings [] = Unit {0}
AreThings (t ∷ ts) = (IsThing (spells t) × (are_lined t ≡ true)) × AreThings ts

abbrev later : Params → List (List PieceData) → List PieceData
later ps ts = flat_map (λ u. lit (between ps) ∷ visit ps u) ts

later_is : (ps : Params) (t : List PieceData) (ts : List (List PieceData)) → spells (later ps (t ∷ ts)) ≡ between ps ++ (spells (visit ps t) ++ spells (later ps ts))
unfolding spells
later_is ps t ts = ap (λ z. between ps ++ z) (spells_append (visit ps t) (later ps ts))

later_toks : (ps : Params) (ts : List (List PieceData)) → AreThings ts → List Tok
later_toks ps [] h = []
later_toks ps (t ∷ ts) h = between_toks ps ++ (visit_toks true ps h.0.0.toks ++ later_toks ps ts h.1)

later_reads : (ps : Params) (ts : List (List PieceData)) (h : AreThings ts) → Reads false (spells (later ps ts)) (later_toks ps ts h)
unfolding later_toks spells
later_reads ps [] h = reads_none false
later_reads ps (t ∷ ts) h =
    subst (λ z. Reads false z (later_toks ps (t ∷ ts) h)) (sym (later_is ps t ts))
    (between_reads ps (spells (visit ps t) ++ spells (later ps ts)) _ (visit_reads true ps t h.0.0 (spells (later ps ts)) (later_toks ps ts h.1) (later_reads ps ts h.1)))

later_fine : (ps : Params) (ts : List (List PieceData)) (h : AreThings ts) → AreFine (is_variadic ps) (later_toks ps ts h)
unfolding later_toks
later_fine ps [] h = refl
later_fine ps (t ∷ ts) h =
    fine_append (is_variadic ps) (between_toks ps) (visit_toks true ps h.0.0.toks ++ later_toks ps ts h.1) (between_fine ps)
    (fine_append (is_variadic ps) (visit_toks true ps h.0.0.toks) (later_toks ps ts h.1) (visit_fine true ps h.0.0.toks h.0.0.fine) (later_fine ps ts h.1))

end_lined : (ps : Params) → list_all is_inner (visit_end ps) ≡ true
end_lined params.Plain = refl
end_lined params.Fn = refl
end_lined params.FnSep = refl
end_lined params.FnVargs = refl

between_lined : (ps : Params) → list_all is_inner (between ps) ≡ true
between_lined params.Plain = refl
between_lined params.Fn = refl
between_lined params.FnSep = refl
between_lined params.FnVargs = refl

visit_lined : (ps : Params) (thing : List PieceData) → are_lined thing ≡ true → are_lined (visit ps thing) ≡ true
visit_lined ps thing h = lined_append thing (lit (visit_end ps) ∷ []) h (and_from _ _ (end_lined ps) refl)

later_lined : (ps : Params) (ts : List (List PieceData)) → AreThings ts → are_lined (later ps ts) ≡ true
later_lined ps [] h = refl
later_lined ps (t ∷ ts) h = and_from _ _ (between_lined ps) (lined_append (visit ps t) (later ps ts) (visit_lined ps t h.0.1) (later_lined ps ts h.1))

close_ends : (ps : Params) (front : List ℕ) → ends_well (front ++ visit_end ps) ≡ true
close_ends params.Plain front = ends_behind front 41 [] refl
close_ends params.Fn front = ends_behind front 41 [] refl
close_ends params.FnSep front = ends_behind front 41 [] refl
close_ends params.FnVargs front = ends_behind front 44 (codes " __VA_ARGS__)") refl

visit_spelled : (ps : Params) (t : List PieceData) → spells (visit ps t) ≡ 102 ∷ 110 ∷ 40 ∷ (spells t ++ visit_end ps)
unfolding spells
visit_spelled ps t = ap (λ z. 102 ∷ 110 ∷ 40 ∷ z) (spells_append t (lit (visit_end ps) ∷ []) ∙ ap (λ z. spells t ++ z) (append-nil (visit_end ps)))

visit_ends : (ps : Params) (t : List PieceData) (front : List ℕ) → ends_well (front ++ spells (visit ps t)) ≡ true
visit_ends ps t front =
    subst (λ z. ends_well z ≡ true) (append_assoc front (102 ∷ 110 ∷ 40 ∷ spells t) (visit_end ps) ∙ ap (λ z. front ++ z) (sym (visit_spelled ps t)))
    (close_ends ps (front ++ 102 ∷ 110 ∷ 40 ∷ spells t))

later_ends : (ps : Params) (front : List ℕ) (ts : List (List PieceData)) → ends_well front ≡ true → ends_well (front ++ spells (later ps ts)) ≡ true
unfolding spells
later_ends ps front [] h = subst (λ z. ends_well z ≡ true) (sym (append-nil front)) h
later_ends ps front (t ∷ ts) h =
    let whole : front ++ spells (later ps (t ∷ ts)) ≡ ((front ++ between ps) ++ spells (visit ps t)) ++ spells (later ps ts) =
    ap (λ z. front ++ z) (later_is ps t ts) ∙ (sym (append_assoc front (between ps) (spells (visit ps t) ++ spells (later ps ts)))
    ∙ sym (append_assoc (front ++ between ps) (spells (visit ps t)) (spells (later ps ts)))) in
    subst (λ z. ends_well z ≡ true) (sym whole) (later_ends ps ((front ++ between ps) ++ spells (visit ps t)) ts (visit_ends ps t (front ++ between ps)))

pub body_visits : (ps : Params) (ts : List (List PieceData)) → AreThings ts → IsBody (is_variadic ps) (visits ps ts)
unfolding visit_toks
body_visits ps [] h = body_none (is_variadic ps)
body_visits ps (t ∷ ts) h = record {
  toks = visit_toks true ps h.0.0.toks ++ later_toks ps ts h.1;
  fine = fine_append (is_variadic ps) (visit_toks true ps h.0.0.toks) (later_toks ps ts h.1) (visit_fine true ps h.0.0.toks h.0.0.fine) (later_fine ps ts h.1);
  first = refl;
  lined = lined_append (visit ps t) (later ps ts) (visit_lined ps t h.0.1) (later_lined ps ts h.1);
  last = subst (λ z. ends_well z ≡ true) (sym (spells_append (visit ps t) (later ps ts))) (later_ends ps (spells (visit ps t)) ts (visit_ends ps t []));
  reads = subst (λ z. Reads true z (visit_toks true ps h.0.0.toks ++ later_toks ps ts h.1)) (sym (spells_append (visit ps t) (later ps ts)))
      (visit_reads true ps t h.0.0 (spells (later ps ts)) (later_toks ps ts h.1) (later_reads ps ts h.1));
}
