-- The header is read row by row.
use Rattle.std.proofs.Common.{◌≡◌, ◌∙◌, ◌+◌, ◌<◌, ◌++◌, ℕ, suc, Bool, true, false, not, ◌&&◌, ◌||◌, ◌==◌, ◌/◌, ◌%◌, List, [], ◌∷◌, Option, Some, None, codes, drop, length, map, nat_eq, nat_le, option_map, refl, sym, ap, subst, inl, inr, arith, append_assoc, append-nil}
use Rattle.std.specs.List.{cons_option, filter_map, flat_map, list_all, list_any}
use Rattle.std.specs.Map.{lookup}
use Rattle.std.specs.Str.{bytes_eq}
use Rattle.std.proofs.lemmas.Bool.{and_from, and_parts, cases_Bool}
use Rattle.std.proofs.lemmas.Bool.Decides.{nat_tests}
use Rattle.std.proofs.lemmas.List.Folds.{list_all-append}
use Rattle.std.proofs.lemmas.Slice.Eq.{bytes_eq-Decides}
use Rattle.c_tokens.specs.declared.grammar.Piece.TheVariants as piece
use Rattle.c_tokens.specs.declared.tok.Tok.{Tok}
use Rattle.c_tokens.specs.Grammar.{comment_end, comment_of, front}
use Rattle.c_tokens.specs.LineData.{LineData}
use Rattle.c_tokens.specs.Lexed.{lexed, lexed_behind}
use Rattle.c_tokens.specs.Lines.{AtEnd, Cut, Logical, LogicalLine, LinesOf, Unread, closes, cut, line_of, no_more, one_more, with_byte}
use Rattle.c_tokens.proofs.LexedLaws.{lexed_gap, lexed_none}
use Rattle.c_macro.specs.Directive.{Define, Directive, Nothing, all_differ, line_directive}
use Rattle.dt_names.specs.Clash.{is_repeated, share_name}
use Rattle.dt_names.specs.Facts.{FactData, facts, full_name}
use Rattle.dt_names.specs.Pieces.{PieceData, escaped, form, lit, num, quoted, spell, spells, str}
use Rattle.dt_names.specs.declared.piece.Params.{Params}
use Rattle.dt_names.specs.declared.piece.Params.TheVariants as params
use Rattle.dt_api.specs.ApiText.{text_of}
use Rattle.dt_api.specs.Defining.{Definition, defined_as}
use Rattle.dt_api.specs.HeaderDefs.{fact_macro, named}
use Rattle.dt_api.specs.HeaderLaw.{body_text, define_text, is_title, params_text}
use Rattle.dt_api.specs.HeaderRows.{HeaderIsRead, fact_definition, firsts, heading_rows, if_first, is_fine, rows_from}
use Rattle.dt_api.proofs.BodyReads.{are_lined, ends_behind, ends_well, is_inner, words_end, words_inner}
use Rattle.dt_api.proofs.HeaderLines.{name_parts, row_reads}
use Rattle.dt_api.proofs.HeaderTable.{AreRows, IsRow, facts_rows, is_titled}
use Rattle.dt_api.proofs.PieceReads.{decimal_word, form_word}
use Rattle.dt_api.proofs.TokenReads.{read_as}

negated : (b : Bool) → not b ≡ true → b ≡ false
negated false e = refl
negated true e = cc

and_false : (a b : Bool) → b ≡ false → (a && b) ≡ false
and_false true b h = h
and_false false b h = refl

-- ---- a row is a line

abbrev ended : List ℕ → List ℕ → Cut
ended line rest = record { bytes = line; rest = rest; newlines = 1 }

cut_row : (line rest : List ℕ) → list_all is_inner line ≡ true → ends_well line ≡ true → cut (line ++ 10 ∷ rest) ≡ ended line rest
cut_row [] [] h e = refl
cut_row [] (r ∷ rest) h e = refl
cut_row (b ∷ []) rest h e =
    let p : (is_inner b ≡ true) × (true ≡ true) = and_parts _ _ h in
    rw (negated (nat_eq b 92) e, negated (nat_eq b 10) p.0) (ap (with_byte b) (cut_row [] rest refl refl))
cut_row (b ∷ c ∷ bs) rest h e =
    let p : (is_inner b ≡ true) × (list_all is_inner (c ∷ bs) ≡ true) = and_parts _ _ h in
    let q : (is_inner c ≡ true) × (list_all is_inner bs ≡ true) = and_parts _ _ p.1 in
    rw (and_false (nat_eq b 92) (nat_eq c 10) (negated (nat_eq c 10) q.0), negated (nat_eq b 10) p.0) (ap (with_byte b) (cut_row (c ∷ bs) rest p.1 e))

-- a row that is read as these tokens
record RowRead (row : List ℕ) (toks : List Tok) : Type 0 where
  pub inner : list_all is_inner row ≡ true
  pub ends : ends_well row ≡ true
  pub read : lexed false row ≡ read_as toks

abbrev unread : ℕ → List ℕ → Unread
unread number text = record { rest = text; number = number }

abbrev row_line : ℕ → List Tok → LineData
row_line number toks = line_of number (record { toks = toks; rest = []; newlines = 1 })

longer : (row rest : List ℕ) → 0 < length (row ++ 10 ∷ rest)
longer [] rest = omega arith
longer (b ∷ bs) rest = omega arith

as_line : (row rest : List ℕ) (toks : List Tok) → cut (row ++ 10 ∷ rest) ≡ ended row rest
    → LogicalLine false (row ++ 10 ∷ rest) (Some (record { toks = toks; rest = (cut (row ++ 10 ∷ rest)).rest; newlines = (cut (row ++ 10 ∷ rest)).newlines }))
    → LogicalLine false (row ++ 10 ∷ rest) (Some (record { toks = toks; rest = rest; newlines = 1 }))
as_line row rest toks c h = subst (λ k. LogicalLine false (row ++ 10 ∷ rest) (Some (record { toks = toks; rest = k.rest; newlines = k.newlines }))) c h

read_one : (number : ℕ) (row rest : List ℕ) (toks : List Tok) (lines : List LineData) (last : ℕ) → RowRead row toks → LinesOf (unread (number + 1) rest) lines (AtEnd last)
    → LinesOf (unread number (row ++ 10 ∷ rest)) (row_line number toks ∷ lines) (AtEnd last)
read_one number row rest toks lines last r go =
    let c = cut_row row rest r.inner r.ends in
    let l : Logical = record { toks = toks; rest = rest; newlines = 1 } in
    one_more (unread number (row ++ 10 ∷ rest)) l lines (AtEnd last) (longer row rest)
    (as_line row rest toks c (closes false (row ++ 10 ∷ rest) toks (ap (λ k. lexed false k.bytes) c ∙ r.read))) go

text_cons : (row : List ℕ) (rows : List (List ℕ)) → text_of (row ∷ rows) ≡ row ++ 10 ∷ text_of rows
text_cons row rows = append_assoc row (10 ∷ []) (text_of rows)

-- ---- rows with what they define

record Part (number : ℕ) (rows : List (List ℕ)) (ds : List Definition) : Type 0 where
  pub lines : List LineData
  pub last : ℕ
  pub read : LinesOf (unread number (text_of rows)) lines (AtEnd last)
  pub fine : list_all (λ line. is_fine (line_directive line)) lines ≡ true
  pub defined : filter_map (λ line. defined_as (line_directive line)) lines ≡ ds

part_none : (number : ℕ) → Part number [] []
part_none number = record { lines = []; last = number; read = no_more (unread number []) refl; fine = refl; defined = refl }

part_row : (number : ℕ) (row : List ℕ) (rows : List (List ℕ)) (toks : List Tok) (d : Directive) (ds : List Definition) → RowRead row toks
    → line_directive (row_line number toks) ≡ Some d → is_fine (Some d) ≡ true → Part (number + 1) rows ds → Part number (row ∷ rows) (cons_option (defined_as (Some d)) ds)
part_row number row rows toks d ds r e fine p = record {
  lines = row_line number toks ∷ p.lines;
  last = p.last;
  read = subst (λ text. LinesOf (unread number text) (row_line number toks ∷ p.lines) (AtEnd p.last)) (sym (text_cons row rows)) (read_one number row (text_of rows) toks p.lines p.last r p.read);
  fine = and_from _ _ (ap is_fine e ∙ fine) p.fine;
  defined = ap (λ o. cons_option (defined_as o) (filter_map (λ line. defined_as (line_directive line)) p.lines)) e ∙ ap (cons_option (defined_as (Some d))) p.defined;
}

-- ---- headings

title_ends : (title : List ℕ) → is_title title ≡ true → comment_end false (title ++ codes " */") ≡ Some (length (title ++ codes " */"))
title_ends [] h = refl
title_ends (c ∷ cs) h =
    let p : ((not (nat_eq c 10) && not (nat_eq c 42)) ≡ true) × (is_title cs ≡ true) = and_parts _ _ h in
    let q : (not (nat_eq c 10) ≡ true) × (not (nat_eq c 42) ≡ true) = and_parts _ _ p.0 in
    rw (negated (nat_eq c 42) q.1) (ap (option_map suc) (title_ends cs p.1))

title_inner : (title : List ℕ) → is_title title ≡ true → list_all is_inner title ≡ true
title_inner [] h = refl
title_inner (c ∷ cs) h =
    let p : ((not (nat_eq c 10) && not (nat_eq c 42)) ≡ true) × (is_title cs ≡ true) = and_parts _ _ h in
    let q : (not (nat_eq c 10) ≡ true) × (not (nat_eq c 42) ≡ true) = and_parts _ _ p.0 in
    and_from _ _ q.0 (title_inner cs p.1)

drop_all : (xs : List ℕ) → drop (length xs) xs ≡ []
drop_all [] = refl
drop_all (x ∷ xs) = drop_all xs

abbrev heading : List ℕ → List ℕ
heading title = codes "/* " ++ (title ++ codes " */")

heading_front : (title : List ℕ) → is_title title ≡ true → front (heading title) ≡ piece.Gap (length (heading title))
heading_front title h =
    let e : comment_end false (32 ∷ (title ++ codes " */")) ≡ Some (suc (length (title ++ codes " */"))) = ap (option_map suc) (title_ends title h) in
    let n : 2 + suc (length (title ++ codes " */")) ≡ length (heading title) = three_more (length (title ++ codes " */")) in
    ap comment_of e ∙ ap piece.Gap n
  where
    three_more : (n : ℕ) → 2 + suc n ≡ suc (suc (suc n))
    three_more n = omega arith

heading_read : (title : List ℕ) → is_title title ≡ true → RowRead (heading title) []
heading_read title h =
    let gap = lexed_gap (heading title) false (length (heading title)) (omega arith) (heading_front title h) (omega arith) in
    let rest : lexed_behind true 0 (drop (length (heading title)) (heading title)) ≡ read_as [] = ap (lexed_behind true 0) (drop_all (heading title)) ∙ lexed_none [] true refl in
    record {
      inner = list_all-append is_inner title (codes " */") ∙ and_from _ _ (title_inner title h) refl;
      ends = ends_behind (codes "/* " ++ title) 32 (codes "*/") refl;
      read = gap ∙ rest;
    }

-- ---- definitions

escaped_inner : (c : ℕ) → list_all is_inner (escaped c) ≡ true
escaped_inner c = elim (cases_Bool ((c == 34) || (c == 92))) [
  | inl e ↦ let k : is_inner c ≡ true = grind (arith, nat_tests) in rw (e, k) refl
  | inr e ↦ elim (cases_Bool (nat_le 32 c && nat_le c 126)) [
    | inl f ↦ let k : is_inner c ≡ true = grind (arith, nat_tests) in rw (e, f, k) refl
    | inr f ↦
        let a3 : is_inner (48 + c / 64) ≡ true = grind (arith, nat_tests) in
        let a2 : is_inner (48 + (c / 8) % 8) ≡ true = grind (arith, nat_tests) in
        let a1 : is_inner (48 + c % 8) ≡ true = grind (arith, nat_tests) in
        rw (e, f, a3, a2, a1) refl
  ]
]

all_inner : (text : List ℕ) → list_all is_inner (flat_map escaped text) ≡ true
all_inner [] = refl
all_inner (c ∷ cs) = list_all-append is_inner (escaped c) (flat_map escaped cs) ∙ and_from _ _ (escaped_inner c) (all_inner cs)

quoted_inner : (text : List ℕ) → list_all is_inner (quoted text) ≡ true
quoted_inner text = list_all-append is_inner (flat_map escaped text) (34 ∷ []) ∙ and_from _ _ (all_inner text) refl

lined_inner : (ps : List PieceData) → are_lined ps ≡ true → list_all is_inner (spells ps) ≡ true
unfolding spells
lined_inner [] h = refl
lined_inner (lit t ∷ ps) h =
    let p : (list_all is_inner t ≡ true) × (are_lined ps ≡ true) = and_parts _ _ h in
    list_all-append is_inner t (flat_map spell ps) ∙ and_from _ _ p.0 (lined_inner ps p.1)
lined_inner (form t ∷ ps) h = list_all-append is_inner (spell (form t)) (flat_map spell ps) ∙ and_from _ _ (words_inner (spell (form t)) (form_word t)) (lined_inner ps h)
lined_inner (num n ∷ ps) h = list_all-append is_inner (spell (num n)) (flat_map spell ps) ∙ and_from _ _ (words_inner (spell (num n)) (decimal_word n)) (lined_inner ps h)
lined_inner (str t ∷ ps) h = list_all-append is_inner (spell (str t)) (flat_map spell ps) ∙ and_from _ _ (quoted_inner t) (lined_inner ps h)

params_inner : (ps : Params) → list_all is_inner (params_text ps) ≡ true
params_inner params.Plain = refl
params_inner params.Fn = refl
params_inner params.FnSep = refl
params_inner params.FnVargs = refl

body_inner : (body : List PieceData) → are_lined body ≡ true → list_all is_inner (body_text body) ≡ true
body_inner [] h = refl
body_inner (p ∷ ps) h = lined_inner (p ∷ ps) h

ends_cons : (c : ℕ) (xs : List ℕ) → not (nat_eq c 92) ≡ true → ends_well xs ≡ true → ends_well (c ∷ xs) ≡ true
ends_cons c [] h e = h
ends_cons c (x ∷ xs) h e = e

bracket_ends : (front inside : List ℕ) (body : List PieceData) → ends_well (spells body) ≡ true → ends_well (front ++ (inside ++ (41 ∷ body_text body))) ≡ true
bracket_ends front inside [] e = subst (λ z. ends_well z ≡ true) (append_assoc front inside (41 ∷ [])) (ends_behind (front ++ inside) 41 [] refl)
bracket_ends front inside (p ∷ body) e =
    subst (λ z. ends_well z ≡ true) (append_assoc front inside (41 ∷ 32 ∷ spells (p ∷ body)))
    (ends_behind (front ++ inside) 41 (32 ∷ spells (p ∷ body)) (ends_cons 32 (spells (p ∷ body)) refl e))

-- what stands behind the name ends well behind any bytes that do
tail_ends : (front : List ℕ) (ps : Params) (body : List PieceData) → ends_well front ≡ true → ends_well (spells body) ≡ true → ends_well (front ++ (params_text ps ++ body_text body)) ≡ true
tail_ends front params.Plain [] h e = subst (λ z. ends_well z ≡ true) (sym (append-nil front)) h
tail_ends front params.Plain (p ∷ body) h e = ends_behind front 32 (spells (p ∷ body)) (ends_cons 32 (spells (p ∷ body)) refl e)
tail_ends front params.Fn body h e = bracket_ends front (codes "(fn") body e
tail_ends front params.FnSep body h e = bracket_ends front (codes "(fn, sep") body e
tail_ends front params.FnVargs body h e = bracket_ends front (codes "(fn, ...") body e

define_ends : (f : FactData) → IsRow f → ends_well (define_text f) ≡ true
define_ends f row =
    let name = spells (full_name f) in
    let n = name_parts (full_name f) row.begins row.words in
    let named_ends : ends_well (codes "#define " ++ name) ≡ true =
    subst (λ w. ends_well (codes "#define " ++ w) ≡ true) (sym n.is) (ends_behind (codes "#define ") 68 n.rest (words_end (68 ∷ n.rest) (and_from _ _ refl n.words))) in
    subst (λ z. ends_well z ≡ true) (append_assoc (codes "#define ") name (params_text f.params ++ body_text f.body))
    (tail_ends (codes "#define " ++ name) f.params f.body named_ends row.body.last)

define_inner : (f : FactData) → IsRow f → list_all is_inner (define_text f) ≡ true
define_inner f row =
    let name = spells (full_name f) in
    let n = name_parts (full_name f) row.begins row.words in
    let name_inner : list_all is_inner name ≡ true = subst (λ w. list_all is_inner w ≡ true) (sym n.is) (words_inner (68 ∷ n.rest) (and_from _ _ refl n.words)) in
    let behind : list_all is_inner (params_text f.params ++ body_text f.body) ≡ true =
    list_all-append is_inner (params_text f.params) (body_text f.body) ∙ and_from _ _ (params_inner f.params) (body_inner f.body row.body.lined) in
    list_all-append is_inner name (params_text f.params ++ body_text f.body) ∙ and_from _ _ name_inner behind

define_read : (f : FactData) (row : IsRow f) → RowRead (define_text f) (row_reads f row).toks
define_read f row = record { inner = define_inner f row; ends = define_ends f row; read = (row_reads f row).read }

define_directive : (number : ℕ) (f : FactData) (row : IsRow f) → line_directive (row_line number (row_reads f row).toks) ≡ Some (Define (spells (full_name f)) (fact_macro f))
define_directive number f row = let r = row_reads f row in rw r.hash r.directive

-- ---- all rows

part_headed : (number : ℕ) (o : Option (List ℕ)) (rows : List (List ℕ)) (ds : List Definition) → is_titled o ≡ true → ((n : ℕ) → Part n rows ds)
    → Part number (heading_rows o ++ rows) ds
part_headed number None rows ds h p = p number
part_headed number (Some title) rows ds h p = part_row number (heading title) rows [] Nothing ds (heading_read title h) refl refl (p (number + 1))

part_defined : (number : ℕ) (earlier : List FactData) (f : FactData) (rows : List (List ℕ)) (ds : List Definition) → IsRow f → ((n : ℕ) → Part n rows ds)
    → Part number (map define_text (if_first earlier f) ++ rows) (map fact_definition (if_first earlier f) ++ ds)
part_defined number earlier f rows ds row p = elim (cases_Bool (is_repeated earlier f)) [
  | inl e ↦ rw e (p number)
  | inr e ↦ rw e (part_row number (define_text f) rows (row_reads f row).toks (Define (spells (full_name f)) (fact_macro f)) ds (define_read f row) (define_directive number f row) refl (p (number + 1)))
]

map_append : (xs ys : List FactData) → map fact_definition (xs ++ ys) ≡ map fact_definition xs ++ map fact_definition ys
map_append [] ys = refl
map_append (x ∷ xs) ys = ap (λ z. fact_definition x ∷ z) (map_append xs ys)

part_from : (number : ℕ) (earlier fs : List FactData) → AreRows fs → Part number (rows_from earlier fs) (map fact_definition (firsts earlier fs))
part_from number earlier [] h = part_none number
part_from number earlier (f ∷ fs) h =
    subst (Part number (rows_from earlier (f ∷ fs))) (sym (map_append (if_first earlier f) (firsts (earlier ++ f ∷ []) fs)))
    (part_headed number f.heading _ _ h.0.titled (λ n. part_defined n earlier f _ _ h.0 (λ m. part_from m (earlier ++ f ∷ []) fs h.1)))

-- ---- names

abbrev name_of : FactData → List ℕ
name_of f = spells (full_name f)

any_more : (p : FactData → Bool) (xs ys : List FactData) → list_any p (xs ++ ys) ≡ (list_any p xs || list_any p ys)
any_more p [] ys = refl
any_more p (x ∷ xs) ys = elim (cases_Bool (p x)) [ inl e ↦ rw e refl | inr e ↦ rw e (any_more p xs ys) ]

or_false : (a b : Bool) → (a || b) ≡ false → (a ≡ false) × (b ≡ false)
or_false true b h = cc
or_false false b h = (refl, h)

-- a definition is among those before: one of its name is repeated
abbrev IsAmong : FactData → List FactData → Type 0
IsAmong e earlier = (g : FactData) → is_repeated earlier g ≡ false → share_name e g ≡ false

among_more : (e f : FactData) (earlier : List FactData) → IsAmong e earlier → IsAmong e (earlier ++ f ∷ [])
among_more e f earlier h = λ g r. h g (or_false (is_repeated earlier g) (is_repeated (f ∷ []) g) (sym (any_more (λ x. share_name x g) earlier (f ∷ [])) ∙ r)).0

among_last : (f : FactData) (earlier : List FactData) → IsAmong f (earlier ++ f ∷ [])
among_last f earlier = λ g r.
    let p = or_false (is_repeated earlier g) (is_repeated (f ∷ []) g) (sym (any_more (λ x. share_name x g) earlier (f ∷ [])) ∙ r) in
    (or_false (share_name f g) false p.1).0

-- no later first has its name
none_later : (e : FactData) (earlier fs : List FactData) → IsAmong e earlier
    → list_any (bytes_eq (name_of e)) (map (λ (d : Definition). d.0) (map fact_definition (firsts earlier fs))) ≡ false
none_later e earlier [] h = refl
none_later e earlier (f ∷ fs) h = elim (cases_Bool (is_repeated earlier f)) [
  | inl r ↦ rw r (none_later e (earlier ++ f ∷ []) fs (among_more e f earlier h))
  | inr r ↦ rw (r, h f r) (none_later e (earlier ++ f ∷ []) fs (among_more e f earlier h))
]

firsts_differ : (earlier fs : List FactData) → all_differ (map (λ (d : Definition). d.0) (map fact_definition (firsts earlier fs))) ≡ true
firsts_differ earlier [] = refl
firsts_differ earlier (f ∷ fs) = elim (cases_Bool (is_repeated earlier f)) [
  | inl r ↦ rw r (firsts_differ (earlier ++ f ∷ []) fs)
  | inr r ↦ rw r (and_from _ _ (ap not (none_later f (earlier ++ f ∷ []) fs (among_last f earlier))) (firsts_differ (earlier ++ f ∷ []) fs))
]

-- no earlier definition has this name
abbrev IsNew : List ℕ → List FactData → Type 0
IsNew name earlier = (f : FactData) → bytes_eq name (name_of f) ≡ true → is_repeated earlier f ≡ false

other_way : (xs ys : List ℕ) → bytes_eq xs ys ≡ false → bytes_eq ys xs ≡ false
other_way xs ys h = elim (cases_Bool (bytes_eq ys xs)) [
  | inl e ↦
      let k : ys ≡ xs = (bytes_eq-Decides ys xs).0 e in
      let t : bytes_eq xs ys ≡ true = (bytes_eq-Decides xs ys).1 (sym k) in
      let f : false ≡ true = sym h ∙ t in cc
  | inr e ↦ e
]

new_more : (name : List ℕ) (g : FactData) (earlier : List FactData) → IsNew name earlier → bytes_eq name (name_of g) ≡ false → IsNew name (earlier ++ g ∷ [])
new_more name g earlier h n = λ f e.
    let same : name ≡ name_of f = (bytes_eq-Decides name (name_of f)).0 e in
    let other : share_name g f ≡ false = ap (λ w. bytes_eq (name_of g) w) (sym same) ∙ other_way name (name_of g) n in
    any_more (λ x. share_name x f) earlier (g ∷ []) ∙ (rw (h f e, other) refl)

found : (name : List ℕ) (earlier fs : List FactData) → IsNew name earlier
    → lookup (bytes_eq name) (map fact_definition (firsts earlier fs)) ≡ option_map fact_macro (named name fs)
found name earlier [] h = refl
found name earlier (f ∷ fs) h = elim (cases_Bool (bytes_eq name (name_of f))) [
  | inl e ↦ rw (h f e, e) refl
  | inr e ↦ elim (cases_Bool (is_repeated earlier f)) [
    | inl r ↦ rw (r, e) (found name (earlier ++ f ∷ []) fs (new_more name f earlier h e))
    | inr r ↦ rw (r, e) (found name (earlier ++ f ∷ []) fs (new_more name f earlier h e))
  ]
]

-- ---- the law

pub header_is_read : HeaderIsRead
header_is_read b w has =
    let p = part_from 1 [] (facts b) (facts_rows b w has) in (
      p.lines,
      record {
        last = p.last;
        read = p.read;
        fine = p.fine;
        defined = p.defined;
        differ = firsts_differ [] (facts b);
        names = λ name. found name [] (facts b) (λ f e. refl);
      },
    )
