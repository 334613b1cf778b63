-- The API text is read row by row.
use Rattle.std.proofs.Common.{◌≡◌, ◌∙◌, ◌+◌, ◌<◌, ◌++◌, ℕ, suc, Bool, true, false, not, ◌&&◌, List, [], ◌∷◌, Option, Some, None, length, map, nat_eq, refl, sym, ap, subst, arith, append_assoc, add-zero, drop, if◌then◌else◌}
use Rattle.std.specs.List.{cons_option, filter_map, list_all}
use Rattle.std.specs.Option.{option_and_then}
use Rattle.std.specs.Str.{is_utf8, chars}
use Rattle.std.proofs.lemmas.Bool.{and_from, and_parts}
use Rattle.c_tokens.specs.declared.tok.Tok.{Tok}
use Rattle.c_tokens.specs.LineData.{LineData}
use Rattle.c_tokens.specs.Lexed.{Lexed, lexed, lexed_behind}
use Rattle.c_tokens.specs.Lines.{AtEnd, Cut, Logical, LogicalLine, LinesOf, Unread, begins_hash, closes, cut, line_of, no_more, one_more, with_byte}
use Rattle.c_macro.specs.Directive.{Define, Directive, Nothing, all_differ, directive_of, line_directive, text_directive}
use Rattle.dt_api.specs.ApiText.{api_lines, api_text, text_of}
use Rattle.dt_api.specs.Defining.{Definition, api_definitions, defined_as, defined_by, definitions_in}
use Rattle.dt_api.specs.Laws.{ApiTextIsRead, IsApiRead}

-- ---- rows

-- a byte that neither ends a line nor joins it to the next
abbrev is_plain : ℕ → Bool
is_plain b = not (nat_eq b 92) && not (nat_eq b 10)

-- the line of a row's tokens
abbrev row_line : ℕ → Option Lexed → LineData
row_line number None = line_of number (record { toks = []; rest = []; newlines = 1 })
row_line number (Some l) = line_of number (record { toks = l.toks; rest = []; newlines = 1 })

-- it is blank or defines a name
abbrev pub is_fine : Option Directive → Bool
is_fine (Some Nothing) = true
is_fine (Some (Define name m)) = true
is_fine _ = false

abbrev is_whole : Option Lexed → Bool
is_whole None = false
is_whole (Some l) = not l.unclosed && is_fine (line_directive (row_line 0 (Some l)))

abbrev is_row : List ℕ → Bool
is_row line = list_all is_plain line && is_whole (lexed false line)

-- the lines of rows
abbrev pub lines_of : ℕ → List (List ℕ) → List LineData
lines_of number [] = []
lines_of number (row ∷ rows) = row_line number (lexed false row) ∷ lines_of (number + 1) rows

-- ---- a row is a line

abbrev ended : List ℕ → List ℕ → Cut
ended line rest = record { bytes = line; rest = rest; newlines = 1 }

negated : (b : Bool) → not b ≡ true → b ≡ false
negated false e = refl
negated true e = cc

cut_row : (line rest : List ℕ) → list_all is_plain line ≡ true → cut (line ++ 10 ∷ rest) ≡ ended line rest
cut_row [] [] h = refl
cut_row [] (r ∷ rest) h = refl
cut_row (b ∷ []) rest h =
    let p = and_parts _ _ (and_parts _ _ h).0 in
    rw (negated (nat_eq b 92) p.0, negated (nat_eq b 10) p.1) (ap (with_byte b) (cut_row [] rest refl))
cut_row (b ∷ c ∷ bs) rest h =
    let q = and_parts _ _ h in
    let p = and_parts _ _ q.0 in
    rw (negated (nat_eq b 92) p.0, negated (nat_eq b 10) p.1) (ap (with_byte b) (cut_row (c ∷ bs) rest q.1))

record Whole (o : Option Lexed) : Type 0 where
  pub toks : List Tok
  pub is : o ≡ Some (record { toks = toks; unclosed = false })

whole : (o : Option Lexed) → is_whole o ≡ true → Whole o
whole None e = cc
whole (Some l) e =
    let closed_here = negated l.unclosed (and_parts _ _ e).0 in
    record { toks = l.toks; is = ap (λ b. Some (record { toks = l.toks; unclosed = b })) closed_here }

text_cons : (row : List ℕ) (rows : List (List ℕ)) → text_of (row ∷ rows) ≡ row ++ 10 ∷ text_of rows
text_cons row rows = append_assoc row (10 ∷ []) (text_of rows)

abbrev unread : ℕ → List ℕ → Unread
unread number text = record { rest = text; number = number }

read_one : (number : ℕ) (row rest : List ℕ) (lines : List LineData) (last : ℕ) → is_row row ≡ true
    → LinesOf (unread (number + 1) rest) lines (AtEnd last)
    → LinesOf (unread number (row ++ 10 ∷ rest)) (row_line number (lexed false row) ∷ lines) (AtEnd last)
read_one number row rest lines last h go =
    let parts = and_parts _ _ h in
    let w = whole (lexed false row) parts.1 in
    let c = cut_row row rest parts.0 in
    let l : Logical = record { toks = w.toks; rest = rest; newlines = 1 } in
    let line : LogicalLine false (row ++ 10 ∷ rest) (Some l) = as_line c (closes false (row ++ 10 ∷ rest) w.toks (ap (λ k. lexed false k.bytes) c ∙ w.is)) in
    subst (λ o. LinesOf (unread number (row ++ 10 ∷ rest)) (row_line number o ∷ lines) (AtEnd last)) (sym w.is)
    (one_more (unread number (row ++ 10 ∷ rest)) l lines (AtEnd last) (longer row) line go)
  where
    longer : (xs : List ℕ) → 0 < length (xs ++ 10 ∷ rest)
    longer [] = omega arith
    longer (b ∷ bs) = omega arith

    as_line : {toks : List Tok} → cut (row ++ 10 ∷ rest) ≡ ended row rest
        → LogicalLine false (row ++ 10 ∷ rest) (Some (record { toks = toks; rest = (cut (row ++ 10 ∷ rest)).rest; newlines = (cut (row ++ 10 ∷ rest)).newlines }))
        → LogicalLine false (row ++ 10 ∷ rest) (Some (record { toks = toks; rest = rest; newlines = 1 }))
    as_line {toks} c h = subst (λ k. LogicalLine false (row ++ 10 ∷ rest) (Some (record { toks = toks; rest = k.rest; newlines = k.newlines }))) c h

next_is : (n m : ℕ) → n + 1 + m ≡ n + suc m
next_is n m = omega arith

-- rows are read as their lines
read_rows : (number : ℕ) (rows : List (List ℕ)) → list_all is_row rows ≡ true
    → LinesOf (unread number (text_of rows)) (lines_of number rows) (AtEnd (number + length rows))
read_rows number [] h = subst (λ n. LinesOf (unread number []) [] (AtEnd n)) (sym (add-zero number)) (no_more (unread number []) refl)
read_rows number (row ∷ rows) h =
    let parts = and_parts _ _ h in
    let go = read_rows (number + 1) rows parts.1 in
    let last : number + 1 + length rows ≡ number + length (row ∷ rows) = next_is number (length rows) in
    subst (λ text. LinesOf (unread number text) (lines_of number (row ∷ rows)) (AtEnd (number + length (row ∷ rows)))) (sym (text_cons row rows))
    (read_one number row (text_of rows) (lines_of (number + 1) rows) (number + length (row ∷ rows)) parts.0
    (subst (λ n. LinesOf (unread (number + 1) (text_of rows)) (lines_of (number + 1) rows) (AtEnd n)) last go))

-- ---- what rows define

abbrev pub defined_in : List LineData → List Definition
defined_in lines = filter_map (λ line. defined_as (line_directive line)) lines

defines_same : (number : ℕ) (o : Option Lexed) → defined_as (line_directive (row_line number o)) ≡ option_and_then defined_by o
defines_same number None = refl
defines_same number (Some l) = by_hash (begins_hash l.toks) l.toks refl
  where
    by_hash : (b : Bool) (toks : List Tok) → begins_hash toks ≡ b
        → defined_as (if b then directive_of (drop 1 toks) else text_directive toks) ≡ (if b then defined_as (directive_of (drop 1 toks)) else None)
    by_hash true toks e = refl
    by_hash false [] e = refl
    by_hash false (t ∷ ts) e = refl

rows_define : (number : ℕ) (rows : List (List ℕ)) → defined_in (lines_of number rows) ≡ definitions_in rows
rows_define number [] = refl
rows_define number (row ∷ rows) =
    ap (λ o. cons_option o (defined_in (lines_of (number + 1) rows))) (defines_same number (lexed false row))
    ∙ ap (λ ds. cons_option (option_and_then defined_by (lexed false row)) ds) (rows_define (number + 1) rows)

-- ---- the text

are_rows : list_all is_row api_lines ≡ true
unfolding lexed_behind is_utf8 chars lib.Utf8.encode
are_rows = refl

names_differ : all_differ (map (λ (d : Definition). d.0) api_definitions) ≡ true
unfolding lexed_behind is_utf8 chars lib.Utf8.encode
names_differ = refl

abbrev pub api_rows : List LineData
api_rows = lines_of 1 api_lines

abbrev pub is_fine_line : LineData → Bool
is_fine_line line = is_fine (line_directive line)

fine_row : (number : ℕ) (o : Option Lexed) → is_whole o ≡ true → is_fine_line (row_line number o) ≡ true
fine_row number None h = cc
fine_row number (Some l) h = let p : (not l.unclosed ≡ true) × (is_fine (line_directive (row_line 0 (Some l))) ≡ true) = and_parts _ _ h in p.1

fine_rows : (number : ℕ) (rows : List (List ℕ)) → list_all is_row rows ≡ true → list_all is_fine_line (lines_of number rows) ≡ true
fine_rows number [] h = refl
fine_rows number (row ∷ rows) h =
    let p : (is_row row ≡ true) × (list_all is_row rows ≡ true) = and_parts _ _ h in
    let q : (list_all is_plain row ≡ true) × (is_whole (lexed false row) ≡ true) = and_parts _ _ p.0 in
    and_from _ _ (fine_row number (lexed false row) q.1) (fine_rows (number + 1) rows p.1)

pub rows_are_fine : list_all is_fine_line api_rows ≡ true
rows_are_fine = fine_rows 1 api_lines are_rows

pub api_read : LinesOf (record { rest = api_text; number = 1 }) api_rows (AtEnd 128)
api_read = read_rows 1 api_lines are_rows

pub is_api_read : IsApiRead api_rows
is_api_read = record { read = api_read; defined = rows_define 1 api_lines; differ = names_differ }

pub api_text_is_read : ApiTextIsRead
api_text_is_read = (api_rows, is_api_read)
