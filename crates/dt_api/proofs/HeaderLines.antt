-- The line of a definition is read as a directive that defines it.
use Rattle.std.proofs.Common.{◌≡◌, ◌∙◌, ◌++◌, ℕ, Bool, true, false, not, ◌&&◌, ◌||◌, List, [], ◌∷◌, Some, option_map, codes, drop, refl, sym, ap, subst}
use Rattle.std.specs.List.{list_all, list_any}
use Rattle.std.proofs.lemmas.Bool.{and_parts, and_from, eqb-true}
use Rattle.c_tokens.specs.declared.tok.Tok.{Tok}
use Rattle.c_tokens.specs.Bytes.{is_word_byte}
use Rattle.c_tokens.specs.Laws.{is_identifier}
use Rattle.c_tokens.specs.Lexed.{lexed}
use Rattle.c_macro.specs.Directive.{Define, begins_join, directive_of, ends_join, hashes_fit, is_body, is_punct, is_va_args, macro_of, va_args}
use Rattle.c_macro.specs.MacroData.{Macro}
use Rattle.dt_names.specs.Facts.{FactData, full_name}
use Rattle.dt_names.specs.Pieces.{PieceData, form, lit, num, spells, str}
use Rattle.dt_names.specs.declared.piece.Params.{Params}
use Rattle.dt_names.specs.declared.piece.Params.TheVariants as params
use Rattle.dt_api.specs.HeaderDefs.{fact_macro, is_variadic, param_names, toks_in}
use Rattle.dt_api.specs.HeaderLaw.{IsReadAsDefined, LinesAreRead, body_text, params_text}
use Rattle.dt_api.proofs.BodyReads.{AreFine, IsBody, is_fine, is_spaced}
use Rattle.dt_api.proofs.HeaderTable.{IsRow, begins_d, is_row}
use Rattle.dt_api.proofs.PieceReads.{are_words, words_spelled}
use Rattle.dt_api.proofs.TokenReads.{Reads, a_sign, a_word, is_fresh, nothing, reads_gap, reads_none, reads_sign, reads_token, sign_token, word_token}

negated : (b : Bool) → not b ≡ true → b ≡ false
negated false e = refl
negated true e = cc

-- ---- fine tokens make a body

record Fine (variadic : Bool) (t : Tok) : Type 0 where
  pub hash : is_punct (codes "#") t ≡ false
  pub join : is_punct (codes "##") t ≡ false
  pub part : (variadic || not (is_va_args t)) ≡ true

fine_parts : (variadic : Bool) (t : Tok) → is_fine variadic t ≡ true → Fine variadic t
fine_parts variadic t h =
    let p : (not (is_punct (codes "#") t) ≡ true) × ((not (is_punct (codes "##") t) && (variadic || not (is_va_args t))) ≡ true) = and_parts _ _ h in
    let q : (not (is_punct (codes "##") t) ≡ true) × ((variadic || not (is_va_args t)) ≡ true) = and_parts _ _ p.1 in
    record { hash = negated (is_punct (codes "#") t) p.0; join = negated (is_punct (codes "##") t) q.0; part = q.1 }

first_no_join : (variadic : Bool) (toks : List Tok) → AreFine variadic toks → begins_join toks ≡ false
first_no_join variadic [] h = refl
first_no_join variadic (t ∷ ts) h = let p : (is_fine variadic t ≡ true) × (AreFine variadic ts) = and_parts _ _ h in (fine_parts variadic t p.0).join

last_no_join : (variadic : Bool) (toks : List Tok) → AreFine variadic toks → ends_join toks ≡ false
last_no_join variadic [] h = refl
last_no_join variadic (t ∷ []) h = let p : (is_fine variadic t ≡ true) × (AreFine variadic []) = and_parts _ _ h in (fine_parts variadic t p.0).join
last_no_join variadic (t ∷ u ∷ ts) h = let p : (is_fine variadic t ≡ true) × (AreFine variadic (u ∷ ts)) = and_parts _ _ h in last_no_join variadic (u ∷ ts) p.1

no_part : (toks : List Tok) → AreFine false toks → list_any is_va_args toks ≡ false
no_part [] h = refl
no_part (t ∷ ts) h =
    let p : (is_fine false t ≡ true) × (AreFine false ts) = and_parts _ _ h in
    rw (negated (is_va_args t) (fine_parts false t p.0).part) (no_part ts p.1)

part_fits : (variadic : Bool) (toks : List Tok) → AreFine variadic toks → (variadic || not (list_any is_va_args toks)) ≡ true
part_fits true toks h = refl
part_fits false toks h = ap not (no_part toks h)

fine_body : (variadic : Bool) (toks : List Tok) → AreFine variadic toks → is_body variadic toks ≡ true
fine_body variadic toks h = rw (first_no_join variadic toks h, last_no_join variadic toks h) (part_fits variadic toks h)

fine_hashes : (variadic : Bool) (names : List (List ℕ)) (toks : List Tok) → AreFine variadic toks → hashes_fit names toks ≡ true
fine_hashes variadic names [] h = refl
fine_hashes variadic names (t ∷ ts) h =
    let p : (is_fine variadic t ≡ true) × (AreFine variadic ts) = and_parts _ _ h in
    rw (fine_parts variadic t p.0).hash (fine_hashes variadic names ts p.1)

-- ---- parameters

abbrev opens : Tok
opens = a_sign false (codes "(")

abbrev closes : Tok
closes = a_sign false (codes ")")

abbrev comma : Tok
comma = a_sign false (codes ",")

abbrev params_toks : Params → List Tok
params_toks params.Plain = []
params_toks params.Fn = opens ∷ a_word false (codes "fn") ∷ closes ∷ []
params_toks params.FnSep = opens ∷ a_word false (codes "fn") ∷ comma ∷ a_word true (codes "sep") ∷ closes ∷ []
params_toks params.FnVargs = opens ∷ a_word false (codes "fn") ∷ comma ∷ a_sign true (codes "...") ∷ closes ∷ []

closes_reads : (rest : List ℕ) (toks : List Tok) → Reads false rest toks → Reads false (41 ∷ rest) (closes ∷ toks)
closes_reads rest toks h = reads_sign false 41 rest toks refl refl h

fn_reads : (rest : List ℕ) (toks : List Tok) → is_fresh rest ≡ true → Reads false rest toks → Reads false (codes "(fn" ++ rest) (opens ∷ a_word false (codes "fn") ∷ toks)
fn_reads rest toks fresh h = reads_sign false 40 (codes "fn" ++ rest) _ refl refl (reads_token false (a_word false (codes "fn")) rest toks (word_token false (codes "fn") refl) fresh h)

params_reads : (ps : Params) (rest : List ℕ) (toks : List Tok) → Reads false rest toks → Reads false (params_text ps ++ rest) (params_toks ps ++ toks)
params_reads params.Plain rest toks h = h
params_reads params.Fn rest toks h = fn_reads (41 ∷ rest) (closes ∷ toks) refl (closes_reads rest toks h)
params_reads params.FnSep rest toks h =
    let sep = reads_token true (a_word false (codes "sep")) (41 ∷ rest) _ (word_token false (codes "sep") refl) refl (closes_reads rest toks h) in
    fn_reads (codes ", sep)" ++ rest) _ refl (reads_sign false 44 (codes " sep)" ++ rest) _ refl refl (reads_gap false (codes "sep)" ++ rest) _ sep))
params_reads params.FnVargs rest toks h =
    let dots = reads_token true (a_sign false (codes "...")) (41 ∷ rest) _ (sign_token false (codes "...") refl refl) refl (closes_reads rest toks h) in
    fn_reads (codes ", ...)" ++ rest) _ refl (reads_sign false 44 (codes " ...)" ++ rest) _ refl refl (reads_gap false (codes "...)" ++ rest) _ dots))

abbrev macro : Params → List Tok → Macro
macro ps toks = record { params = param_names ps; variadic = is_variadic ps; body = toks }

plain_macro : (toks : List Tok) → is_spaced toks ≡ true → AreFine false toks → macro_of toks ≡ Some (macro params.Plain toks)
plain_macro [] spaced h = refl
plain_macro (t ∷ ts) spaced h = rw (spaced, fine_body false (t ∷ ts) h) refl

params_macro : (ps : Params) (toks : List Tok) → is_spaced toks ≡ true → AreFine (is_variadic ps) toks → macro_of (params_toks ps ++ toks) ≡ Some (macro ps toks)
params_macro params.Plain toks spaced h = plain_macro toks spaced h
params_macro params.Fn toks spaced h = rw (fine_body false toks h, fine_hashes false (codes "fn" ∷ []) toks h) refl
params_macro params.FnSep toks spaced h = rw (fine_body false toks h, fine_hashes false (codes "fn" ∷ codes "sep" ∷ []) toks h) refl
params_macro params.FnVargs toks spaced h = rw (fine_body true toks h, fine_hashes true (codes "fn" ∷ va_args ∷ []) toks h) refl

-- ---- the name

pub record IsName (name : List ℕ) : Type 0 where
  pub rest : List ℕ
  pub is : name ≡ 68 ∷ rest
  pub words : list_all is_word_byte rest ≡ true

pub name_parts : (ps : List PieceData) → begins_d ps ≡ true → are_words ps ≡ true → IsName (spells ps)
unfolding spells
name_parts [] b h = cc
name_parts (lit [] ∷ ps) b h = cc
name_parts (form t ∷ ps) b h = cc
name_parts (num n ∷ ps) b h = cc
name_parts (str t ∷ ps) b h = cc
name_parts (lit (c ∷ t) ∷ ps) b h =
    let d : c ≡ 68 = eqb-true c 68 b in
    let all : list_all is_word_byte (c ∷ (t ++ spells ps)) ≡ true = words_spelled (lit (c ∷ t) ∷ ps) h in
    let p : (is_word_byte c ≡ true) × (list_all is_word_byte (t ++ spells ps) ≡ true) = and_parts _ _ all in
    record { rest = t ++ spells ps; is = ap (λ x. x ∷ (t ++ spells ps)) d; words = p.1 }

-- ---- the line

-- what is behind the name
abbrev behind_text : FactData → List ℕ
behind_text f = params_text f.params ++ body_text f.body

behind_fresh : (ps : Params) (body : List PieceData) → is_fresh (params_text ps ++ body_text body) ≡ true
behind_fresh params.Plain [] = refl
behind_fresh params.Plain (p ∷ body) = refl
behind_fresh params.Fn body = refl
behind_fresh params.FnSep body = refl
behind_fresh params.FnVargs body = refl

no_toks : (toks : List Tok) → Reads true (spells []) toks → [] ≡ toks
unfolding spells
no_toks toks h = nothing (sym (reads_none true) ∙ h)

body_reads : (variadic : Bool) (body : List PieceData) (is : IsBody variadic body) → Reads false (body_text body) is.toks
body_reads variadic [] is = subst (λ z. Reads false [] z) (no_toks is.toks is.reads) (reads_none false)
body_reads variadic (p ∷ body) is = reads_gap false (spells (p ∷ body)) is.toks is.reads

body_read : (variadic : Bool) (body : List PieceData) (is : IsBody variadic body) → toks_in (lexed false (codes " " ++ spells body)) ≡ is.toks
body_read variadic body is = ap toks_in (reads_gap false (spells body) is.toks is.reads)

abbrev line_toks : List ℕ → Params → List Tok → List Tok
line_toks name ps toks = a_sign false (codes "#") ∷ a_word false (codes "define") ∷ a_word true name ∷ (params_toks ps ++ toks)

line_reads : (name behind : List ℕ) (toks : List Tok) → is_identifier name ≡ true → is_fresh behind ≡ true → Reads false behind toks
    → Reads false (codes "#define " ++ (name ++ behind)) (a_sign false (codes "#") ∷ a_word false (codes "define") ∷ a_word true name ∷ toks)
line_reads name behind toks id fresh h =
    let called = reads_token true (a_word true name) behind toks (word_token true name id) fresh h in
    reads_sign false 35 (codes "define " ++ (name ++ behind)) _ refl refl
    (reads_token false (a_word false (codes "define")) (32 ∷ (name ++ behind)) _ (word_token false (codes "define") refl) refl (reads_gap false (name ++ behind) _ called))

identifier_of : (name : List ℕ) → IsName name → is_identifier name ≡ true
identifier_of name n = subst (λ w. is_identifier w ≡ true) (sym n.is) (and_from _ _ refl n.words)

defines : (name : List ℕ) (ps : Params) (toks : List Tok) → IsName name → macro_of (params_toks ps ++ toks) ≡ Some (macro ps toks)
    → directive_of (drop 1 (line_toks name ps toks)) ≡ Some (Define name (macro ps toks))
defines name ps toks n h = subst (λ w. directive_of (drop 1 (line_toks w ps toks)) ≡ Some (Define w (macro ps toks))) (sym n.is) (ap (option_map (λ m. Define (68 ∷ n.rest) m)) h)

pub row_reads : (f : FactData) → IsRow f → IsReadAsDefined f
row_reads f row =
    let name = spells (full_name f) in
    let n = name_parts (full_name f) row.begins row.words in
    let toks = row.body.toks in
    let behind = params_reads f.params (body_text f.body) toks (body_reads (is_variadic f.params) f.body row.body) in
    let same : macro f.params toks ≡ fact_macro f = ap (macro f.params) (sym (body_read (is_variadic f.params) f.body row.body)) in
    record {
      toks = line_toks name f.params toks;
      read = line_reads name (behind_text f) (params_toks f.params ++ toks) (identifier_of name n) (behind_fresh f.params f.body) behind;
      hash = refl;
      directive = defines name f.params toks n (params_macro f.params toks row.body.first row.body.fine) ∙ ap (λ m. Some (Define name m)) same;
    }

pub lines_are_read : LinesAreRead
lines_are_read b f w has h = row_reads f (is_row b f w has h)
