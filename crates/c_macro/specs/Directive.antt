-- Directives (ISO C, 6.10.3 and 6.10.5): what a line defines, and the rule that it breaks.
use Rattle.std.specs.Prelude.{◌≡◌, ℕ, Bool, true, false, not, ◌&&◌, ◌||◌, List, [], ◌∷◌, ◌++◌, Option, Some, None, option_map, codes, drop, if◌then◌else◌}
use Rattle.std.specs.List.{list_any}
use Rattle.std.specs.Str.{bytes_eq}
use Rattle.edt_base.specs.declared.fault.Rule.{Rule}
use Rattle.edt_base.specs.declared.fault.Rule.TheVariants.{C5, C6}
use Rattle.c_tokens.specs.declared.tok.Tok.{Tok}
use Rattle.c_tokens.specs.declared.tok.TokKind.{TokKind}
use Rattle.c_tokens.specs.declared.tok.TokKind.TheVariants as kind
use Rattle.c_tokens.specs.LineData.{LineData}
use Rattle.c_macro.specs.MacroData.{Macro}

-- ---- tokens

abbrev pub is_word_kind : TokKind → Bool
is_word_kind kind.Ident = true
is_word_kind _ = false

abbrev pub is_punct_kind : TokKind → Bool
is_punct_kind kind.Punct = true
is_punct_kind _ = false

-- an identifier
abbrev pub is_word : Tok → Bool
is_word t = is_word_kind t.kind

-- the punctuator of these bytes
abbrev pub is_punct : List ℕ → Tok → Bool
is_punct bytes t = is_punct_kind t.kind && bytes_eq t.spell bytes

-- the name by which a body has its variable part
abbrev pub va_args : List ℕ
va_args = codes "__VA_ARGS__"

-- no macro has such a name
abbrev pub is_reserved : List ℕ → Bool
is_reserved name = bytes_eq name (codes "defined") || bytes_eq name va_args || bytes_eq name (codes "__VA_OPT__")

-- ---- parameters

-- the names of parameters, whether a variable part follows, and the tokens behind the closing bracket
pub record Params : Type 0 where
  pub names : List (List ℕ)
  pub variadic : Bool
  pub rest : List Tok

abbrev pub with_name : List ℕ → Params → Params
with_name name p = record { names = name ∷ p.names; variadic = p.variadic; rest = p.rest }

-- a parameter is an identifier, but not the name of the variable part
abbrev pub is_param : Tok → Bool
is_param t = is_word t && not (bytes_eq t.spell va_args)

-- behind a parameter: the closing bracket, or a comma and more parameters
abbrev pub params_behind : List ℕ → Tok → List Tok → Option Params → Option Params
params_behind name u ts more = if is_punct (codes ")") u then Some (record { names = name ∷ []; variadic = false; rest = ts })
    else if is_punct (codes ",") u then option_map (λ p. with_name name p) more else None

-- one parameter or more, of which the last may be `...`
abbrev pub some_params : List Tok → Option Params
some_params (t ∷ u ∷ ts) = if is_punct (codes "...") t && is_punct (codes ")") u then Some (record { names = []; variadic = true; rest = ts })
    else if is_param t then params_behind t.spell u ts (some_params ts) else None
some_params _ = None

-- the parameters behind the opening bracket
abbrev pub params_of : List Tok → Option Params
params_of [] = None
params_of (t ∷ ts) = if is_punct (codes ")") t then Some (record { names = []; variadic = false; rest = ts }) else some_params (t ∷ ts)

-- no name stands twice
abbrev pub all_differ : List (List ℕ) → Bool
all_differ [] = true
all_differ (x ∷ xs) = not (list_any (bytes_eq x) xs) && all_differ xs

-- ---- bodies

-- the names that stand for arguments
abbrev pub all_params : List (List ℕ) → (variadic : Bool) → List (List ℕ)
all_params names variadic = names ++ (if variadic then va_args ∷ [] else [])

-- the token is one of these names
abbrev pub is_among : List (List ℕ) → Tok → Bool
is_among names t = is_word t && list_any (bytes_eq t.spell) names

abbrev pub begins_among : List (List ℕ) → List Tok → Bool
begins_among names [] = false
begins_among names (t ∷ ts) = is_among names t

-- a parameter stands behind each `#`
abbrev pub hashes_fit : List (List ℕ) → List Tok → Bool
hashes_fit names [] = true
hashes_fit names (t ∷ ts) = (not (is_punct (codes "#") t) || begins_among names ts) && hashes_fit names ts

abbrev pub begins_join : List Tok → Bool
begins_join [] = false
begins_join (t ∷ ts) = is_punct (codes "##") t

abbrev pub ends_join : List Tok → Bool
ends_join [] = false
ends_join (t ∷ []) = is_punct (codes "##") t
ends_join (t ∷ u ∷ ts) = ends_join (u ∷ ts)

-- the token is the name of the variable part
abbrev pub is_va_args : Tok → Bool
is_va_args t = is_word t && bytes_eq t.spell va_args

-- no `##` stands at an end, and the variable part is named only where there is one
abbrev pub is_body : (variadic : Bool) → List Tok → Bool
is_body variadic body = not (begins_join body) && not (ends_join body) && (variadic || not (list_any is_va_args body))

-- ---- directives

pub data Directive : Type 0 where
  Nothing : Directive
  Define : (name : List ℕ) (m : Macro) → Directive
  Undefine : (name : List ℕ) → Directive

abbrev pub object_macro : List Tok → Option Macro
object_macro body = if is_body false body then Some (record { params = None; variadic = false; body = body }) else None

-- these parameters and the body behind them make a macro
abbrev pub is_function : Params → Bool
is_function p = all_differ p.names && is_body p.variadic p.rest && hashes_fit (all_params p.names p.variadic) p.rest

abbrev pub function_macro : Option Params → Option Macro
function_macro None = None
function_macro (Some p) = if is_function p
    then Some (record { params = Some p.names; variadic = p.variadic; body = p.rest }) else None

-- the macro that these tokens behind its name define: a bracket directly behind the name makes it function-like, and white space stands before the body of another
abbrev pub macro_of : List Tok → Option Macro
macro_of [] = object_macro []
macro_of (t ∷ ts) = if t.spaced then object_macro (t ∷ ts) else if is_punct (codes "(") t then function_macro (params_of ts) else None

abbrev pub definition_of : List Tok → Option Directive
definition_of [] = None
definition_of (n ∷ ts) = if is_word n && not (is_reserved n.spell) then option_map (λ m. Define n.spell m) (macro_of ts) else None

abbrev pub undefinition_of : List Tok → Option Directive
undefinition_of (n ∷ []) = if is_word n then Some (Undefine n.spell) else None
undefinition_of _ = None

-- the directive of these tokens behind its `#`, `None` where it is another one or malformed
abbrev pub directive_of : List Tok → Option Directive
directive_of [] = Some Nothing
directive_of (t ∷ ts) = if is_word t && bytes_eq t.spell (codes "define") then definition_of ts
    else if is_word t && bytes_eq t.spell (codes "undef") then undefinition_of ts else None

-- ---- sameness

abbrev pub same_kind : TokKind → TokKind → Bool
same_kind kind.Ident kind.Ident = true
same_kind kind.Number kind.Number = true
same_kind kind.Char kind.Char = true
same_kind kind.Str kind.Str = true
same_kind kind.Punct kind.Punct = true
same_kind kind.Other kind.Other = true
same_kind _ _ = false

abbrev pub same_tok : Tok → Tok → Bool
same_tok t u = same_kind t.kind u.kind && bytes_eq t.spell u.spell

abbrev pub same_bool : Bool → Bool → Bool
same_bool true b = b
same_bool false b = not b

-- the same tokens with the same white space between them
abbrev pub same_spaced : List Tok → List Tok → Bool
same_spaced [] [] = true
same_spaced (t ∷ ts) (u ∷ us) = same_tok t u && same_bool t.spaced u.spaced && same_spaced ts us
same_spaced _ _ = false

-- white space before the first token is no part of a body
abbrev pub same_body : List Tok → List Tok → Bool
same_body [] [] = true
same_body (t ∷ ts) (u ∷ us) = same_tok t u && same_spaced ts us
same_body _ _ = false

abbrev pub same_names : List (List ℕ) → List (List ℕ) → Bool
same_names [] [] = true
same_names (x ∷ xs) (y ∷ ys) = bytes_eq x y && same_names xs ys
same_names _ _ = false

abbrev pub same_params : Option (List (List ℕ)) → Option (List (List ℕ)) → Bool
same_params None None = true
same_params (Some xs) (Some ys) = same_names xs ys
same_params _ _ = false

-- two definitions are the same: parameters, tokens and white space between tokens agree
abbrev pub same_macro : Macro → Macro → Bool
same_macro m n = same_params m.params n.params && same_bool m.variadic n.variadic && same_body m.body n.body

-- ---- what a line does

-- what is defined, and which names are locked
pub record Known : Type 0 where
  pub defs : List ℕ → Option Macro
  pub locked : List ℕ → Bool

-- a name that has another macro is not defined anew
abbrev pub redefined : Option Macro → Macro → Option Rule
redefined None m = None
redefined (Some old) m = if same_macro old m then None else Some C5

-- the rule that a directive breaks
abbrev pub broken_by : Known → Option Directive → Option Rule
broken_by k None = Some C6
broken_by k (Some Nothing) = None
broken_by k (Some (Define name m)) = redefined (k.defs name) m
broken_by k (Some (Undefine name)) = if k.locked name then Some C5 else None

abbrev pub text_directive : List Tok → Option Directive
text_directive [] = Some Nothing
text_directive (t ∷ ts) = None

-- the directive of a line; a line without tokens does nothing, and a line of text is none
abbrev pub line_directive : LineData → Option Directive
line_directive line = if line.directive then directive_of (drop 1 line.toks) else text_directive line.toks

-- the macro of a name after a directive: what is defined stays
abbrev pub first_some : Option Macro → Option Macro → Option Macro
first_some None o = o
first_some (Some m) o = Some m

abbrev pub defs_after : (List ℕ → Option Macro) → Option Directive → List ℕ → Option Macro
defs_after d None name = d name
defs_after d (Some Nothing) name = d name
defs_after d (Some (Define n m)) name = first_some (d name) (if bytes_eq name n then Some m else None)
defs_after d (Some (Undefine n)) name = if bytes_eq n name then None else d name

-- what is known before and after a directive
pub record Follows (k : Known) (d : Option Directive) (k' : Known) : Type 0 where
  pub defs : (name : List ℕ) → k'.defs name ≡ defs_after k.defs d name
  pub locked : (name : List ℕ) → k'.locked name ≡ k.locked name
