-- What the header's definitions define.
use Rattle.std.specs.Prelude.{◌++◌, ℕ, Bool, true, false, List, [], ◌∷◌, Option, Some, None, codes, option_map, if◌then◌else◌}
use Rattle.std.specs.Str.{bytes_eq}
use Rattle.edt_base.specs.BoundData.{BoundData}
use Rattle.c_tokens.specs.declared.tok.Tok.{Tok}
use Rattle.c_tokens.specs.Lexed.{Lexed, lexed}
use Rattle.c_macro.specs.Expansion.{Macros}
use Rattle.c_macro.specs.MacroData.{Macro}
use Rattle.dt_names.specs.Facts.{FactData, facts, full_name}
use Rattle.dt_names.specs.Pieces.{spells}
use Rattle.dt_names.specs.declared.piece.Params.{Params}
use Rattle.dt_names.specs.declared.piece.Params.TheVariants.{Plain, Fn, FnSep, FnVargs}

-- the names of parameters, none where the definition has no brackets
abbrev pub param_names : Params → Option (List (List ℕ))
param_names Plain = None
param_names Fn = Some (codes "fn" ∷ [])
param_names FnSep = Some (codes "fn" ∷ codes "sep" ∷ [])
param_names FnVargs = Some (codes "fn" ∷ [])

-- a variable part stands behind them
abbrev pub is_variadic : Params → Bool
is_variadic FnVargs = true
is_variadic _ = false

abbrev pub toks_in : Option Lexed → List Tok
toks_in None = []
toks_in (Some l) = l.toks

-- the macro of a definition, its body read as C text behind a space
abbrev pub fact_macro : FactData → Macro
fact_macro f = record {
  params = param_names f.params;
  variadic = is_variadic f.params;
  body = toks_in (lexed false (codes " " ++ spells f.body));
}

-- the first definition of a name
abbrev pub named : List ℕ → List FactData → Option FactData
named name [] = None
named name (f ∷ fs) = if bytes_eq name (spells (full_name f)) then Some f else named name fs

-- the header's macro of a name
abbrev pub header_macro : BoundData → Macros
header_macro b name = option_map fact_macro (named name (facts b))
