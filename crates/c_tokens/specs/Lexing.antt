-- How the program tells the tokens of a line.
use Rattle.std.specs.Prelude.{Bool, true, false, List, ◌++◌, Option, Some, None, option_map}
use Rattle.c_tokens.specs.declared.tok.Tok.{Tok}
use Rattle.c_tokens.specs.declared.lex.LineEnd.{LineEnd}
use Rattle.c_tokens.specs.declared.lex.LineEnd.TheVariants as ending
use Rattle.c_tokens.specs.Lexed.{Lexed}

-- these tokens and those
abbrev pub behind_toks : List Tok → Option Lexed → Option Lexed
behind_toks ts o = option_map (λ l. let r : Lexed = record { toks = ts ++ l.toks; unclosed = l.unclosed } in r) o

-- the tokens of a line that ended so
abbrev pub ended_as : LineEnd → List Tok → Option Lexed
ended_as ending.Whole toks = Some (record { toks = toks; unclosed = false })
ended_as ending.Unclosed toks = Some (record { toks = toks; unclosed = true })
ended_as ending.NoToken toks = None
