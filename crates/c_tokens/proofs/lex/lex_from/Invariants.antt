use Rattle.std.proofs.Common.{◌≡◌, length}
use Rattle.c_tokens.specs.Lexed.{lexed_behind}
use Rattle.c_tokens.specs.Lexing.{behind_toks}
use Rattle.c_tokens.proofs.lex.lex_from.Given as goal

abbrev pub invariant-loop-rest : goal.invariant-loop-rest
invariant-loop-rest l = behind_toks l.toks.items (lexed_behind l.spaced 0 l.rest) ≡ behind_toks l.initial.toks.items (lexed_behind l.initial.spaced 0 l.bytes)

abbrev pub decreases-loop-rest : goal.decreases-loop-rest
decreases-loop-rest l = length l.rest
