use Rattle.std.proofs.Common.{◌≡◌, true, false, sym, ap, ◌∙◌, rules}
use Rattle.c_tokens.specs.Lexing.{behind_toks}
use Rattle.c_tokens.proofs.LexedLaws.{lexed_behind_comment}
use Rattle.c_tokens.proofs.lex.lex_line.Goals as goal

pub returns-in_ok-end-in-Some : goal.returns-in_ok-end-in-Some
returns-in_ok-end-in-Some c =
    c.in_ok-end-in-Some.ensures
    ∙ ap (behind_toks c.args.toks.now.items) (lexed_behind_comment c.args.bytes.now _ c.in-Some.n c.args.commented (search rules) (sym c.in-Some.ensures.is) c.behind.ensures)
