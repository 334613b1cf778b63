use Rattle.std.proofs.Common.{◌≡◌, ◌<◌, true, false, refl, sym, ap, ◌∙◌, length, arith, rules, Some, None, take, List, ◌∷◌, [], ◌++◌, option_map, if◌then◌else◌, Option}
use Rattle.std.specs.Str.{is_utf8}
use Rattle.c_tokens.specs.declared.tok.Tok.{Tok}
use Rattle.c_tokens.specs.declared.grammar.Piece.TheVariants as piece
use Rattle.c_tokens.specs.Grammar.{front}
use Rattle.c_tokens.specs.Lexing.{behind_toks}
use Rattle.c_tokens.specs.Lexed.{lexed_behind}
use Rattle.c_tokens.proofs.LexedLaws.{lexed_gap, lexed_unclosed, lexed_token, lexed_nothing, lexed_none, kept_gap, kept_token, refused_token, ends_unclosed, ends_nothing, ends_whole}
use Rattle.c_tokens.proofs.lex.lex_from.Goals as goal

pub loop-rest-preserved-in-Gap : goal.loop-rest-preserved-in-Gap
loop-rest-preserved-in-Gap c =
    rw c.behind-rest.ensures (kept_gap _ c.loop-rest.spaced c.in-Gap.n c.loop-rest.toks.items _ (search rules) (sym c.in-Gap.ensures.is) c.in-Gap.ensures.within.0 c.loop-rest.invariant)

pub returns-in-Unclosed : goal.returns-in-Unclosed
returns-in-Unclosed c = ends_unclosed _ c.loop-rest.spaced c.loop-rest.toks.items _ (search rules) (sym c.in-Unclosed.ensures.is) c.loop-rest.invariant

pub returns-in_default : goal.returns-in_default
returns-in_default c =
    refused_token _ c.split_at.result.0.now c.loop-rest.spaced c.in-Token.kind c.in-Token.n c.loop-rest.toks.items _ (search rules) (sym c.in-Token.ensures.is) c.in-Token.ensures.within.0
    c.split_at.ensures.front (rw c.in_default.is at c.in_ok-tok-in-Token.ensures) c.loop-rest.invariant

pub loop-rest-preserved : goal.loop-rest-preserved
loop-rest-preserved c =
    rw (c.in_ok-push-in-Token.ensures.items, c.split_at.ensures.back)
    (kept_token _ c.split_at.result.0.now c.loop-rest.spaced c.in-Token.kind c.in-Token.n c.loop-rest.toks.items _ _ (search rules) (sym c.in-Token.ensures.is) c.in-Token.ensures.within.0
    c.split_at.ensures.front (rw c.in-Some.is at c.in_ok-tok-in-Token.ensures) c.loop-rest.invariant)

pub returns-in-Nothing : goal.returns-in-Nothing
returns-in-Nothing c = ends_nothing _ c.loop-rest.spaced c.loop-rest.toks.items _ (search rules) (sym c.in-Nothing.ensures.is) c.loop-rest.invariant

pub returns : goal.returns
returns c = ends_whole _ c.loop-rest.spaced c.loop-rest.toks.items _ (search rules) c.loop-rest.invariant
