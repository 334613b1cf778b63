use Rattle.std.proofs.Common.{◌≡◌, ◌≤◌, length, arith}
use Rattle.std.specs.List.{prefix_len}
use Rattle.dts_lex.specs.Tokens.{is_narrow, is_word_byte}
use Rattle.dts_lex.proofs.SizeLaws.{prefix_within}
use Rattle.dts_lex.proofs.token.known_length.Goals as goal

pub returns-then-known-gt0-clause-within : goal.returns-then-known-gt0-clause-within
returns-then-known-gt0-clause-within c =
    let e : prefix_len (is_word_byte (is_narrow c.args.opened)) c.args.bytes.now ≡ c.args.known = c.requires (c.if-known-gt0.true) in
    let h : prefix_len (is_word_byte (is_narrow c.args.opened)) c.args.bytes.now ≤ length c.args.bytes.now = prefix_within (is_word_byte (is_narrow c.args.opened)) c.args.bytes.now in
    omega arith
