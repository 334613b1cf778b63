use Rattle.std.proofs.Common.{◌∙◌, sym}
use Rattle.dts_parse.specs.Inner.Shown.{shown}
use Rattle.dts_parse.proofs.ReadLaws.{answered, first_last, first_lex, lies, stop_is, taken_is}
use Rattle.dts_parse.proofs.source.read.Goals as goal

pub returns-in-Err-clause-stop : goal.returns-in-Err-clause-stop
returns-in-Err-clause-stop c = first_lex c.args.src.now c.args.base c.tokens.lexer c.in-Err.fault (shown c.tokens.parser) c.tokens.invariant c.in-Err.ensures.0

pub of-requires-clause-within : goal.of-requires-clause-within
of-requires-clause-within c = (lies c.args.src.now c.args.base c.tokens.lexer c.next.new.self c.in-Ok-Some.span (shown c.tokens.parser) c.tokens.invariant (rw c.in-Ok-Some.field-0-is at c.in-Ok-Some.ensures)).to

pub tokens-smaller : goal.tokens-smaller
tokens-smaller c = (lies c.args.src.now c.args.base c.tokens.lexer c.next.new.self c.in-Ok-Some.span (shown c.tokens.parser) c.tokens.invariant (rw c.in-Ok-Some.field-0-is at c.in-Ok-Some.ensures)).shorter

pub tokens-preserved : goal.tokens-preserved
tokens-preserved c =
    taken_is c.args.src.now c.args.base c.tokens.lexer c.next.new.self c.in-Ok-Some.span (shown c.tokens.parser) (shown c.take.new.self) c.of.result c.tokens.invariant
    (rw c.in-Ok-Some.field-0-is at c.in-Ok-Some.ensures) c.of.ensures c.in_default.ensures

pub returns-in-Err-take-clause-stop : goal.returns-in-Err-take-clause-stop
returns-in-Err-take-clause-stop c =
    stop_is c.args.src.now c.args.base c.tokens.lexer c.next.new.self c.in-Ok-Some.span (shown c.tokens.parser) (shown c.take.new.self) c.of.result c.in-Err-take.stop c.tokens.invariant
    (rw c.in-Ok-Some.field-0-is at c.in-Ok-Some.ensures) c.of.ensures c.in-Err-take.ensures

pub returns-then-is_whole-clause-answer : goal.returns-then-is_whole-clause-answer
returns-then-is_whole-clause-answer c = answered c.args.src.now c.args.base c.tokens.lexer (shown c.tokens.parser) c.tokens.invariant (rw c.in-Ok-None.field-0-is at c.in-Ok-None.ensures).0 (sym c.is_whole.ensures ∙ c.if-is_whole.true)

pub returns-else-is_whole-clause-stop : goal.returns-else-is_whole-clause-stop
returns-else-is_whole-clause-stop c = first_last c.args.src.now c.args.base c.tokens.lexer (shown c.tokens.parser) c.tokens.invariant (rw c.in-Ok-None.field-0-is at c.in-Ok-None.ensures).0 (sym c.is_whole.ensures ∙ c.if-is_whole.false)
