use Rattle.std.proofs.Common.{◌≡◌, ◌<◌, ◌≤◌, length, rules}
use Rattle.c_tokens.specs.Bytes.{byte_at}
use Rattle.c_tokens.specs.Grammar.{punctuator_length}
use Rattle.c_tokens.proofs.GrammarLaws.{punctuator_fits, sign_within}
use Rattle.c_tokens.proofs.grammar.plain_front.Goals as goal

pub returns-else-begins_number-clause-within : goal.returns-else-begins_number-clause-within
returns-else-begins_number-clause-within c =
    rw (c.sign_of_length.ensures, c.punctuator_length.ensures.is, c.byte_at-a.ensures.is, c.byte_at-b.ensures.is, c.byte_at.ensures.is)
    (sign_within _ _ _ c.requires (punctuator_fits c.args.bytes.now c.requires))
