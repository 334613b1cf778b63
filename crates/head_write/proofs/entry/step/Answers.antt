use Rattle.std.proofs.Common.{arith}
use Rattle.head_write.proofs.Doubles.{past_all}
use Rattle.head_write.proofs.entry.step.Goals as goal

pub returns-else-place-lt18446744073709551615 : goal.returns-else-place-lt18446744073709551615
returns-else-place-lt18446744073709551615 c =
    λ facts. past_all _ _ _ facts (λ k. omega (arith, c.type_inv.doubles k, c.if-place-lt18446744073709551615.false))
