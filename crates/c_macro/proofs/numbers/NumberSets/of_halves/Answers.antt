use Rattle.std.proofs.Common.{arith}
use Rattle.c_macro.proofs.NumberLaws.{small_halves}
use Rattle.c_macro.proofs.numbers.NumberSets.of_halves.Goals as goal

pub returns-then-evens-lt2-clause-set : goal.returns-then-evens-lt2-clause-set
returns-then-evens-lt2-clause-set c = (c.requires.evens, small_halves c.args.self.now c.args.evens c.args.odds (omega arith) (omega arith))
