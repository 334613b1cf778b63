use Rattle.std.proofs.Common.{◌≡◌, ◌++◌, length}
use Rattle.dts_parse.specs.Texts.{unescaped, within}
use Rattle.dts_parse.proofs.texts.text_bytes.Given as goal

abbrev pub invariant-loop-first : goal.invariant-loop-first
invariant-loop-first l = l.out.items ++ unescaped 0 l.rest ≡ unescaped 0 (within 1 l.text)

abbrev pub decreases-loop-first : goal.decreases-loop-first
decreases-loop-first l = length l.rest
