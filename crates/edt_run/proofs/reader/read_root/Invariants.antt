use Rattle.std.proofs.Common.{◌≡◌, length}
use Rattle.edt_run.specs.Reader.{front_of}
use Rattle.edt_run.specs.Reading.{nested, start, tokens_of}
use Rattle.edt_run.proofs.reader.read_root.Given as goal

abbrev pub invariant-loop-brace : goal.invariant-loop-brace
invariant-loop-brace l = nested (front_of l.reader) (tokens_of l.tokens) ≡ nested start (tokens_of l.initial.tokens)

abbrev pub decreases-loop-brace : goal.decreases-loop-brace
decreases-loop-brace l = length l.tokens
