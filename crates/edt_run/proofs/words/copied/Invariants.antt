use Rattle.std.specs.Prelude.{◌≡◌, take}
use Rattle.edt_run.proofs.words.copied.Given as goal

abbrev pub invariant-loop-name : goal.invariant-loop-name
invariant-loop-name l = l.copies.items ≡ take l.name-index l.names
