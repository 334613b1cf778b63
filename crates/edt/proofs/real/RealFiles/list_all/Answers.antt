use Rattle.std.specs.Prelude.{IsTrue}
use Rattle.std.proofs.lemmas.List.Sorted.{All-permutation}
use Rattle.edt_base.specs.Outside.{is_binding_below}
use Rattle.edt.proofs.real.RealFiles.list_all.Goals as goal

pub returns-clause-below : goal.returns-clause-below
returns-clause-below g c = All-permutation (λ name. IsTrue (is_binding_below c.args.dir.now name)) _ _ c.sort.ensures.permutation c.loop.invariant.1
