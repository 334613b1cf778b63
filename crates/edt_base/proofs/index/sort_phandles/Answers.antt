use Rattle.std.proofs.Common.{rules}
use Rattle.std.proofs.lemmas.Fn.{always_returns_same}
use Rattle.edt_base.specs.declared.index.PhandlePlace.{PhandlePlace}
use Rattle.edt_base.proofs.index.sort_phandles.Goals as goal

pub returns-clause-sorted : goal.returns-clause-sorted
returns-clause-sorted c =
    c.sort_unstable_by_key.ensures.sorted (λ (e : PhandlePlace). e.phandle) (always_returns_same _ _ _ (λ a r f' k. (search rules, search rules)))
