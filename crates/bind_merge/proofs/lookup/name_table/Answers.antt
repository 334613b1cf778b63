use Rattle.std.proofs.Common.{◌≡◌, ◌∙◌, subst, map}
use Rattle.bind_merge.specs.Adding.{IsSortedOf}
use Rattle.bind_merge.specs.Joining.{ClashIn}
use Rattle.bind_merge.specs.Looking.{bare}
use Rattle.bind_merge.proofs.Looked.{bare-agrees, name-table}
use Rattle.bind_merge.proofs.lookup.name_table.Goals as goal

pub unreachable-requires : goal.unreachable-requires
unreachable-requires c =
    let e : c.as_slice.result.now ≡ map bare c.args.names.now = c.as_slice.ensures.value ∙ c.in_ok-bare.ensures in
    let k : ClashIn c.as_slice.result.now c.as_slice.result.now = rw c.in-None.is at c.in_ok-table.ensures in
    bare-agrees c.args.names.now (subst (λ r. ClashIn r r) e k)

pub returns : goal.returns
returns c =
    let e : c.as_slice.result.now ≡ map bare c.args.names.now = c.as_slice.ensures.value ∙ c.in_ok-bare.ensures in
    let k : IsSortedOf c.as_slice.result.now c.in-Some.table.items = rw c.in-Some.is at c.in_ok-table.ensures in
    name-table c.args.names.now c.in-Some.table.items (subst (λ r. IsSortedOf r c.in-Some.table.items) e k)
