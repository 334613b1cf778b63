use Rattle.std.proofs.Common.{◌∙◌, ap, slice_index_or, List, Bool, false}
use Rattle.c_macro.proofs.MachineLaws.{todo_is}
use Rattle.c_macro.proofs.machine.todo_of.Goals as goal

pub returns-clause-is : goal.returns-clause-is
returns-clause-is c = λ s ps count n l.
    todo_is s (record { written = c.in_ok-written.written; raw = c.keep_if-raw.result; wanted = c.flag-wanted.result }) ps c.args.number c.args.row c.flag.result
    (c.flag.ensures ∙ (ap (λ (xs : List Bool). slice_index_or xs c.args.number false) c.as_slice-2.ensures.value ∙ n.written c.args.number l))
    (c.flag-wanted.ensures ∙ (ap (λ (xs : List Bool). slice_index_or xs c.args.number false) c.as_slice.ensures.value ∙ n.full c.args.number l)) c.keep_if-raw.ensures c.in_ok-written.ensures
