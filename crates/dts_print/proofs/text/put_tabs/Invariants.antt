use Rattle.std.proofs.Common.{true}
use Rattle.edt_base.specs.Put.{Put}
use Rattle.dts_print.specs.Printed.{tabs}
use Rattle.dts_print.proofs.text.put_tabs.Given as goal

abbrev pub invariant-loop-tab : goal.invariant-loop-tab
invariant-loop-tab g l =
    Put (g.S.Sink.seen l.initial.out) (g.S.Sink.seen l.out) l.initial.block l.block (tabs l._tab) true
