use Rattle.std.proofs.Common.{add-one, arith}
use Rattle.c_macro.specs.Table.{known_of}
use Rattle.edt_run.proofs.ExpandLaws.{answers_next, define_stops, undefined_so}
use Rattle.edt_run.proofs.definitions.definitions.Goals as goal

pub returns-in_err-define_all-clause-stopped : goal.returns-in_err-define_all-clause-stopped
returns-in_err-define_all-clause-stopped c =
    undefined_so c.args.names.now c.args.sources.now c.from_residual.result c.in_err-define_all.field-0.0 c.from_residual.ensures.1
    (define_stops c.args.names.now c.args.sources.now c.loop-i.i (known_of c.loop-i.defs) c.index-names-i.result c.index-sources-i.result c.in_err-define_all.field-0.0
    c.requires.as_many (omega (arith, c.loop-i-test.true)) c.index-names-i.is c.index-sources-i.is (rw c.as_slice.ensures at c.in_err-define_all.ensures.stopped) c.loop-i.invariant)

pub loop-i-preserved : goal.loop-i-preserved
loop-i-preserved c =
    answers_next c.args.names.now c.args.sources.now c.loop-i.i _ (known_of c.loop-i.defs) (known_of c.define_all.new.defs) c.index-names-i.result c.index-sources-i.result
    (add-one c.loop-i.i) c.requires.as_many (omega (arith, c.loop-i-test.true)) c.index-names-i.is c.index-sources-i.is
    (rw c.as_slice.ensures at c.in_ok-define_all.ensures.known) c.loop-i.invariant
