use Rattle.std.proofs.Common.{◌≡◌, drop}
use Rattle.dts_lex.specs.Names.{is_row}
use Rattle.dts_lex.specs.declared.names.Row.TheVariants.{Slash}
use Rattle.dts_lex.proofs.names.is_row.Given as goal

abbrev pub invariant-loop-byte : goal.invariant-loop-byte
invariant-loop-byte l = is_row l.state (drop l.byte-index l.bytes) ≡ is_row Slash l.bytes
