use Rattle.std.proofs.Common.{◌≡◌, drop, Some}
use Rattle.dts_parse.specs.Numbers.{digits_worth}
use Rattle.dts_parse.proofs.numbers.digits_worth.Given as goal

abbrev pub invariant-loop-byte : goal.invariant-loop-byte
invariant-loop-byte l = digits_worth l.base l.worth (drop l.byte-index l.digits) ≡ digits_worth l.base (Some 0) l.digits
