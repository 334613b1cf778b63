use Rattle.std.proofs.Common.{◌≡◌, ◌++◌, take}
use Rattle.std.specs.Prelude.{string_bytes}
use Rattle.std.specs.List.{flat_map}
use Rattle.c_macro.specs.Strings.{pend_spaced}
use Rattle.c_macro.proofs.strings.push_all_spaced.Given as goal

abbrev pub invariant-loop-pend : goal.invariant-loop-pend
invariant-loop-pend l = string_bytes l.out ≡ string_bytes l.initial.out ++ flat_map pend_spaced (take l.pend-index l.pends)
