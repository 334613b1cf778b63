use Rattle.std.proofs.Common.{◌≡◌, ◌++◌, List, ℕ, length, true}
use Rattle.std.specs.List.{flat_map}
use Rattle.head_write.specs.Header.{entry_text, header_text}
use Rattle.edt_base.specs.Put.{Put}
use Rattle.head_write.proofs.header.emit.Given as goal

-- the definitions so far were put, and those that are left are the rest
abbrev pub invariant-loop-entry : goal.invariant-loop-entry
invariant-loop-entry g l =
    (text : List ℕ) × (text ++ flat_map entry_text l.entries ≡ header_text l.bound)
    × Put (g.S.Sink.seen l.initial.out) (g.S.Sink.seen l.out) l.initial.block l.block text true

abbrev pub decreases-loop-entry : goal.decreases-loop-entry
decreases-loop-entry g l = length l.entries
