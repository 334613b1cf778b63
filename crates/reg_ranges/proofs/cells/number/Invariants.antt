use Rattle.std.proofs.Common.{◌≡◌, ◌+◌, ◌*◌, ◌^◌, ◌-◌, ◌<◌, ◌≤◌, take, drop}
use Rattle.std.specs.List.{fold}
use Rattle.edt_base.specs.Cells.{cells_of}
use Rattle.reg_ranges.specs.Cutting.{first_number}
use Rattle.reg_ranges.proofs.cells.number.Given as goal

abbrev pub invariant-loop : goal.invariant-loop
invariant-loop l = (fold (λ n c. n * 2 ^ 32 + c) l.number (take (l.count - l.counter) (cells_of l.cells)) ≡ first_number l.count (cells_of l.initial.cells))
    × (drop (l.count - l.counter) (cells_of l.cells) ≡ drop l.count (cells_of l.initial.cells))
    × (l.counter ≤ 0 → l.number ≤ 0) × (l.counter ≤ 1 → l.number < 2 ^ 32) × (l.counter ≤ 2 → l.number < 2 ^ 64) × (l.counter ≤ 3 → l.number < 2 ^ 96)
