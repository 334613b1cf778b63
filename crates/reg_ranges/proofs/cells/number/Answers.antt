use Rattle.std.proofs.Common.{◌≡◌, ◌+◌, ◌-◌, ◌*◌, ◌^◌, ◌<◌, ◌∷◌, ℕ, suc, take, sym, ap, subst, ◌∙◌, arith}
use Rattle.edt_base.specs.Cells.{cells_of}
use Rattle.std.specs.List.{fold}
use Rattle.reg_ranges.specs.Cutting.{first_number}
use Rattle.reg_ranges.proofs.CellLaws.{cells_short, cells_next, fold_next, fold_none, drop_next, drop_none}
use Rattle.reg_ranges.proofs.cells.number.Goals as goal

pub returns-in_default-clause-number : goal.returns-in_default-clause-number
returns-in_default-clause-number c =
    fold_none (λ n d. n * 2 ^ 32 + d) (c.args.count - c.loop.counter) c.loop.number (cells_of c.loop.cells) (first_number c.args.count (cells_of c.args.cells.now))
    (cells_short c.loop.cells c.in_default.ensures.cell.0) c.loop.invariant.0

pub returns-in_default-clause-rest : goal.returns-in_default-clause-rest
returns-in_default-clause-rest c =
    ap cells_of c.in_default.ensures.cell.1
    ∙ drop_none (c.args.count - c.loop.counter) (cells_of c.loop.cells) _ (cells_short c.loop.cells c.in_default.ensures.cell.0) c.loop.invariant.1

pub loop-preserved : goal.loop-preserved
loop-preserved c =
    let e : c.args.count - c.loop.counter ≡ suc (c.args.count - (c.loop.counter + 1)) = omega arith in
    let is = c.in-Some.ensures.cell in
    let next : cells_of c.loop.cells ≡ c.in-Some.cell ∷ cells_of c.next.new.self = cells_next c.loop.cells c.next.new.self c.in-Some.cell is.0 is.1 is.2 in
    let small : c.in-Some.cell < 2 ^ 32 = c.in-Some.ensures.bound in
    let same : c.in-Some.cell ≡ c.from.result = sym c.from.ensures in
    let f : ℕ → ℕ → ℕ = λ n d. n * 2 ^ 32 + d in (
      subst (λ (d : ℕ). fold f (c.loop.number * 2 ^ 32 + d) (take (c.args.count - (c.loop.counter + 1)) (cells_of c.next.new.self)) ≡ first_number c.args.count (cells_of c.args.cells.now)) same
          (fold_next f _ _ c.loop.number c.in-Some.cell (cells_of c.loop.cells) (cells_of c.next.new.self) _ e next c.loop.invariant.0),
      drop_next _ _ c.in-Some.cell (cells_of c.loop.cells) (cells_of c.next.new.self) _ e next c.loop.invariant.1,
      λ h. omega arith,
      λ h. omega arith,
      λ h. omega arith,
      λ h. omega arith,
    )
