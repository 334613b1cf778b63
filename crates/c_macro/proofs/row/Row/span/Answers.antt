use Rattle.std.proofs.Common.{◌∙◌, ℕ, List, ap, arith, slice_index_or}
use Rattle.c_macro.specs.declared.row.Spanned.{Spanned}
use Rattle.c_macro.proofs.RowLaws.{row_span}
use Rattle.c_macro.proofs.row.Row.span.Goals as goal

pub returns-then-span-self-clause-is : goal.returns-then-span-self-clause-is
returns-then-span-self-clause-is c = λ p ps e o.
    (row_span _ _ c.self.inside.from c.self.inside.to c.value_at-span.result c.args.self.now p ps c.self.invariant.spans_are c.self.view_is
    (rw c.in-Some.is (c.value_at-span.ensures ∙ ap (λ (xs : List ℕ). slice_index_or xs c.self.inside.from 0) (c.as_slice.ensures.value ∙ ap (λ (x : Spanned). x.spans.items) c.as_ref.ensures))) e o).0 (omega (arith, c.if-span-self.true))

pub returns-else-span-self-clause-is : goal.returns-else-span-self-clause-is
returns-else-span-self-clause-is c = λ p ps e o.
    (row_span _ _ c.self.inside.from c.self.inside.to c.value_at-span.result c.args.self.now p ps c.self.invariant.spans_are c.self.view_is
    (rw c.in-Some.is (c.value_at-span.ensures ∙ ap (λ (xs : List ℕ). slice_index_or xs c.self.inside.from 0) (c.as_slice.ensures.value ∙ ap (λ (x : Spanned). x.spans.items) c.as_ref.ensures))) e o).1 (omega (arith, c.if-span-self.false))
