use Rattle.std.proofs.Common.{◌≡◌, ◌+◌, ◌++◌, length}
use Rattle.edt_base.specs.Nodes.{path_at}
use Rattle.dt_names.specs.Inner.Elems.{elements_left}
use Rattle.dt_names.specs.Facts.{each, elem_lines}
use Rattle.dt_names.proofs.elem_rows.ElemRows.next.Given as goal

abbrev pub invariant-loop-self : goal.invariant-loop-self
invariant-loop-self l = record {
  view : l.self-inside.lines ++ each (elem_lines l.self-inside.bound.now.tree.nodes l.self-inside.owner (path_at l.self-inside.bound.now.tree.nodes l.self-inside.owner) l.self-inside.name.text.now l.self-inside.choices.now) l.self-inside.index (elements_left l.self-inside.elems) ≡ l.fn.self;
  counted : l.self-inside.index + length (elements_left l.self-inside.elems) ≡ l.self-inside.count;
  same : l.count ≡ l.self-inside.count;
}

abbrev pub decreases-loop-self : goal.decreases-loop-self
decreases-loop-self l = length (elements_left l.self-inside.elems)
