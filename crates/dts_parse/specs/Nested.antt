-- Statements that nest well.
use Rattle.std.specs.Prelude.{◌≡◌, ◌<◌, ℕ, zero, suc, Bool, true, false, ◌&&◌, List, [], ◌∷◌, ◌++◌, Option, Some, None, nat_eq, if◌then◌else◌}
use Rattle.std.specs.Option.{option_and_then}
use Rattle.std.specs.List.{list_all}
use Rattle.edt_base.specs.SourceNames.{is_label, is_node_name, is_prop_name}
use Rattle.edt_base.specs.declared.node.Kind.{Kind}
use Rattle.edt_base.specs.declared.node.Kind.TheVariants as kind
use Rattle.dts_parse.specs.StmtData.{ActData, PartData, StmtData, Plain, Cells, Path, Open, Close, Label, Assign, DelProp, DelNode, Omit}
use Rattle.dts_parse.specs.declared.script.RawCell.{RawCell}
use Rattle.dts_parse.specs.declared.script.RawCell.TheVariants as cell
use Rattle.dts_parse.specs.declared.script.Target.{Target}
use Rattle.dts_parse.specs.declared.script.Target.TheVariants as target

-- ---- values

abbrev pub is_reference : Target → Bool
is_reference target.Root = false
is_reference (target.Child name) = false
is_reference (target.ByLabel name) = true
is_reference (target.ByPath path) = true

abbrev pub is_good_cell : RawCell → Bool
is_good_cell (cell.Num n) = true
is_good_cell (cell.Ref t) = is_reference t

abbrev pub ends_with_zero : List ℕ → Bool
ends_with_zero [] = false
ends_with_zero (b ∷ []) = nat_eq b 0
ends_with_zero (b ∷ c ∷ rest) = ends_with_zero (c ∷ rest)

abbrev pub is_even : List ℕ → Bool
is_even [] = true
is_even (b ∷ []) = false
is_even (b ∷ c ∷ rest) = is_even rest

-- texts end with a zero, wide elements have an even number of bytes, and cells and paths stand elsewhere
abbrev pub is_good_plain : Kind → List ℕ → Bool
is_good_plain kind.Str bytes = ends_with_zero bytes
is_good_plain kind.Hex bytes = true
is_good_plain kind.Wide bytes = is_even bytes
is_good_plain _ bytes = false

abbrev pub is_good_part : PartData → Bool
is_good_part (Plain p) = is_good_plain p.kind p.bytes
is_good_part (Cells cells) = list_all is_good_cell cells
is_good_part (Path t) = is_reference t

-- ---- nesting

-- inside an opening a statement names a child, by a node's name; outside one of the others
abbrev pub fits_place : ℕ → Target → Bool
fits_place zero (target.Child name) = false
fits_place zero _ = true
fits_place (suc d) (target.Child name) = is_node_name name
fits_place (suc d) _ = false

-- how many nodes are open after a statement, where it may stand; labels and properties have names of their forms
abbrev pub nest : ℕ → ActData → Option ℕ
nest d (Open t) = if fits_place d t then Some (suc d) else None
nest d (DelNode t) = if fits_place d t then Some d else None
nest d (Omit t) = if fits_place d t then Some d else None
nest zero _ = None
nest (suc d) Close = Some d
nest (suc d) (Label name) = if is_label name then Some (suc d) else None
nest (suc d) (Assign name parts) = if is_prop_name name && list_all is_good_part parts then Some (suc d) else None
nest (suc d) (DelProp name) = if is_prop_name name then Some (suc d) else None

abbrev pub nested : ℕ → List StmtData → Option ℕ
nested d [] = Some d
nested d (s ∷ rest) = option_and_then (λ e. nested e rest) (nest d s.act)

-- ---- references

abbrev pub target_refs : ℕ → Target → List ℕ
target_refs at t = if is_reference t then at ∷ [] else []

abbrev pub act_refs : ℕ → ActData → List ℕ
act_refs at (Open t) = target_refs at t
act_refs at (DelNode t) = target_refs at t
act_refs at (Omit t) = target_refs at t
act_refs at _ = []

-- where the statements with a reference stand
abbrev pub refs : List StmtData → List ℕ
refs [] = []
refs (s ∷ rest) = act_refs s.at s.act ++ refs rest

abbrev pub AreRising : List ℕ → Type 0
AreRising [] = Unit {0}
AreRising (x ∷ []) = Unit {0}
AreRising (x ∷ y ∷ rest) = (x < y) × AreRising (y ∷ rest)

-- each end is of an opening, and each opening is ended; statements stand where they may; references rise
pub record IsNested (stmts : List StmtData) : Type 0 where
  pub nests : nested 0 stmts ≡ Some 0
  pub rises : AreRising (refs stmts)
