-- The elements of a property that are left, as the code has them.
use Rattle.std.specs.Prelude.{ℕ, List, [], ◌∷◌, Option, Some, None, length, map}
use Rattle.dt_names.specs.Facts.{Element, an_item, a_node, an_entry}
use Rattle.dt_names.specs.Pieces.{str, num}
use Rattle.dt_names.specs.Inner.Words.{piece_of}
use Rattle.dt_names.specs.declared.elems.Elem.{Elem}
use Rattle.dt_names.specs.declared.elems.Elem.TheVariants as elem
use Rattle.dt_names.specs.declared.elems.Elems.{Elems}
use Rattle.dt_names.specs.declared.elems.Elems.TheVariants as left

-- an element
abbrev pub element : Elem → Element
element (elem.Item p) = an_item (piece_of p)
element (elem.Node id) = a_node id
element (elem.Entry e) = an_entry e.now

-- the elements that are left
abbrev pub elements_left : Elems → List Element
elements_left left.Nothing = []
elements_left (left.Text text) = an_item (str text.now) ∷ []
elements_left (left.Ints ks) = map an_item (map num ks.now)
elements_left (left.Bytes bs) = map an_item (map num bs.now)
elements_left (left.Texts ss) = map an_item (map str ss.now)
elements_left (left.Node id) = a_node id ∷ []
elements_left (left.Nodes ids) = map a_node ids.now
elements_left (left.Entries es) = map an_entry es.now

-- how many there are, where the type has elements
abbrev pub count_left : Elems → Option ℕ
count_left left.Nothing = None
count_left (left.Text text) = Some 1
count_left (left.Ints ks) = Some (length ks.now)
count_left (left.Bytes bs) = Some (length bs.now)
count_left (left.Texts ss) = Some (length ss.now)
count_left (left.Node id) = Some 1
count_left (left.Nodes ids) = Some (length ids.now)
count_left (left.Entries es) = Some (length es.now)
