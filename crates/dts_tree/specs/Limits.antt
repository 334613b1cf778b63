-- The limits of a tree, and labels on two nodes: all nodes that are there, before any is left out.
use Rattle.std.specs.Prelude.{ℕ, ◌+◌, ◌*◌, Bool, ◌||◌, List, [], ◌∷◌, ◌++◌, Option, Some, None, length, find, sum_by, nat_lt, if◌then◌else◌}
use Rattle.std.specs.Option.{option_map_or}
use Rattle.std.specs.List.{list_any}
use Rattle.std.specs.Str.{bytes_eq}
use Rattle.dts_parse.specs.StmtData.{PartData, Plain, Cells, Path}
use Rattle.dts_tree.specs.Places.{Place, path_text}
use Rattle.dts_tree.specs.Deeds.{Deed}
use Rattle.dts_tree.specs.Live.{props, value, labels, node_of}
use Rattle.dts_tree.specs.Reading.{Before, live}
use Rattle.dts_tree.specs.Whole.{whole}

-- there are too many nodes, or the texts of their paths have too many bytes together
abbrev pub are_too_many : List Place → Bool
are_too_many ps = nat_lt 65535 (length ps) || nat_lt 16777216 (sum_by (λ (p : Place). length (path_text p)) ps)

-- the bytes of a part: a reference has 4 among cells whatever it names, and elsewhere those of the path that it names
abbrev pub part_size : List Deed → PartData → ℕ
part_size us (Plain p) = length p.bytes
part_size us (Cells cells) = 4 * length cells
part_size us (Path t) = option_map_or (λ (p : Place). length (path_text p) + 1) (node_of us t) 0

abbrev pub value_size : List Deed → List PartData → ℕ
value_size us parts = sum_by (part_size us) parts

-- a property of the node has too many bytes
abbrev pub is_large : List Deed → Place → Bool
is_large us p = list_any (λ q. nat_lt 65536 (value_size us (value us q))) (props us p)

-- the first node with a label that an earlier one has, where these labels were seen before
abbrev pub first_shared : List Deed → List (List ℕ) → List Place → Option Place
first_shared us seen [] = None
first_shared us seen (p ∷ ps) =
    if list_any (λ l. list_any (bytes_eq l) seen) (labels us p) then Some p
    else first_shared us (seen ++ labels us p) ps

abbrev pub first_large : Before → Option Place
first_large b = find (is_large (live b)) (whole b)

abbrev pub first_label_shared : Before → Option Place
first_label_shared b = first_shared (live b) [] (whole b)
