-- The source that prints a tree: a devicetree source whose statements leave this tree.
use Rattle.std.specs.Prelude.{◌==◌, ◌+◌, ◌-◌, ◌/◌, ◌%◌, ◌++◌, ◌&&◌, ◌||◌, ℕ, zero, suc, false, List, [], ◌∷◌, codes, length, nat_le, replicate, slice_get, take, if◌then◌else◌}
use Rattle.std.specs.Fmt.{digit_glyph, digits}
use Rattle.std.specs.Int.{w16, from_be_bytes}
use Rattle.std.specs.List.{flat_map}
use Rattle.std.specs.Option.{option_map_or}
use Rattle.edt_base.specs.Cells.{cells_of}
use Rattle.edt_base.specs.NodeData.{NodeData}
use Rattle.edt_base.specs.TreeData.{TreeData}
use Rattle.edt_base.specs.declared.node.Kind.{Kind}
use Rattle.edt_base.specs.declared.node.Kind.TheVariants as kind
use Rattle.edt_base.specs.declared.node.Part.{Part}

-- texts with a separator between them
abbrev pub joined : {X : Type 0} → List ℕ → (X → List ℕ) → List X → List ℕ
joined separator text [] = []
joined separator text (x ∷ xs) = text x ++ flat_map (λ y. separator ++ text y) xs

-- all bytes but the last
abbrev pub before_last : List ℕ → List ℕ
before_last bytes = take (length bytes - 1) bytes

-- a byte of a text in quotes: `"` and `\` with a backslash before them, and those outside 32 to 126 as a backslash and
-- three octal digits
abbrev pub escaped : ℕ → List ℕ
escaped c =
    if (c == 34) || (c == 92) then 92 ∷ c ∷ [] else
    if nat_le 32 c && nat_le c 126 then c ∷ [] else
    92 ∷ (48 + c / 64) ∷ (48 + (c / 8) % 8) ∷ (48 + c % 8) ∷ []

-- a text in quotes
unfoldable pub quoted : List ℕ → List ℕ
quoted text = codes "\"" ++ (flat_map escaped text ++ codes "\"")

-- a number in lower-case hexadecimal without leading zeros
unfoldable pub number_text : ℕ → List ℕ
number_text n = codes "0x" ++ digits 16 false n

-- numbers in angle brackets
unfoldable pub list_text : List ℕ → List ℕ
list_text numbers = codes "<" ++ (joined (codes " ") number_text numbers ++ codes ">")

-- a byte as two lower-case hexadecimal digits
abbrev pub pair_text : ℕ → List ℕ
pair_text b = digit_glyph false (b / 16) ∷ digit_glyph false (b % 16) ∷ []

-- bytes in square brackets
unfoldable pub pairs_text : List ℕ → List ℕ
pairs_text bytes = codes "[" ++ (joined (codes " ") pair_text bytes ++ codes "]")

-- the numbers of two bytes each, the big end first
abbrev pub halves_of : List ℕ → List ℕ
halves_of [] = []
halves_of (a ∷ []) = []
halves_of (a ∷ b ∷ rest) = from_be_bytes w16 (a ∷ b ∷ []) ∷ halves_of rest

-- what bytes are written as, by how they were: the zero that ends a text or a path isn't written
abbrev pub bytes_text : Kind → List ℕ → List ℕ
bytes_text kind.Str bytes = quoted (before_last bytes)
bytes_text kind.Cells bytes = list_text (cells_of bytes)
bytes_text kind.Hex bytes = pairs_text bytes
bytes_text kind.Wide bytes = codes "/bits/ 16 " ++ list_text (halves_of bytes)
bytes_text kind.Path bytes = codes "&{" ++ (before_last bytes ++ codes "}")

-- a part of a value
abbrev pub part_text : Part → List ℕ
part_text part = bytes_text part.kind part.bytes

-- a value: nothing where it has no parts
unfoldable pub value_text : List Part → List ℕ
value_text [] = []
value_text (part ∷ parts) = codes " = " ++ joined (codes ", ") part_text (part ∷ parts)

-- what a line at a depth begins with
abbrev pub tabs : ℕ → List ℕ
tabs depth = replicate depth 9

-- the line of a property in a node at a depth
unfoldable pub prop_text : ℕ → (List ℕ × List Part) → List ℕ
prop_text depth prop = tabs (depth + 1) ++ (prop.0 ++ (value_text prop.1 ++ codes ";\n"))

-- a label before a name
abbrev pub label_text : List ℕ → List ℕ
label_text label = label ++ codes ": "

-- the line that opens a node at a depth: its labels and its name
unfoldable pub opening_text : ℕ → NodeData → List ℕ
opening_text depth node = tabs depth ++ (flat_map label_text node.labels ++ (node.name ++ codes " {\n"))

-- the line that closes it
unfoldable pub closing_text : ℕ → List ℕ
closing_text depth = tabs depth ++ codes "};\n"

-- the node at a place, at a depth: its first line, its properties, its children, which may be nested so many levels
-- deep, and its last line
abbrev pub node_text : ℕ → List NodeData → ℕ → ℕ → List ℕ
node_text zero nodes depth id = []
node_text (suc levels) nodes depth id = option_map_or (λ (node : NodeData). opening_text depth node
    ++ (flat_map (prop_text depth) node.props ++ (flat_map (node_text levels nodes (depth + 1)) node.children
    ++ closing_text depth))) (slice_get nodes id) []

-- the source that prints a tree: the root and all below it, which is at most as many levels deep as there are nodes
unfoldable pub printed : TreeData → List ℕ
printed t = codes "/dts-v1/;\n" ++ node_text (length t.nodes) t.nodes 0 0
