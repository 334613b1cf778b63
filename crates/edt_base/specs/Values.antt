-- How the value of a property is read: as cells, as strings, as names of entries.
use Rattle.std.specs.Prelude.{◌+◌, ◌&&◌, ℕ, Bool, true, false, not, List, [], ◌∷◌, Option, Some, None, is_some, length, nat_eq, nat_lt, option_and_then, slice_get, take, unwrap_or, if◌then◌else◌}
use Rattle.std.specs.List.{filter_map, list_all, prefix_len}
use Rattle.std.specs.Str.{is_utf8}
use Rattle.edt_base.specs.Cells.{cell_of, cells_of}
use Rattle.edt_base.specs.NodeData.{bytes_of}
use Rattle.edt_base.specs.declared.node.Kind.{Kind}
use Rattle.edt_base.specs.declared.node.Kind.TheVariants as kind
use Rattle.edt_base.specs.declared.node.Part.{Part}

-- Kinds

-- the part is of this kind
abbrev pub is_kind : Kind → Kind → Bool
is_kind kind.Str kind.Str = true
is_kind kind.Cells kind.Cells = true
is_kind kind.Hex kind.Hex = true
is_kind kind.Wide kind.Wide = true
is_kind kind.Path kind.Path = true
is_kind _ _ = false

-- all parts are of this kind
abbrev pub are_all : Kind → List Part → Bool
are_all k parts = list_all (λ (p : Part). is_kind k p.kind) parts

-- Cells

-- the cells of a value, whatever the kinds of its parts; a rest of 1 to 3 bytes is no cell
abbrev pub value_cells : List Part → List ℕ
value_cells parts = cells_of (bytes_of parts)

-- the cell that a value is, whatever the kinds of its parts; one of another number of bytes than 4 is none
abbrev pub single_cell : List Part → Option ℕ
single_cell parts = cell_of (bytes_of parts)

-- Strings

-- the part is of text
abbrev pub is_text : Kind → Bool
is_text kind.Str = true
is_text _ = false

abbrev pub is_no_zero : ℕ → Bool
is_no_zero b = not (nat_eq b 0)

-- a text in UTF-8
abbrev pub utf8_text : List ℕ → Option (List ℕ)
utf8_text bytes = if is_utf8 bytes then Some bytes else None

-- the text before the first zero, where that is the last byte
abbrev pub zero_ended : List ℕ → Option (List ℕ)
zero_ended bytes = if nat_eq (prefix_len is_no_zero bytes + 1) (length bytes) then utf8_text (take (prefix_len is_no_zero bytes) bytes) else None

-- the string that a part is: of text, in UTF-8, with one zero, at its end
abbrev pub string_of : Part → Option (List ℕ)
string_of p = if is_text p.kind then zero_ended p.bytes else None

abbrev pub is_string : Part → Bool
is_string p = is_some (string_of p)

-- the string that a value is: one part that is a string
abbrev pub value_string : List Part → Option (List ℕ)
value_string [] = None
value_string (p ∷ []) = string_of p
value_string (p ∷ q ∷ more) = None

-- a value that is a list of strings: one or more parts, each a string
abbrev pub are_strings : List Part → Bool
are_strings parts = nat_lt 0 (length parts) && list_all is_string parts

-- its strings
abbrev pub value_strings : List Part → List (List ℕ)
value_strings parts = filter_map string_of parts

-- Names of entries

-- a value that names entries: there is none, or it is one or more strings, as many as the entries
abbrev pub names_fit : ℕ → Option (List Part) → Bool
names_fit count None = true
names_fit count (Some parts) = nat_lt 0 (length parts) && nat_eq (length parts) count && list_all is_string parts

-- the parts that name the entries
abbrev pub name_parts : Option (List Part) → List Part
name_parts names = unwrap_or names []

-- the name of the entry at a place
abbrev pub entry_name : List Part → ℕ → Option (List ℕ)
entry_name parts at = option_and_then string_of (slice_get parts at)
