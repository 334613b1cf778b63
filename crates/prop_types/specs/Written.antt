-- The value of a property that is written, by the type that its binding gives it.
use Rattle.std.specs.Prelude.{◌&&◌, ◌||◌, ℕ, Bool, true, List, [], ◌∷◌, Option, Some, None, Result, Ok, Err, length, map, nat_eq, nat_le, option_and_then, option_map, position, if◌then◌else◌}
use Rattle.edt_base.specs.NodeData.{NodeData, bytes_of, one_cell, has_path, has_phandle}
use Rattle.edt_base.specs.Values.{are_all, is_kind, value_cells, value_string, are_strings, value_strings, zero_ended}
use Rattle.edt_base.specs.ValData.{ValData, bool_val, int_val, ints_val, u8s_val, str_val, strs_val, node_val, nodes_val, entries_val, compound_val}
use Rattle.edt_base.specs.declared.bound.PropType.{PropType}
use Rattle.edt_base.specs.declared.bound.PropType.TheVariants as type
use Rattle.edt_base.specs.declared.fault.Rule.{Rule}
use Rattle.edt_base.specs.declared.fault.Rule.TheVariants as rule
use Rattle.edt_base.specs.declared.node.Kind.TheVariants as kind
use Rattle.edt_base.specs.declared.node.Part.{Part}
use Rattle.prop_types.specs.AllThere.{all_there}

-- a value of cells: all parts are of cells, 4 bytes or more in all
abbrev pub are_cells : List Part → Bool
are_cells parts = are_all kind.Cells parts && nat_le 4 (length (bytes_of parts))

-- a value of bytes: all parts are of bytes, 1 byte or more in all
abbrev pub are_bytes : List Part → Bool
are_bytes parts = are_all kind.Hex parts && nat_le 1 (length (bytes_of parts))

-- what is there, or the rule that is broken where it isn't
abbrev pub there_or : {X : Type 0} → Rule → Option X → Result X Rule
there_or r None = Err r
there_or r (Some x) = Ok x

-- the node of a phandle
abbrev pub node_of_phandle : List NodeData → ℕ → Option ℕ
node_of_phandle nodes n = position (has_phandle n) nodes

-- the nodes of some phandles, in order; None where one is no node's
abbrev pub nodes_of_phandles : List NodeData → List ℕ → Option (List ℕ)
nodes_of_phandles nodes ns = all_there (map (node_of_phandle nodes) ns)

-- the path that a part names: one reference, or text
abbrev pub named_path : Part → Option (List ℕ)
named_path p = if is_kind kind.Path p.kind || is_kind kind.Str p.kind then zero_ended p.bytes else None

-- the node that a value names by its path
abbrev pub named_node : List NodeData → List Part → Option ℕ
named_node nodes [] = None
named_node nodes (p ∷ []) = option_and_then (λ path. position (has_path path) nodes) (named_path p)
named_node nodes (p ∷ q ∷ more) = None

-- a phandle: V11 where the value is no cell, V20 where its number is that of no node
abbrev pub phandle_value : List NodeData → Option ℕ → Result ValData Rule
phandle_value nodes None = Err rule.V11
phandle_value nodes (Some n) = there_or rule.V20 (option_map node_val (node_of_phandle nodes n))

-- the value of a type, or the rule that it breaks: V11 where it is of the wrong kind, V20 where a cell is no phandle
unfoldable pub written : List NodeData → PropType → List Part → Result ValData Rule
written nodes type.Boolean parts = if nat_eq (length (bytes_of parts)) 0 then Ok (bool_val true) else Err rule.V11
written nodes type.Int parts = there_or rule.V11 (option_map int_val (one_cell parts))
written nodes type.Array parts = if are_cells parts then Ok (ints_val (value_cells parts)) else Err rule.V11
written nodes type.U8Array parts = if are_bytes parts then Ok (u8s_val (bytes_of parts)) else Err rule.V11
written nodes type.Str parts = there_or rule.V11 (option_map str_val (value_string parts))
written nodes type.StrArray parts = if are_strings parts then Ok (strs_val (value_strings parts)) else Err rule.V11
written nodes type.Phandle parts = phandle_value nodes (one_cell parts)
written nodes type.Phandles parts =
    if are_cells parts then there_or rule.V20 (option_map nodes_val (nodes_of_phandles nodes (value_cells parts)))
    else Err rule.V11
written nodes type.PhandleArray parts = if are_cells parts then Ok (entries_val []) else Err rule.V11
written nodes type.Path parts = there_or rule.V11 (option_map node_val (named_node nodes parts))
written nodes type.Compound parts = Ok compound_val
