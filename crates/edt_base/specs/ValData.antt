-- The value of a typed property, as contracts see it.
use Rattle.std.specs.Prelude.{◌<◌, ℕ, Bool, true, false, List, Option, IfSome, All, length, ⊤}
use Rattle.edt_base.specs.EntryData.{EntryData}
use Rattle.edt_base.specs.declared.bound.PropType.{PropType}
use Rattle.edt_base.specs.declared.bound.PropType.TheVariants as type
use Rattle.edt_base.specs.declared.bound.Val.{Val}
use Rattle.edt_base.specs.declared.bound.Val.TheVariants as val

-- a value: numbers, texts in bytes, and nodes by their places
pub data ValData : Type 0 where
  bool_val : Bool → ValData
  int_val : ℕ → ValData
  ints_val : List ℕ → ValData
  u8s_val : List ℕ → ValData
  str_val : List ℕ → ValData
  strs_val : List (List ℕ) → ValData
  node_val : ℕ → ValData
  nodes_val : List ℕ → ValData
  entries_val : List (Option EntryData) → ValData
  compound_val : ValData

-- the data of a value
abbrev pub val_data : Val → ValData
val_data (val.Bool truth) = bool_val truth
val_data (val.Int number) = int_val number
val_data (val.Ints numbers) = ints_val numbers.items
val_data (val.U8s bytes) = u8s_val bytes
val_data (val.Str text) = str_val text
val_data (val.Strs texts) = strs_val texts.items
val_data (val.Node node) = node_val node
val_data (val.Nodes nodes) = nodes_val nodes.items
val_data (val.Entries entries) = entries_val entries.items
val_data val.Compound = compound_val

-- the value is of the type
abbrev pub IsOfType : PropType → ValData → Type 0
IsOfType type.Boolean (bool_val truth) = ⊤
IsOfType type.Int (int_val number) = ⊤
IsOfType type.Array (ints_val numbers) = ⊤
IsOfType type.U8Array (u8s_val bytes) = ⊤
IsOfType type.Str (str_val text) = ⊤
IsOfType type.StrArray (strs_val texts) = ⊤
IsOfType type.Phandle (node_val node) = ⊤
IsOfType type.Phandles (nodes_val nodes) = ⊤
IsOfType type.PhandleArray (entries_val entries) = ⊤
IsOfType type.Path (node_val node) = ⊤
IsOfType type.Compound compound_val = ⊤
IsOfType _ _ = ⊥

-- `enum` is tested on values of this type
abbrev pub is_tested : PropType → Bool
is_tested type.Int = true
is_tested type.Str = true
is_tested type.Array = true
is_tested type.U8Array = true
is_tested type.StrArray = true
is_tested _ = false

-- how many values `enum` is tested on: one number or text, or each element
abbrev pub tested_count : ValData → ℕ
tested_count (int_val number) = 1
tested_count (str_val text) = 1
tested_count (ints_val numbers) = length numbers
tested_count (u8s_val bytes) = length bytes
tested_count (strs_val texts) = length texts
tested_count _ = 0

-- the nodes that a value names are below a count
abbrev pub HasNodesBelow : ℕ → ValData → Type 0
HasNodesBelow count (node_val node) = node < count
HasNodesBelow count (nodes_val nodes) = All (λ node. node < count) nodes
HasNodesBelow count (entries_val entries) = All (λ entry. IfSome entry (λ e. e.controller < count)) entries
HasNodesBelow count _ = ⊤
