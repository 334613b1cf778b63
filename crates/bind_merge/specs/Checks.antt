-- The rules that the merged binding itself is tested for.
use Rattle.std.specs.Prelude.{◌&&◌, pos, negsuc, Bool, true, false, List, [], ◌∷◌, Option, Some, None, if◌then◌else◌, not, is_none, nat_eq, nat_le, codes}
use Rattle.std.specs.List.{list_all, ends_with}
use Rattle.std.specs.Option.{option_map_or}
use Rattle.edt_base.specs.YamlData.{Value, a_list, a_text, a_number, item_list}
use Rattle.edt_base.specs.declared.bound.PropType.{PropType}
use Rattle.edt_base.specs.declared.bound.PropType.TheVariants as type
use Rattle.edt_base.specs.declared.fault.Rule.{Rule}
use Rattle.edt_base.specs.declared.fault.Rule.TheVariants as rule
use Rattle.bind_merge.specs.Levels.{EntryData, LevelTable}
use Rattle.bind_merge.specs.Options.{first_some}

-- a whole number from -2^31 to 2^32 - 1
abbrev pub is_cell : Value → Bool
is_cell (a_number (pos n)) = nat_le n 4294967295
is_cell (a_number (negsuc n)) = nat_le n 2147483647
is_cell _ = false

-- a whole number from 0 to 255
abbrev pub is_byte : Value → Bool
is_byte (a_number (pos n)) = nat_le n 255
is_byte _ = false

abbrev pub is_text : Value → Bool
is_text (a_text t) = true
is_text _ = false

abbrev pub is_list_of : (Value → Bool) → Value → Bool
is_list_of test (a_list items) = list_all test (item_list items)
is_list_of test _ = false

-- a value that a `const` or a `default` of this type may have
abbrev pub fits : PropType → Value → Bool
fits type.Int v = is_cell v
fits type.Array v = is_list_of is_cell v
fits type.U8Array v = is_list_of is_byte v
fits type.Str v = is_text v
fits type.StrArray v = is_list_of is_text v
fits _ v = false

abbrev pub fits_where : PropType → Option Value → Bool
fits_where ty None = true
fits_where ty (Some v) = fits ty v

abbrev pub is_phandle_array : PropType → Bool
is_phandle_array type.PhandleArray = true
is_phandle_array _ = false

abbrev pub is_yes : Option Bool → Bool
is_yes (Some b) = b
is_yes None = false

-- a phandle-array whose space can't be told
abbrev pub lacks_space : EntryData → PropType → Bool
lacks_space e ty = is_phandle_array ty && (not (ends_with nat_eq e.name (codes "s")) && is_none e.space)

-- the first rule that a property breaks: B5 without a type, B6 a phandle-array whose space can't be
-- told, B7 a `const` or `default` that doesn't fit the type, B8 deprecated and required
abbrev pub typed_rule : EntryData → PropType → Option Rule
typed_rule e ty =
    if lacks_space e ty then Some rule.B6 else
    if not (fits_where ty e.constant && fits_where ty e.default) then Some rule.B7 else
    if is_yes e.deprecated && is_yes e.required then Some rule.B8 else None

abbrev pub prop_rule : EntryData → Option Rule
prop_rule e = option_map_or (typed_rule e) e.ty (Some rule.B5)

abbrev pub level_rule : LevelTable → Option Rule
level_rule l = first_some prop_rule l.props

abbrev pub is_described : List LevelTable → Bool
is_described [] = false
is_described (l ∷ ls) = l.described

-- the first rule that a merged binding breaks: B3 where its top has no description, then the rules of
-- its properties, by level from the top and in byte order
abbrev pub merged_rule : List LevelTable → Option Rule
merged_rule levels = if is_described levels then first_some level_rule levels else Some rule.B3
