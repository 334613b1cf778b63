-- The rules of one binding file, each over the whole file, and the first that is broken.
use Rattle.std.specs.Prelude.{◌||◌, ◌&&◌, ℕ, Bool, true, false, List, Option, Some, None, not, codes, is_some, is_none, if◌then◌else◌}
use Rattle.std.specs.List.{list_any}
use Rattle.std.specs.Option.{option_map_or}
use Rattle.edt_base.specs.YamlData.{Value, entry_of, pair_list}
use Rattle.edt_base.specs.declared.fault.Rule.{Rule}
use Rattle.edt_base.specs.declared.fault.Rule.TheVariants as rule
use Rattle.bind_load.specs.FileMaps.{MapData, file_maps}
use Rattle.bind_load.specs.Forms.{form_of, has_form, are_texts, space_of, is_map}
use Rattle.bind_load.specs.declared.form.Keys.{Keys}
use Rattle.bind_load.specs.declared.form.Keys.TheVariants as keys

-- B2: a key is unknown
abbrev pub has_unknown_key : MapData → Bool
has_unknown_key m = list_any (λ (e : List ℕ × Value). is_none (form_of m.keys e.0)) (pair_list m.pairs)

-- the value of a known key has another form
abbrev pub has_other_form : Keys → List ℕ × Value → Bool
has_other_form kind e = option_map_or (λ form. not (has_form form e.1)) (form_of kind e.0) false

-- a map that includes a file doesn't name it
abbrev pub lacks_name : MapData → Bool
lacks_name m = lacks m.keys
  where
    lacks : Keys → Bool
    lacks keys.Include = is_none (entry_of (codes "name") m.pairs)
    lacks _ = false

-- B4: a key's value has the wrong form, or the file of an include isn't named
abbrev pub has_wrong_form : MapData → Bool
has_wrong_form m = lacks_name m || list_any (has_other_form m.keys) (pair_list m.pairs)

-- B10: one filter has both lists
abbrev pub has_both_lists : MapData → Bool
has_both_lists m = is_filter m.keys && is_some (entry_of (codes "property-allowlist") m.pairs)
    && is_some (entry_of (codes "property-blocklist") m.pairs)
  where
    is_filter : Keys → Bool
    is_filter keys.Include = true
    is_filter keys.Filter = true
    is_filter _ = false

-- B13: what `<space>-cells` holds is no list of texts
abbrev pub has_bad_cells : MapData → Bool
has_bad_cells m = is_level m.keys && list_any (λ (e : List ℕ × Value). is_some (space_of e.0) && not (are_texts e.1))
    (pair_list m.pairs)
  where
    is_level : Keys → Bool
    is_level keys.Level = true
    is_level _ = false

-- the first rule that the maps break
abbrev pub rule_of_maps : List MapData → Option Rule
rule_of_maps ms =
    if list_any has_unknown_key ms then Some rule.B2 else
    if list_any has_wrong_form ms then Some rule.B4 else
    if list_any has_both_lists ms then Some rule.B10 else
    if list_any has_bad_cells ms then Some rule.B13 else None

-- the first rule that a file breaks, of those that are tested in a file by itself; B1 where its top is no map
abbrev pub broken_rule : Value → Option Rule
broken_rule v = if is_map v then rule_of_maps (file_maps v) else Some rule.B1
