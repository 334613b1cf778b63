-- The keys of a binding file's maps, and the form that each key's value has to have.
use Rattle.std.specs.Prelude.{◌-◌, ◌&&◌, ℕ, Bool, true, false, List, Option, Some, None, codes, length, take, nat_eq, if◌then◌else◌, is_some}
use Rattle.std.specs.List.{ends_with, list_all}
use Rattle.std.specs.Str.{bytes_eq}
use Rattle.edt_base.specs.YamlData.{Value, a_map, a_list, a_text, a_number, a_truth, null, other, Items, end, item, Pairs, last, pair, item_list, pair_list}
use Rattle.edt_base.specs.declared.bound.PropType.{PropType}
use Rattle.edt_base.specs.declared.bound.PropType.TheVariants as type
use Rattle.bind_load.specs.declared.form.Form.{Form}
use Rattle.bind_load.specs.declared.form.Form.TheVariants as form
use Rattle.bind_load.specs.declared.form.Keys.{Keys}
use Rattle.bind_load.specs.declared.form.Keys.TheVariants as keys

-- the space of a key `<space>-cells`
abbrev pub space_of : List ℕ → Option (List ℕ)
space_of key = if ends_with nat_eq key (codes "-cells") then Some (take (length key - 6) key) else None

-- the keys of a level: of the top, and of each child-binding
abbrev pub level_form : List ℕ → Option Form
level_form key =
    if bytes_eq key (codes "description") then Some form.Description else
    if bytes_eq key (codes "compatible") then Some form.Text else
    if bytes_eq key (codes "include") then Some form.Includes else
    if bytes_eq key (codes "properties") then Some form.Maps else
    if bytes_eq key (codes "child-binding") then Some form.Map else
    if bytes_eq key (codes "bus") then Some form.TextOrTexts else
    if bytes_eq key (codes "on-bus") then Some form.Text else
    if is_some (space_of key) then Some form.Cells else None

-- the settings of a property
abbrev pub setting_form : List ℕ → Option Form
setting_form key =
    if bytes_eq key (codes "type") then Some form.Type else
    if bytes_eq key (codes "required") then Some form.Truth else
    if bytes_eq key (codes "deprecated") then Some form.Truth else
    if bytes_eq key (codes "default") then Some form.Whole else
    if bytes_eq key (codes "description") then Some form.Description else
    if bytes_eq key (codes "enum") then Some form.WholeList else
    if bytes_eq key (codes "const") then Some form.Whole else
    if bytes_eq key (codes "specifier-space") then Some form.Text else None

-- the keys of a filter
abbrev pub filter_form : List ℕ → Option Form
filter_form key =
    if bytes_eq key (codes "property-allowlist") then Some form.Texts else
    if bytes_eq key (codes "property-blocklist") then Some form.Texts else
    if bytes_eq key (codes "child-binding") then Some form.Map else None

-- the keys of a map that includes a file: its name, and those of the filter
abbrev pub include_form : List ℕ → Option Form
include_form key = if bytes_eq key (codes "name") then Some form.Text else filter_form key

-- the form that the value of a key has to have; none where the map has no such key
abbrev pub form_of : Keys → List ℕ → Option Form
form_of keys.Level key = level_form key
form_of keys.Settings key = setting_form key
form_of keys.Include key = include_form key
form_of keys.Filter key = filter_form key

-- the type of this name
abbrev pub type_named : List ℕ → Option PropType
type_named name =
    if bytes_eq name (codes "string") then Some type.Str else
    if bytes_eq name (codes "int") then Some type.Int else
    if bytes_eq name (codes "boolean") then Some type.Boolean else
    if bytes_eq name (codes "array") then Some type.Array else
    if bytes_eq name (codes "uint8-array") then Some type.U8Array else
    if bytes_eq name (codes "string-array") then Some type.StrArray else
    if bytes_eq name (codes "phandle") then Some type.Phandle else
    if bytes_eq name (codes "phandles") then Some type.Phandles else
    if bytes_eq name (codes "phandle-array") then Some type.PhandleArray else
    if bytes_eq name (codes "path") then Some type.Path else
    if bytes_eq name (codes "compound") then Some type.Compound else None

abbrev pub is_text : Value → Bool
is_text (a_text t) = true
is_text _ = false

abbrev pub is_truth : Value → Bool
is_truth (a_truth b) = true
is_truth _ = false

abbrev pub is_map : Value → Bool
is_map (a_map ps) = true
is_map _ = false

-- a text, or a scalar of a number's characters that is no whole number
abbrev pub is_description : Value → Bool
is_description (a_text t) = true
is_description other = true
is_description _ = false

-- the name of a type
abbrev pub is_type : Value → Bool
is_type (a_text t) = is_some (type_named t)
is_type _ = false

abbrev pub are_texts : Value → Bool
are_texts (a_list items) = list_all is_text (item_list items)
are_texts _ = false

abbrev pub is_text_or_texts : Value → Bool
is_text_or_texts (a_text t) = true
is_text_or_texts (a_list items) = list_all is_text (item_list items)
is_text_or_texts _ = false

abbrev pub is_text_or_map : Value → Bool
is_text_or_map (a_text t) = true
is_text_or_map (a_map ps) = true
is_text_or_map _ = false

-- a text, or a list of texts and maps
abbrev pub are_includes : Value → Bool
are_includes (a_text t) = true
are_includes (a_list items) = list_all is_text_or_map (item_list items)
are_includes _ = false

-- a map whose values are maps
abbrev pub are_maps : Value → Bool
are_maps (a_map ps) = list_all (λ (e : List ℕ × Value). is_map e.1) (pair_list ps)
are_maps _ = false

abbrev mutual
  -- there is no Other, at any depth
  pub is_whole : Value → Bool
  is_whole (a_map ps) = are_whole_pairs ps
  is_whole (a_list items) = are_whole items
  is_whole (a_text t) = true
  is_whole (a_number n) = true
  is_whole (a_truth b) = true
  is_whole null = true
  is_whole other = false

  pub are_whole : Items → Bool
  are_whole end = true
  are_whole (item v rest) = is_whole v && are_whole rest

  pub are_whole_pairs : Pairs → Bool
  are_whole_pairs last = true
  are_whole_pairs (pair k v rest) = is_whole v && are_whole_pairs rest

-- a list without Other, at any depth
abbrev pub is_whole_list : Value → Bool
is_whole_list (a_list items) = are_whole items
is_whole_list _ = false

-- the value has the form; what `<space>-cells` holds is no matter of form
abbrev pub has_form : Form → Value → Bool
has_form form.Description v = is_description v
has_form form.Text v = is_text v
has_form form.Texts v = are_texts v
has_form form.TextOrTexts v = is_text_or_texts v
has_form form.Truth v = is_truth v
has_form form.Type v = is_type v
has_form form.Whole v = is_whole v
has_form form.WholeList v = is_whole_list v
has_form form.Map v = is_map v
has_form form.Maps v = are_maps v
has_form form.Includes v = are_includes v
has_form form.Cells v = true
