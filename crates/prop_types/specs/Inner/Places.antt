-- The tables by which the code finds entries of `enum`, for each number or text the place of the first that it is, and
-- the names of declared properties.
use Rattle.std.specs.Prelude.{◌≡◌, ℕ, Bool, List, Option, is_some, position}
use Rattle.std.specs.Borrow.{Bor}
use Rattle.std.specs.BTreeMap.{BTreeMap, get, get_by}
use Rattle.std.specs.Ordering.{nat_cmp}
use Rattle.std.specs.Cmp.Lexicographic.{slice_cmp}
use Rattle.edt_base.specs.YamlData.{Value}
use Rattle.prop_types.specs.Choices.{is_number, is_text}
use Rattle.prop_types.specs.Given.{byte_in, cell_in}
use Rattle.prop_types.specs.Typing.{DeclaredData, is_declared}
use Rattle.prop_types.specs.declared.places.Numbers.{Numbers}
use Rattle.prop_types.specs.declared.places.Numbers.TheVariants as numbers

-- how entries are read as numbers
abbrev pub number_in : Numbers → Value → Option ℕ
number_in numbers.Cells = cell_in
number_in numbers.Bytes = byte_in

-- the place that a table has for a number, for a text
abbrev pub number_at : BTreeMap ℕ ℕ → ℕ → Option ℕ
number_at m n = get nat_cmp m n

abbrev pub text_at : BTreeMap (Bor (List ℕ)) ℕ → List ℕ → Option ℕ
text_at m t = get_by (λ k. slice_cmp nat_cmp t k.now) m

-- the table has the places of entries
abbrev pub AreNumberPlaces : Numbers → List Value → BTreeMap ℕ ℕ → Type 0
AreNumberPlaces numbers entries m = (n : ℕ) → number_at m n ≡ position (is_number (number_in numbers) n) entries

abbrev pub AreTextPlaces : List Value → BTreeMap (Bor (List ℕ)) ℕ → Type 0
AreTextPlaces entries m = (t : List ℕ) → text_at m t ≡ position (is_text t) entries

-- the table has a name; it has those of declared properties
abbrev pub has_name : {X : Type 0} → BTreeMap (Bor (List ℕ)) X → List ℕ → Bool
has_name m t = is_some (get_by (λ k. slice_cmp nat_cmp t k.now) m)

abbrev pub HasNames : {X : Type 0} → List DeclaredData → BTreeMap (Bor (List ℕ)) X → Type 0
HasNames ds m = (t : List ℕ) → has_name m t ≡ is_declared ds t
