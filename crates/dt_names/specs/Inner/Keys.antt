-- A name in four texts: the id, the property, what tells an entry, and what is left; and their numbers in a list of
-- texts.
use Rattle.std.specs.Prelude.{◌≡◌, ℕ, Bool, true, false, List, [], ◌∷◌, Some, codes, take, drop, slice_get, if◌then◌else◌}
use Rattle.std.specs.Str.{bytes_eq}
use Rattle.edt_base.specs.NodeData.{NodeData}
use Rattle.edt_base.specs.PropData.{PropData}
use Rattle.dt_names.specs.Facts.{FactData, shown_facts, prop_facts}
use Rattle.dt_names.specs.Pieces.{PieceData, lit, form, spells}
use Rattle.dt_names.specs.declared.key.Key.{Key}

-- a name speaks of a property
abbrev pub is_of_prop : List PieceData → Bool
is_of_prop (lit mark ∷ form word ∷ ps) = bytes_eq mark (codes "_P_")
is_of_prop _ = false

-- a name that speaks of a property: the property, and what is behind it
abbrev pub IsParted : (rest prop last : List PieceData) → Type 0
IsParted rest prop last = (is_of_prop rest ≡ true) × (take 2 rest ≡ prop) × (drop 2 rest ≡ last)

-- what a name has behind the id and the property
abbrev pub behind_prop : List PieceData → List PieceData
behind_prop rest = if is_of_prop rest then drop 2 rest else rest

-- the texts that a name is spelled with: that of the id, that of the property where it speaks of one, that of the two
-- pieces behind these, which tell an entry where it speaks of one, and that of the others
pub record NameTexts : Type 0 where
  pub base : List ℕ
  pub prop : List ℕ
  pub entry : List ℕ
  pub last : List ℕ

abbrev pub texts_of : FactData → NameTexts
texts_of f = record {
  base = spells f.base;
  prop = spells (if is_of_prop f.rest then take 2 f.rest else []);
  entry = spells (take 2 (behind_prop f.rest));
  last = spells (drop 2 (behind_prop f.rest));
}

-- a key has the numbers of a name's texts
abbrev pub Tells : List (List ℕ) → Key → NameTexts → Type 0
Tells texts key t = (slice_get texts key.base ≡ Some t.base) × (slice_get texts key.prop ≡ Some t.prop)
    × (slice_get texts key.entry ≡ Some t.entry) × (slice_get texts key.last ≡ Some t.last)

-- no text stands twice
abbrev pub AreDistinct : List (List ℕ) → Type 0
AreDistinct texts = (i j : ℕ) (t : List ℕ) → slice_get texts i ≡ Some t → slice_get texts j ≡ Some t → i ≡ j

-- numbers still tell what they told
abbrev pub Keeps : (old new : List (List ℕ)) → Type 0
Keeps old new = (i : ℕ) (t : List ℕ) → slice_get old i ≡ Some t → slice_get new i ≡ Some t

-- the definitions of a property of this name
abbrev pub AreOfProp : List ℕ → List FactData → Type 0
AreOfProp name [] = Unit {0}
AreOfProp name (f ∷ fs) = (f.rest ≡ lit (codes "_P_") ∷ form name ∷ drop 2 f.rest) × AreOfProp name fs

-- a property's definitions speak of it
abbrev pub PropertiesNameThem : Type 0
PropertiesNameThem = (nodes : List NodeData) (n : ℕ) (path : List ℕ) (p : PropData)
    → AreOfProp p.name (shown_facts nodes n path p) × AreOfProp p.name (prop_facts nodes n path p)

-- of these definitions each that goes on has the entry of the one before it, and the first this one
abbrev pub GoOnFrom : List ℕ → List FactData → Type 0
GoOnFrom entry [] = Unit {0}
GoOnFrom entry (f ∷ fs) = (f.goes_on ≡ true → (texts_of f).entry ≡ entry) × GoOnFrom (texts_of f).entry fs

-- the same, whatever stands before them: the first doesn't go on
abbrev pub GoOn : List FactData → Type 0
GoOn fs = (entry : List ℕ) → GoOnFrom entry fs
