-- What the walk over the definitions keeps of the numbers of their names' texts.
use Rattle.std.specs.Prelude.{◌≡◌, ℕ, List, [], ◌∷◌, Option, Some, IfSome, codes, drop, slice_get}
use Rattle.dt_names.specs.Facts.{FactData}
use Rattle.dt_names.specs.Inner.Keys.{AreDistinct, GoOn, GoOnFrom, Keeps, Tells, texts_of}
use Rattle.dt_names.specs.Inner.Parts.{SpeakOf, base_left, sections_left}
use Rattle.dt_names.specs.Pieces.{lit, form, spells}
use Rattle.dt_names.specs.Inner.Sections.{AreBased}
use Rattle.dt_names.specs.declared.key.Key.{Key}
use Rattle.dt_names.specs.declared.labels.Here.{Here}
use Rattle.dt_names.specs.declared.section.Of.{Of}
use Rattle.dt_names.specs.declared.section.Of.TheVariants as of

-- a walk that numbers texts: the definitions that are left, and the texts so far
pub record LabelsData : Type 0 where
  pub left : List FactData
  pub texts : List (List ℕ)

-- the number is that of the property's text, where definitions are on a property
abbrev pub HasProp : List (List ℕ) → ℕ → Of → Type 0
HasProp texts prop (of.Prop name) = slice_get texts prop ≡ Some (spells (lit (codes "_P_") ∷ form name.now ∷ []))
HasProp texts prop _ = Unit {0}

-- the same of a definition that speaks of it
abbrev pub SharesProp : List (List ℕ) → ℕ → Of → FactData → Type 0
SharesProp texts prop (of.Prop name) f =
    (f.rest ≡ lit (codes "_P_") ∷ form name.now ∷ drop 2 f.rest)
    × (slice_get texts prop ≡ Some (spells (lit (codes "_P_") ∷ form name.now ∷ [])))
SharesProp texts prop _ f = Unit {0}

-- the number, where there is one, is that of the entry that the definition before these is on
pub record HasEntry (texts : List (List ℕ)) (entry : Option ℕ) (fs : List FactData) : Type 0 where
  pub text : List ℕ
  pub chain : GoOnFrom text fs
  pub number : IfSome entry (λ n. slice_get texts n ≡ Some text)

-- the number of the id is that of its text
abbrev pub HasBase : List (List ℕ) → Here → Type 0
HasBase texts h = slice_get texts h.shared.base ≡ Some (spells (base_left h.rest))

-- the numbers are those of the texts that the names of the definitions here share
pub record AreKept (texts : List (List ℕ)) (h : Here) : Type 0 where
  pub based : AreBased (base_left h.rest) h.rows
  pub base_text : HasBase texts h
  pub own : SpeakOf h.shared.of h.rows
  pub prop_text : HasProp texts h.shared.prop h.shared.of

-- a walk went to its next section
pub record IsTurned (texts : List (List ℕ)) (old new : Here) : Type 0 where
  -- it is the next
  pub first : sections_left old.rest ≡ new.rows ∷ sections_left new.rest
  -- the numbers are those of the texts that its definitions share
  pub kept : AreKept texts new
  -- each definition that goes on has the entry of the one before it
  pub going : GoOn new.rows

-- a walk gave its next definition, with the numbers of the name's texts
pub record IsLabelled (old new : LabelsData) (f : FactData) (key : Key) : Type 0 where
  -- it is the next
  pub first : old.left ≡ f ∷ new.left
  -- the numbers are those of its texts
  pub tells : Tells new.texts key (texts_of f)
  -- the numbers so far still tell what they told
  pub kept : Keeps old.texts new.texts
  -- no text has two numbers
  pub distinct : AreDistinct new.texts
