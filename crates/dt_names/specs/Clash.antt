-- Which definitions clash, and which repeat an earlier one.
use Rattle.std.specs.Prelude.{◌≡◌, ◌+◌, ◌&&◌, ◌++◌, ℕ, Bool, true, false, not, List, [], ◌∷◌, if◌then◌else◌}
use Rattle.std.specs.List.{list_any}
use Rattle.std.specs.Str.{bytes_eq}
use Rattle.dt_names.specs.Facts.{FactData, full_name}
use Rattle.dt_names.specs.Pieces.{PieceData, spells}
use Rattle.dt_names.specs.declared.piece.Params.{Params}
use Rattle.dt_names.specs.declared.piece.Params.TheVariants.{Plain, Fn, FnSep, FnVargs}

-- two definitions have one name, as it is spelled
abbrev pub share_name : FactData → FactData → Bool
share_name f g = bytes_eq (spells (full_name f)) (spells (full_name g))

abbrev pub same_params : Params → Params → Bool
same_params Plain Plain = true
same_params Fn Fn = true
same_params FnSep FnSep = true
same_params FnVargs FnVargs = true
same_params _ _ = false

-- what a definition says besides its name
pub record SaidData : Type 0 where
  pub params : Params
  pub body : List PieceData

abbrev pub said : FactData → SaidData
said f = record { params = f.params; body = f.body }

-- the same parameters, and the same body as it is spelled
abbrev pub same_said : SaidData → SaidData → Bool
same_said p q = same_params p.params q.params && bytes_eq (spells p.body) (spells q.body)

abbrev pub agree : FactData → FactData → Bool
agree f g = same_said (said f) (said g)

-- a definition differs from an earlier one of its name
abbrev pub clashes : List FactData → FactData → Bool
clashes earlier f = list_any (λ g. share_name g f && not (agree g f)) earlier

-- a definition has an earlier one's name
abbrev pub is_repeated : List FactData → FactData → Bool
is_repeated earlier f = list_any (λ g. share_name g f) earlier

-- none of these, which stand behind others, differs from an earlier one of its name
abbrev pub AreFree : (earlier : List FactData) → List FactData → Type 0
AreFree earlier [] = Unit {0}
AreFree earlier (f ∷ fs) = (clashes earlier f ≡ false) × AreFree (earlier ++ f ∷ []) fs

-- the first that differs from an earlier one of its name is a definition of this node
pub record IsClash (fs : List FactData) (node : ℕ) : Type 0 where
  pub before : List FactData
  pub first : FactData
  pub after : List FactData
  pub parts : fs ≡ before ++ first ∷ after
  pub free : AreFree [] before
  pub differs : clashes before first ≡ true
  pub owned : first.owner ≡ node

-- the places of those that have an earlier one's name, the first at this place
abbrev pub doubles_from : (earlier : List FactData) → (place : ℕ) → List FactData → List ℕ
doubles_from earlier place [] = []
doubles_from earlier place (f ∷ fs) = (if is_repeated earlier f then place ∷ [] else [])
    ++ doubles_from (earlier ++ f ∷ []) (place + 1) fs

-- none clashes, and these are the places of all that repeat an earlier one
abbrev pub AreDoubles : List FactData → List ℕ → Type 0
AreDoubles fs places = AreFree [] fs × (places ≡ doubles_from [] 0 fs)

-- things that are spelled the same, one after the other
abbrev pub AreSame : List (List PieceData) → List (List PieceData) → Type 0
AreSame [] [] = Unit {0}
AreSame (t ∷ ts) (u ∷ us) = (spells t ≡ spells u) × AreSame ts us
AreSame _ _ = ⊥
