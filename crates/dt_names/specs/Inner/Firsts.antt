-- What a definition is beside the first of its name, which is held under the name's key.
use Rattle.std.specs.Prelude.{◌≡◌, ◌++◌, ℕ, Bool, true, false, List, [], ◌∷◌, Some, slice_get}
use Rattle.dt_names.specs.Clash.{SaidData, same_said}
use Rattle.dt_names.specs.declared.firsts.Met.{Met}
use Rattle.dt_names.specs.declared.firsts.Met.TheVariants as met
use Rattle.dt_names.specs.declared.key.Key.{Key}

-- no definition so far has this key
abbrev pub IsNew : List Key → Key → Type 0
IsNew keys key = (i : ℕ) → slice_get keys i ≡ Some key → ⊥

-- this key's first definition is held, and what it says is the same as this or not
pub record IsHeld (keys : List Key) (held : List SaidData) (key : Key) (p : SaidData) (same : Bool) : Type 0 where
  pub place : ℕ
  pub first : SaidData
  pub key_there : slice_get keys place ≡ Some key
  pub first_there : slice_get held place ≡ Some first
  pub compared : same_said first p ≡ same

-- a definition's key was looked at, with what it says
abbrev pub HasMet : (keys new_keys : List Key) → (held new_held : List SaidData) → Key → SaidData → Met → Type 0
HasMet keys new_keys held new_held key p met.New = IsNew keys key × (new_keys ≡ keys ++ key ∷ [])
    × (new_held ≡ held ++ p ∷ [])
HasMet keys new_keys held new_held key p met.Same = (new_keys ≡ keys) × (new_held ≡ held) × IsHeld keys held key p true
HasMet keys new_keys held new_held key p met.Other = IsHeld keys held key p false
