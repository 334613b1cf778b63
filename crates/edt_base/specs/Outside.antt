-- What files and sinks are taken to be: what they show to contracts, and how one call may change it.
use Rattle.std.specs.Prelude.{◌≡◌, ◌+◌, ◌-◌, ◌^◌, ◌<◌, ◌≤◌, ◌++◌, ◌⊎◌, ◌&&◌, ◌||◌, ℕ, Bool, List, [], ◌∷◌, Option, Some, None, Result, IfSome, option_map, unwrap_or, codes, MatchBool, IsTrue, All, length, drop, nat_eq, if◌then◌else◌}
use Rattle.std.specs.List.{starts_with, ends_with}
use Rattle.std.specs.Str.{bytes_eq}
use Rattle.edt_base.specs.declared.outside.Call.{Call}
use Rattle.edt_base.specs.declared.outside.ReadEnd.{ReadEnd}
use Rattle.edt_base.specs.declared.outside.ReadEnd.TheVariants as ending

-- names with their bytes, and the last call that failed: told together or not at all
pub record Told : Type 0 where
  pub held : List (List ℕ × List ℕ)
  pub last : Option Call

-- files: what they tell, and how many calls failed so far
pub record FilesSeen : Type 0 where
  pub told : Option Told
  pub faults : ℕ

-- a sink: the bytes so far where it tells them, how many writes failed so far, and its sure room
pub record SinkSeen : Type 0 where
  pub bytes : Option (List ℕ)
  pub faults : ℕ
  pub room : ℕ

-- the map of names to bytes, where it is told
abbrev pub held_of : FilesSeen → Option (List (List ℕ × List ℕ))
held_of files = option_map (λ t. t.held) files.told

-- the bytes of a name, the first of its pairs
abbrev pub held_at : List (List ℕ × List ℕ) → List ℕ → Option (List ℕ)
held_at [] name = None
held_at (e ∷ es) name = if bytes_eq e.0 name then Some e.1 else held_at es name

-- the bytes of a name, none where the map lacks it
abbrev pub content : List (List ℕ × List ℕ) → List ℕ → List ℕ
content held name = unwrap_or (held_at held name) []

-- the name stands below the folder: it begins with the folder's name and a slash
abbrev pub is_below : List ℕ → List ℕ → Bool
is_below dir name = starts_with nat_eq name dir && starts_with nat_eq (drop (length dir) name) (codes "/")

-- the name is that of a binding file
abbrev pub is_binding_name : List ℕ → Bool
is_binding_name name = ends_with nat_eq name (codes ".yaml") || ends_with nat_eq name (codes ".yml")

-- the name is that of a binding file below the folder
abbrev pub is_binding_below : List ℕ → List ℕ → Bool
is_binding_below dir name = is_below dir name && is_binding_name name

-- each name is that of a binding file below the folder
abbrev pub AreBelow : List ℕ → List (List ℕ) → Type 0
AreBelow dir names = All (λ name. IsTrue (is_binding_below dir name)) names

-- the names of the binding files below a folder
abbrev pub names_below : List ℕ → List (List ℕ × List ℕ) → List (List ℕ)
names_below dir [] = []
names_below dir (e ∷ es) = if is_binding_below dir e.0 then e.0 ∷ names_below dir es else names_below dir es

-- the count of faults rose, or stands at its last value
abbrev pub Rose : ℕ → ℕ → Type 0
Rose old new = (old < new) ⊎ (new ≡ 2 ^ 64 - 1)

-- a failed call raised the count and is the last that failed; every other answer changes nothing
abbrev pub FailsAs : {T : Type 0} → Call → FilesSeen → FilesSeen → Result T ReadEnd → Type 0
FailsAs call old new (Result.Ok x) = new ≡ old
FailsAs call old new (Result.Err ending.Failed) = Rose old.faults new.faults × IfSome new.told (λ t. t.last ≡ Some call)
FailsAs call old new (Result.Err ending.TooBig) = new ≡ old
FailsAs call old new (Result.Err (ending.Memory e)) = new ≡ old

-- the sink took this text after what it had
abbrev pub Gains : SinkSeen → SinkSeen → List ℕ → Type 0
Gains old new text = new.bytes ≡ option_map (λ b. b ++ text) old.bytes

-- the sink took a prefix of this text
abbrev pub GainsPrefix : SinkSeen → SinkSeen → List ℕ → Type 0
GainsPrefix old new text = (prefix : List ℕ) × (rest : List ℕ) × (text ≡ prefix ++ rest) × Gains old new prefix

-- nothing failed, and the sure room fell by no more than n
pub record IsSure (old new : SinkSeen) (n : ℕ) : Type 0 where
  pub faults : new.faults ≡ old.faults
  pub room : old.room ≤ new.room + n

-- what became of writing a text: all of it was taken, or the count rose and a prefix of it was taken
pub record Wrote (old new : SinkSeen) (text : List ℕ) (done : Bool) : Type 0 where
  pub taken : MatchBool done (Gains old new text) (Rose old.faults new.faults × GainsPrefix old new text)
  pub count : old.faults ≤ new.faults
  pub sure : length text ≤ old.room → IsTrue done × IsSure old new (length text)
