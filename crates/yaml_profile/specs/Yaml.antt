-- The profile as a relation: fronts, the characters that they take in, the value of a file, and where a rule is broken.
use Rattle.std.specs.Prelude.{◌≡◌, ℕ, ◌+◌, List, [], ◌∷◌, ◌++◌, length, Result, Ok, Err, if◌then◌else◌}
use Rattle.std.specs.Char.{len_utf8}
use Rattle.edt_base.specs.declared.fault.End.{End}
use Rattle.edt_base.specs.declared.fault.End.TheVariants as ending
use Rattle.edt_base.specs.declared.fault.Fault.{Fault}
use Rattle.edt_base.specs.declared.yaml.Yaml.{Yaml}
use Rattle.edt_base.specs.YamlData.{Value, value_of}
use Rattle.yaml_profile.specs.declared.stop.Broken.{Broken}
use Rattle.yaml_profile.specs.Answers.{no_text}
use Rattle.yaml_profile.specs.Fronts.{Front}
use Rattle.yaml_profile.specs.Reading.{at_start, step, ends, is_whole, characters, broken_at}
use Rattle.yaml_profile.specs.Reads.{IsFault}

-- the place after these characters
abbrev pub place_behind : ℕ → List ℕ → ℕ
place_behind at [] = at
place_behind at (c ∷ cs) = place_behind (at + len_utf8 c) cs

-- the front f takes in these characters, the first of them at this place and others after them, and that makes g of it
abbrev pub Takes : (f : Front) → (at : ℕ) → (read rest : List ℕ) → (g : Front) → Type 0
Takes f at [] rest g = f ≡ g
Takes f at (c ∷ cs) rest g = (h : Front) × (step f at c (cs ++ rest) ≡ Ok h) × Takes h (at + len_utf8 c) cs rest g

-- the front of these characters of a file
abbrev pub IsFront : (read rest : List ℕ) → Front → Type 0
IsFront read rest f = Takes at_start 0 read rest f

-- a file of these bytes may end at this front, or not
unfoldable pub at_end : List ℕ → Front → Result Value Broken
at_end bytes f = if is_whole bytes then ends f.frames f.inner (length bytes) else no_text (broken_at bytes)

-- the bytes are a file of the profile, of this value
pub record IsYaml (bytes : List ℕ) (v : Value) : Type 0 where
  pub front : Front
  pub is_front : IsFront (characters bytes) [] front
  pub whole : at_end bytes front ≡ Ok v

-- the front doesn't take in what stands next, the end of the file included
abbrev pub Stops : List ℕ → Front → ℕ → List ℕ → Broken → Type 0
Stops bytes f at [] b = at_end bytes f ≡ Err b
Stops bytes f at (c ∷ cs) b = step f at c cs ≡ Err b

-- this is the first broken rule: there is a front up to it, which doesn't take in what stands there
pub record IsFirst (bytes : List ℕ) (b : Broken) : Type 0 where
  pub read : List ℕ
  pub rest : List ℕ
  pub front : Front
  pub parts : characters bytes ≡ read ++ rest
  pub is_front : IsFront read rest front
  pub stops : Stops bytes front (place_behind 0 read) rest b

-- for a value, and for a fault, of what a call gave; want of memory says nothing
abbrev pub IfValue : Result Yaml End → (Value → Type 0) → Type 0
IfValue (Ok y) P = P (value_of y)
IfValue (Err e) P = Unit {0}

abbrev pub IfFault : Result Yaml End → (Fault → Type 0) → Type 0
IfFault (Ok y) P = Unit {0}
IfFault (Err (ending.Fault f)) P = P f
IfFault (Err (ending.Memory e)) P = Unit {0}

abbrev pub IsFirstFault : (file bytes : List ℕ) → Fault → Type 0
IsFirstFault file bytes f = (b : Broken) × IsFirst bytes b × IsFault file f b
