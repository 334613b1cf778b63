-- The small source, as a relation between bytes and a tree of names.
use Rattle.std.specs.Prelude.{◌≡◌, ◌≢◌, ℕ, ◌+◌, ◌≤◌, Bool, true, not, ◌&&◌, ◌||◌, List, [], ◌∷◌, ◌++◌, codes, nat_eq, nat_le}
use Rattle.std.specs.List.{list_all, list_any}
use Rattle.std.specs.Str.{bytes_eq}
use Rattle.edt_run.specs.Forest.{Forest, none, tree, size, depth, names}

-- `/dts-v1/`, `/`, `{`, `}`, `;` and names
pub data Token : Type 0 where
  Version : Token
  Slash : Token
  Open : Token
  Close : Token
  Semicolon : Token
  Name : List ℕ → Token

-- the tokens of nodes in a row
abbrev pub body_tokens : Forest → List Token
body_tokens none = []
body_tokens (tree name below later) = Name name ∷ Open ∷ (body_tokens below ++ Close ∷ Semicolon ∷ body_tokens later)

-- the tokens of a source whose root has these nodes
abbrev pub source_tokens : Forest → List Token
source_tokens f = Version ∷ Semicolon ∷ Slash ∷ Open ∷ (body_tokens f ++ Close ∷ Semicolon ∷ [])

-- the bytes of a token
abbrev pub spelling : Token → List ℕ
spelling Version = codes "/dts-v1/"
spelling Slash = codes "/"
spelling Open = codes "{"
spelling Close = codes "}"
spelling Semicolon = codes ";"
spelling (Name name) = name

-- a space, a tab or a newline
abbrev pub is_blank : ℕ → Bool
is_blank b = nat_eq b 32 || nat_eq b 9 || nat_eq b 10

-- a lower-case letter or a digit
abbrev pub is_name_byte : ℕ → Bool
is_name_byte b = (nat_le 97 b && nat_le b 122) || (nat_le 48 b && nat_le b 57)

-- a name has only letters and digits, at least one
abbrev pub IsToken : Token → Type 0
IsToken (Name name) = (name ≢ []) × (list_all is_name_byte name ≡ true)
IsToken _ = Unit {0}

-- the bytes are these tokens, with blanks before, between and behind them
abbrev pub IsSpelled : List ℕ → List Token → Type 0
IsSpelled bytes [] = list_all is_blank bytes ≡ true
IsSpelled bytes (t ∷ ts) = (blanks : List ℕ) × (rest : List ℕ) × (bytes ≡ blanks ++ (spelling t ++ rest))
    × (list_all is_blank blanks ≡ true) × IsToken t × IsSpelled rest ts

-- no name stands twice
abbrev pub all_differ : List (List ℕ) → Bool
all_differ [] = true
all_differ (x ∷ xs) = not (list_any (bytes_eq x) xs) && all_differ xs

-- below each node no two siblings have one name
abbrev pub AreApartBelow : Forest → Type 0
AreApartBelow none = Unit {0}
AreApartBelow (tree name below later) = (all_differ (names below) ≡ true) × AreApartBelow below × AreApartBelow later

-- the bytes are a small source whose root has these nodes
pub record IsSmall (bytes : List ℕ) (f : Forest) : Type 0 where
  pub spelled : IsSpelled bytes (source_tokens f)
  pub apart : all_differ (names f) ≡ true
  pub apart_below : AreApartBelow f
  pub shallow : 1 + depth f ≤ 64
  pub few : 1 + size f ≤ 65535
