-- How a small source is read: its bytes as tokens, and its tokens as a tree of names.
use Rattle.std.specs.Prelude.{ℕ, zero, suc, ◌+◌, ◌-◌, Bool, false, ◌&&◌, List, [], ◌∷◌, ◌++◌, Option, Some, None, codes, length, map, nat_eq, nat_lt, if◌then◌else◌}
use Rattle.std.specs.List.{starts_with, take_while}
use Rattle.edt_run.specs.Forest.{Forest}
use Rattle.edt_run.specs.Nodes.{Named, forest_from}
use Rattle.edt_run.specs.Small.{Token, Version, Slash, Open, Close, Semicolon, Name, spelling, is_blank, is_name_byte, all_differ}

-- the first byte is such a byte
abbrev pub begins_with : (ℕ → Bool) → List ℕ → Bool
begins_with test [] = false
begins_with test (b ∷ bs) = test b

-- the token of one byte, if it has one
abbrev pub sign : ℕ → Option Token
sign b = if nat_eq b 47 then Some Slash else if nat_eq b 123 then Some Open else if nat_eq b 125 then Some Close
    else if nat_eq b 59 then Some Semicolon else None

-- the token that begins with this byte, if one does
abbrev pub token_at : ℕ → List ℕ → Option Token
token_at b bs = if starts_with nat_eq (b ∷ bs) (codes "/dts-v1/") then Some Version
    else if is_name_byte b then Some (Name (b ∷ take_while is_name_byte bs)) else sign b

-- how many bytes it has behind the first
abbrev pub tail_length : Option Token → ℕ
tail_length None = 0
tail_length (Some t) = length (spelling t) - 1

-- the tokens behind so many bytes; `None` is a byte at which no token stands
unfoldable pub tokens_behind : ℕ → List ℕ → List (Option Token)
tokens_behind skip [] = []
tokens_behind (suc skip) (b ∷ bs) = tokens_behind skip bs
tokens_behind zero (b ∷ bs) = if is_blank b then tokens_behind 0 bs
    else token_at b bs ∷ tokens_behind (tail_length (token_at b bs)) bs

-- the tokens of these bytes
abbrev pub tokens_of : List ℕ → List (Option Token)
tokens_of bytes = tokens_behind 0 bytes

-- a node whose braces are open, and its siblings before it
pub record Parent : Type 0 where
  pub name : List ℕ
  pub before : List Named

-- where reading stands: the open nodes, innermost first, the nodes before it in the innermost braces, and the count of
-- all nodes
pub record Front : Type 0 where
  pub outer : List Parent
  pub here : List Named
  pub count : ℕ

-- one more brace and one more node are within the limits
abbrev pub can_enter : Front → Bool
can_enter f = nat_lt (length f.outer + 1) 64 && nat_lt f.count 65535

-- behind the name of a node and its brace
abbrev pub entered : Front → List ℕ → Front
entered f name = record { outer = record { name = name; before = f.here } ∷ f.outer; here = []; count = f.count + 1 }

abbrev pub sibling_names : List Named → List (List ℕ)
sibling_names = map (λ n. n.name)

-- behind the end of the innermost node, but the root
abbrev pub leave : List Parent → List Named → ℕ → Option Front
leave [] here count = None
leave (p ∷ ps) here count = Some (record {
  outer = ps;
  here = p.before
      ++ record { name = p.name; below = forest_from here } ∷ [];
  count = count;
})

abbrev pub left : Front → Option Front
left f = leave f.outer f.here f.count

-- the nodes of the root, if nothing follows
abbrev pub ended : List Named → List (Option Token) → Option Forest
ended here [] = Some (forest_from here)
ended here (t ∷ ts) = None

-- behind the end of a node: the whole tree, or what follows in the braces around it
abbrev pub after_end : Option Front → Option Forest → (Front → Option Forest) → Option Forest
after_end None whole go = whole
after_end (Some f) whole go = go f

-- the tree of which these tokens are the rest
abbrev pub nested : Front → List (Option Token) → Option Forest
nested f (Some (Name name) ∷ Some Open ∷ ts) = if can_enter f then nested (entered f name) ts else None
nested f (Some Close ∷ Some Semicolon ∷ ts) =
    if all_differ (sibling_names f.here) then after_end (left f) (ended f.here ts) (λ g. nested g ts) else None
nested f _ = None

abbrev pub start : Front
start = record { outer = []; here = []; count = 1 }

-- the tree of these tokens
abbrev pub tree_of : List (Option Token) → Option Forest
tree_of (Some Version ∷ Some Semicolon ∷ Some Slash ∷ Some Open ∷ ts) = nested start ts
tree_of _ = None

-- the tree of a small source; none of other bytes
abbrev pub reading : List ℕ → Option Forest
reading bytes = tree_of (tokens_of bytes)
