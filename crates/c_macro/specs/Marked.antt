-- Tokens with the names that are barred for them.
use Rattle.std.specs.Prelude.{ℕ, Bool, false, ◌&&◌, ◌||◌, List, map}
use Rattle.std.specs.Str.{bytes_eq}
use Rattle.c_tokens.specs.declared.tok.Tok.{Tok}

-- a set of names: two sets with the same names are equal
abbrev pub Bars : Type 0
Bars = List ℕ → Bool

abbrev pub no_bars : Bars
no_bars = λ n. false

-- the set with one name more
abbrev pub with_bar : Bars → List ℕ → Bars
with_bar h name = λ n. bytes_eq n name || h n

-- the names of one set or the other
abbrev pub either_bars : Bars → Bars → Bars
either_bars h k = λ n. h n || k n

-- the names of both sets
abbrev pub common_bars : Bars → Bars → Bars
common_bars h k = λ n. h n && k n

-- a token and the names that are barred for it
pub record Marked : Type 0 where
  pub tok : Tok
  pub bars : Bars

-- tokens of a text: nothing is barred for them yet
abbrev pub unbarred : List Tok → List Marked
unbarred ts = map (λ t. let m : Marked = record { tok = t; bars = no_bars } in m) ts

-- the tokens alone
abbrev pub toks_of : List Marked → List Tok
toks_of ms = map (λ m. m.tok) ms
