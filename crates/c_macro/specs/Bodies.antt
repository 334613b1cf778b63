-- What is put in place of a macro: its body with arguments, `#` and `##` done (ISO C, 6.10.3.1 to 6.10.3.3).
use Rattle.std.specs.Prelude.{ℕ, suc, ◌+◌, Bool, true, false, not, ◌&&◌, ◌||◌, List, [], ◌∷◌, ◌++◌, Option, Some, None, option_map, codes, nat_eq, map, slice_index_or, if◌then◌else◌}
use Rattle.std.specs.List.{list_any, flat_map}
use Rattle.std.specs.Str.{bytes_eq}
use Rattle.c_tokens.specs.declared.tok.Tok.{Tok}
use Rattle.c_tokens.specs.declared.tok.TokKind.{TokKind}
use Rattle.c_tokens.specs.declared.tok.TokKind.TheVariants as kind
use Rattle.c_tokens.specs.Grammar.{kind_of}
use Rattle.c_macro.specs.MacroData.{Macro}
use Rattle.c_macro.specs.Directive.{is_word, is_punct, all_params}
use Rattle.c_macro.specs.Marked.{Bars, no_bars, with_bar, either_bars, common_bars, Marked}

-- ---- the parts of a body

pub data Part : Type 0 where
  -- a token of the body
  Own : Tok → Part
  -- `##` between two sides
  Join : Part
  -- `#` and the parameter of this number: a string of its argument
  Text : (spaced : Bool) → ℕ → Part
  -- the parameter of this number beside a `##`: its argument as written
  Written : (spaced : Bool) → ℕ → Part
  -- the parameter of this number elsewhere: its argument expanded
  Full : (spaced : Bool) → ℕ → Part

-- the place of a name among others
abbrev pub place_of : List ℕ → List (List ℕ) → Option ℕ
place_of name [] = None
place_of name (n ∷ ns) = if bytes_eq name n then Some 0 else option_map suc (place_of name ns)

-- the number of the parameter that a token is
abbrev pub param_of : List (List ℕ) → Tok → Option ℕ
param_of names t = if is_word t then place_of t.spell names else None

abbrev pub is_join : Tok → Bool
is_join t = is_punct (codes "##") t

abbrev pub join_next : List Tok → Bool
join_next [] = false
join_next (t ∷ ts) = is_join t

-- a token that is no `##`, and no `#` before a parameter
abbrev pub plain_part : (joined : Bool) → Tok → Option ℕ → Part
plain_part joined t None = Own t
plain_part true t (Some i) = Written t.spaced i
plain_part false t (Some i) = Full t.spaced i

-- the number of the parameter of which a `#` makes a string; it does so in function-like macros alone
abbrev pub text_of : (calls : Bool) → List (List ℕ) → Tok → Tok → Option ℕ
text_of calls names t u = if calls && is_punct (codes "#") t then param_of names u else None

abbrev pub text_or_plain : Option ℕ → Tok → (behind : List Part) → (otherwise : List Part) → List Part
text_or_plain (Some i) t behind otherwise = Text t.spaced i ∷ behind
text_or_plain None t behind otherwise = otherwise

-- the parts of a body; `right` says that a `##` stands before, whose right side is next, whatever it is
abbrev pub parts : (calls : Bool) → List (List ℕ) → (right : Bool) → List Tok → List Part
parts calls names right [] = []
parts calls names right (t ∷ []) = if is_join t && not right then Join ∷ [] else plain_part right t (param_of names t) ∷ []
parts calls names right (t ∷ u ∷ ts) = if is_join t && not right then Join ∷ parts calls names true (u ∷ ts)
    else text_or_plain (text_of calls names t u) t (parts calls names false ts) (plain_part (right || is_join u) t (param_of names t) ∷ parts calls names false (u ∷ ts))

-- the parts of a macro's body; the variable part is a parameter too
abbrev pub parts_of : Macro → Option (List (List ℕ)) → List Part
parts_of m None = parts false [] false m.body
parts_of m (Some names) = parts true (all_params names m.variadic) false m.body

-- ---- arguments

-- an argument that a call is to prepare: what it is as written, if that is needed, and what is to be expanded, if that is wanted
pub record Task : Type 0 where
  pub written : List Marked
  pub raw : List Marked
  pub wanted : Bool

-- an argument: as written and expanded, each where the body needs it
pub record Arg : Type 0 where
  pub written : List Marked
  pub full : List Marked

abbrev pub no_arg : Arg
no_arg = record { written = []; full = [] }

-- the part needs the argument of this number as written
abbrev pub is_written : ℕ → Part → Bool
is_written i (Text s k) = nat_eq k i
is_written i (Written s k) = nat_eq k i
is_written i _ = false

-- the part needs it expanded
abbrev pub is_full : ℕ → Part → Bool
is_full i (Full s k) = nat_eq k i
is_full i _ = false

abbrev pub task_of : List Part → ℕ → List Marked → Task
task_of ps i raw = record {
  written = if list_any (is_written i) ps then raw else [];
  raw = if list_any (is_full i) ps then raw else [];
  wanted = list_any (is_full i) ps;
}

-- the arguments from this number on
abbrev pub tasks : List Part → ℕ → List (List Marked) → List Task
tasks ps i [] = []
tasks ps i (raw ∷ raws) = task_of ps i raw ∷ tasks ps (i + 1) raws

-- ---- `#`

abbrev pub is_literal : TokKind → Bool
is_literal kind.Str = true
is_literal kind.Char = true
is_literal _ = false

-- a `"` or a backslash has a backslash before it
abbrev pub escaped : ℕ → List ℕ
escaped b = if nat_eq b 34 || nat_eq b 92 then 92 ∷ b ∷ [] else b ∷ []

abbrev pub text_spelling : Tok → List ℕ
text_spelling t = if is_literal t.kind then flat_map escaped t.spell else t.spell

-- the spelling with a space before it where white space stands before the token
abbrev pub text_spaced : Marked → List ℕ
text_spaced t = if t.tok.spaced then 32 ∷ text_spelling t.tok else text_spelling t.tok

abbrev pub text_spellings : List Marked → List ℕ
text_spellings [] = []
text_spellings (t ∷ ts) = text_spelling t.tok ++ flat_map text_spaced ts

-- the string of an argument
abbrev pub string_of : (spaced : Bool) → List Marked → Marked
string_of spaced xs = record { tok = record { spell = 34 ∷ (text_spellings xs ++ 34 ∷ []); kind = kind.Str; spaced = spaced }; bars = no_bars }

-- ---- `##`

-- the sides of joins, and joins
pub data Item : Type 0 where
  One : Marked → Item
  -- an empty side, and whether white space stands before it
  Blank : (spaced : Bool) → Item
  Glue : Item

abbrev pub respaced : Bool → Marked → Marked
respaced s t = record { tok = record { spell = t.tok.spell; kind = t.tok.kind; spaced = s }; bars = t.bars }

-- the first token takes the white space of what it stands for
abbrev pub spaced_as : Bool → List Marked → List Marked
spaced_as s [] = []
spaced_as s (t ∷ ts) = respaced s t ∷ ts

abbrev pub ones : List Marked → List Item
ones ts = map One ts

-- an argument beside a `##`, which may be an empty side
abbrev pub side_items : Bool → List Marked → List Item
side_items s [] = Blank s ∷ []
side_items s (t ∷ ts) = ones (spaced_as s (t ∷ ts))

abbrev pub part_items : List Arg → Part → List Item
part_items args (Own t) = One (record { tok = t; bars = no_bars }) ∷ []
part_items args Join = Glue ∷ []
part_items args (Text s i) = One (string_of s (slice_index_or args i no_arg).written) ∷ []
part_items args (Written s i) = side_items s (slice_index_or args i no_arg).written
part_items args (Full s i) = ones (spaced_as s (slice_index_or args i no_arg).full)

abbrev pub items : List Part → List Arg → List Item
items ps args = flat_map (part_items args) ps

abbrev pub joined_tok : Marked → Marked → TokKind → Marked
joined_tok a b k = record { tok = record { spell = a.tok.spell ++ b.tok.spell; kind = k; spaced = a.tok.spaced }; bars = common_bars a.bars b.bars }

-- the side that two sides make, `None` where they make no single token
abbrev pub join : Item → Item → Option Item
join (One a) (One b) = option_map (λ k. One (joined_tok a b k)) (kind_of (a.tok.spell ++ b.tok.spell))
join (Blank s) (One b) = Some (One (respaced s b))
join left right = Some left

abbrev pub item_toks : Item → List Marked
item_toks (One t) = t ∷ []
item_toks _ = []

-- a join goes on with the side that it made
abbrev pub joined_on : Option Item → (Item → Option (List Marked)) → Option (List Marked)
joined_on None go = None
joined_on (Some i) go = go i

-- the tokens of a side and of what follows, joins made from left to right
abbrev pub joined_from : Item → List Item → Option (List Marked)
joined_from left [] = Some (item_toks left)
joined_from left (Glue ∷ []) = Some (item_toks left)
joined_from left (Glue ∷ right ∷ is) = joined_on (join left right) (λ l. joined_from l is)
joined_from left (i ∷ is) = option_map (λ ts. item_toks left ++ ts) (joined_from i is)

abbrev pub joined : List Item → Option (List Marked)
joined [] = Some []
joined (i ∷ is) = joined_from i is

-- ---- what is put in place

abbrev pub add_bars : Bars → List Marked → List Marked
add_bars h ts = map (λ t. let m : Marked = record { tok = t.tok; bars = either_bars t.bars h } in m) ts

-- what replaces a name, with these names barred for it; `None` where a join makes no token
abbrev pub placed : Marked → Bars → List Item → Option (List Marked)
placed t h is = option_map (λ ts. spaced_as t.tok.spaced (add_bars h ts)) (joined is)

-- in place of an object-like macro's name
abbrev pub object_text : Marked → Macro → Option (List Marked)
object_text t m = placed t (with_bar t.bars t.tok.spell) (items (parts_of m None) [])

-- in place of a call, whose closing bracket is `last`
abbrev pub call_text : Marked → Macro → List (List ℕ) → Marked → List Arg → Option (List Marked)
call_text t m names last args = placed t (with_bar (common_bars t.bars last.bars) t.tok.spell) (items (parts_of m (Some names)) args)
