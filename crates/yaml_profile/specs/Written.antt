-- Files as trees with their layout, the characters that spell them, and their values.
use Rattle.std.specs.Prelude.{◌≡◌, ℕ, zero, suc, ◌+◌, ◌*◌, ◌<◌, ◌≤◌, Bool, true, false, not, ◌&&◌, ◌||◌, ◌==◌, nat_lt, List, [], ◌∷◌, ◌++◌, codes, if◌then◌else◌}
use Rattle.std.specs.List.{list_all, list_any}
use Rattle.std.specs.Prelude.{Option, Some, None}
use Rattle.std.specs.Str.{bytes_eq, all_scalars, encode_utf8_all}
use Rattle.edt_base.specs.Ascii.{backslash, carriage_return, colon, comma, double_quote, full_stop, greater_than, hash, hyphen, left_bracket, lower_u, lower_x, newline, plus, right_bracket, single_quote, space, tab, vertical_bar}
use Rattle.edt_base.specs.YamlData.{Value, a_map, a_list, a_text, null, items_from}
use Rattle.yaml_profile.specs.declared.block_text.Chomp.{Chomp}
use Rattle.yaml_profile.specs.declared.block_text.Chomp.TheVariants.{Strip, Clip, Keep}
use Rattle.yaml_profile.specs.Signs.{is_blank, begins_with, is_flow_sign, is_word_sign, begins_nothing}
use Rattle.yaml_profile.specs.Folding.{Folding, nothing_yet, put, put_blank, end_line, join_line, caught_up}
use Rattle.yaml_profile.specs.BlockText.{BlockText, no_lines, first_line, begin_line, go_on, empty_line, block_text}
use Rattle.yaml_profile.specs.Fronts.{pairs_of}
use Rattle.yaml_profile.specs.Scalars.{scalar_of, digit}
use Rattle.yaml_profile.specs.Pieces.{escaped, is_surrogate, is_value_sign}

abbrev pub spaces : ℕ → List ℕ
spaces zero = []
spaces (suc n) = space ∷ spaces n

-- ---- lines without content, and what ends a line with content: spaces, maybe a comment, and a line feed

pub data Ending : Type 0 where
  Bare : (n : ℕ) → Ending
  Noted : (n : ℕ) → (text : List ℕ) → Ending

abbrev pub spell_ending : Ending → List ℕ
spell_ending (Bare n) = spaces n ++ newline ∷ []
spell_ending (Noted n text) = spaces n ++ hash ∷ (text ++ newline ∷ [])

-- any character but a line feed
abbrev pub is_inner : ℕ → Bool
is_inner c = not (c == newline)

abbrev pub IsEnding : Ending → Type 0
IsEnding (Bare n) = Unit {0}
IsEnding (Noted n text) = list_all is_inner text ≡ true

-- after content a comment has a space before it
abbrev pub IsApart : Ending → Type 0
IsApart (Bare n) = Unit {0}
IsApart (Noted n text) = 0 < n

abbrev pub spell_gaps : List Ending → List ℕ
spell_gaps [] = []
spell_gaps (e ∷ es) = spell_ending e ++ spell_gaps es

abbrev pub AreGaps : List Ending → Type 0
AreGaps [] = Unit {0}
AreGaps (e ∷ es) = IsEnding e × AreGaps es

-- ---- texts

-- whether a word ends before these characters: at a space or line end, and where there are none as is said
abbrev pub word_ends : (ended : Bool) → List ℕ → Bool
word_ends ended [] = ended
word_ends ended (c ∷ cs) = (c == space) || (c == newline)

-- these characters stay in a plain text, in a flow list or not, after a space or not: no `: ` is among them, no ` #`,
-- no line end, and in a flow list no indicator of it
abbrev pub stays_plain : (flow spaced ended : Bool) → List ℕ → Bool
stays_plain flow spaced ended [] = true
stays_plain flow spaced ended (c ∷ cs) = is_inner c && not ((c == colon) && word_ends ended cs)
    && not ((c == hash) && spaced) && not (flow && is_flow_sign c)
    && stays_plain flow (c == space) ended cs

-- a plain text begins with no indicator of anything else, and with `-`, `?` or `:` only before more of a word
abbrev pub begins_plain : (ended : Bool) → (c : ℕ) → List ℕ → Bool
begins_plain ended c cs = is_inner c && not (c == space) && not (c == double_quote) && not (c == single_quote)
    && not (is_value_sign c)
    && not (begins_nothing c)
    && not (is_word_sign c && word_ends ended cs)

-- these are `---` or `...` as a word
abbrev pub is_mark : (ended : Bool) → (c : ℕ) → List ℕ → Bool
is_mark ended c (d ∷ e ∷ more) = ((c == hyphen) || (c == full_stop)) && (d == c) && (e == c) && word_ends ended more
is_mark ended c _ = false

-- a text may begin at this place: where it is the first on a line it begins with no tab, and at the first column,
-- outside flow lists, with no mark
abbrev pub may_begin : (place : Option ℕ) → (flow ended : Bool) → (c : ℕ) → List ℕ → Bool
may_begin None flow ended c cs = true
may_begin (Some column) flow ended c cs = not (c == tab) && not (not flow && (column == 0) && is_mark ended c cs)

-- the first line of a plain text
abbrev pub IsPlain : (place : Option ℕ) → (flow ended : Bool) → (c : ℕ) → List ℕ → Type 0
IsPlain place flow ended c cs = (begins_plain ended c cs ≡ true) × (stays_plain flow false ended cs ≡ true)
    × (may_begin place flow ended c cs ≡ true)

-- between double quotes: a character as itself, by an escape of one character, or by its number in two or four digits;
-- and a line end, as itself or after a backslash
pub data Inner : Type 0 where
  Itself : (c : ℕ) → Inner
  Escaped : (c : ℕ) → Inner
  ByTwo : (a b : ℕ) → Inner
  ByFour : (a b c d : ℕ) → Inner
  LineEnd : Inner
  Joined : Inner

abbrev pub spell_inner : Inner → List ℕ
spell_inner (Itself c) = c ∷ []
spell_inner (Escaped c) = backslash ∷ c ∷ []
spell_inner (ByTwo a b) = backslash ∷ lower_x ∷ a ∷ b ∷ []
spell_inner (ByFour a b c d) = backslash ∷ lower_u ∷ a ∷ b ∷ c ∷ d ∷ []
spell_inner LineEnd = newline ∷ []
spell_inner Joined = backslash ∷ newline ∷ []

abbrev pub spell_inners : List Inner → List ℕ
spell_inners [] = []
spell_inners (x ∷ xs) = spell_inner x ++ spell_inners xs

-- a number with one more hexadecimal digit
abbrev pub with_digit : ℕ → ℕ → ℕ
with_digit n c = n * 16 + digit c

abbrev pub is_hex : ℕ → Bool
is_hex c = nat_lt (digit c) 16

abbrev pub by_two : (a b : ℕ) → ℕ
by_two a b = with_digit (digit a) b

abbrev pub by_four : (a b c d : ℕ) → ℕ
by_four a b c d = with_digit (with_digit (with_digit (digit a) b) c) d

-- a text folds: blanks wait for the next character, and count for nothing round a line end
abbrev pub with_solid : Folding → ℕ → Folding
with_solid t c = if is_blank c then put_blank t c else put t c

abbrev pub with_char : Folding → ℕ → Folding
with_char t c = if c == newline then end_line t else with_solid t c

abbrev pub with_chars : Folding → List ℕ → Folding
with_chars t [] = t
with_chars t (c ∷ cs) = with_chars (with_char t c) cs

-- what is escaped is no blank
abbrev pub with_inner : Folding → Inner → Folding
with_inner t (Itself c) = with_solid t c
with_inner t (Escaped c) = put t (escaped c)
with_inner t (ByTwo a b) = put t (by_two a b)
with_inner t (ByFour a b c d) = put t (by_four a b c d)
with_inner t LineEnd = end_line t
with_inner t Joined = join_line t

abbrev pub with_inners : Folding → List Inner → Folding
with_inners t [] = t
with_inners t (x ∷ xs) = with_inners (with_inner t x) xs

-- the text between double quotes
abbrev pub double_text : List Inner → List ℕ
double_text xs = caught_up (with_inners nothing_yet xs)

abbrev pub is_inner_quoted : Inner → Bool
is_inner_quoted (Itself c) = is_inner c && not (c == double_quote) && not (c == backslash)
is_inner_quoted (Escaped c) = not (escaped c == 256)
is_inner_quoted (ByTwo a b) = is_hex a && is_hex b
is_inner_quoted (ByFour a b c d) = is_hex a && is_hex b && is_hex c && is_hex d && not (is_surrogate (by_four a b c d))
is_inner_quoted LineEnd = true
is_inner_quoted Joined = true

abbrev pub is_line_end : Inner → Bool
is_line_end LineEnd = true
is_line_end Joined = true
is_line_end _ = false

-- what stands between single quotes, where a quote is spelled twice
abbrev pub spell_singles : List ℕ → List ℕ
spell_singles [] = []
spell_singles (c ∷ cs) = (if c == single_quote then single_quote ∷ single_quote ∷ [] else c ∷ []) ++ spell_singles cs

abbrev pub single_text : List ℕ → List ℕ
single_text cs = caught_up (with_chars nothing_yet cs)

abbrev pub is_feed : ℕ → Bool
is_feed c = c == newline

-- a further line of a plain text: the line end before it, blank lines, an indentation, and its characters
pub record Further : Type 0 where
  pub blanks : List ℕ
  pub indent : ℕ
  pub first : ℕ
  pub text : List ℕ

abbrev pub spell_blanks : List ℕ → List ℕ
spell_blanks [] = []
spell_blanks (n ∷ ns) = (spaces n ++ newline ∷ []) ++ spell_blanks ns

abbrev pub spell_further : Further → List ℕ
spell_further f = newline ∷ (spell_blanks f.blanks ++ (spaces f.indent ++ f.first ∷ f.text))

abbrev pub spell_furthers : List Further → List ℕ
spell_furthers [] = []
spell_furthers (f ∷ fs) = spell_further f ++ spell_furthers fs

-- a line before others ends where they begin
abbrev pub line_ends : (ended : Bool) → List Further → Bool
line_ends ended [] = ended
line_ends ended (f ∷ fs) = true

-- where this is the least column; a further line begins with any character but `#`, and with no blank
abbrev pub IsFurther : (flow ended : Bool) → (least : ℕ) → Further → Type 0
IsFurther flow ended least f = (least ≤ f.indent) × (not (f.first == 32) && not (f.first == 35) ≡ true)
    × (stays_plain flow false ended (f.first ∷ f.text) ≡ true)
    × (may_begin (Some f.indent) flow ended f.first f.text ≡ true)

abbrev pub AreFurther : (flow ended : Bool) → (least : ℕ) → List Further → Type 0
AreFurther flow ended least [] = Unit {0}
AreFurther flow ended least (f ∷ fs) = IsFurther flow (line_ends ended fs) least f × AreFurther flow ended least fs

abbrev pub plain_text : List ℕ → List ℕ
plain_text cs = (with_chars nothing_yet cs).text

-- a plain text, with the blanks after it, or a quoted text; of one line or several
pub data Scalar : Type 0 where
  Plain : (c : ℕ) → (cs : List ℕ) → List Further → Scalar
  Double : List Inner → Scalar
  Single : (text : List ℕ) → Scalar

abbrev pub spell_plain : (c : ℕ) → (cs : List ℕ) → List Further → List ℕ
spell_plain c cs fs = c ∷ (cs ++ spell_furthers fs)

abbrev pub spell_scalar : Scalar → List ℕ
spell_scalar (Plain c cs fs) = spell_plain c cs fs
spell_scalar (Double xs) = double_quote ∷ (spell_inners xs ++ double_quote ∷ [])
spell_scalar (Single cs) = single_quote ∷ (spell_singles cs ++ single_quote ∷ [])

-- at a place, in a flow list or not, where a word ends after it or not, and with the least column of its further lines
abbrev pub IsScalarText : (place : Option ℕ) → (flow ended : Bool) → (least : ℕ) → Scalar → Type 0
IsScalarText place flow ended least (Plain c cs fs) = IsPlain place flow (line_ends ended fs) c cs
    × AreFurther flow ended least fs
IsScalarText place flow ended least (Double xs) = list_all is_inner_quoted xs ≡ true
IsScalarText place flow ended least (Single cs) = Unit {0}

abbrev pub scalar_value : Scalar → Value
scalar_value (Plain c cs fs) = scalar_of (plain_text (spell_plain c cs fs))
scalar_value (Double xs) = a_text (double_text xs)
scalar_value (Single cs) = a_text (single_text cs)

-- ---- flow lists

-- between the parts of a flow list: spaces, or the end of a line, lines without content, and the spaces of a line
pub data Pad : Type 0 where
  Inline : (n : ℕ) → Pad
  Over : Ending → List Ending → (n : ℕ) → Pad

abbrev pub spell_pad : Pad → List ℕ
spell_pad (Inline n) = spaces n
spell_pad (Over e gaps n) = spell_ending e ++ (spell_gaps gaps ++ spaces n)

abbrev pub IsPad : Pad → Type 0
IsPad (Inline n) = Unit {0}
IsPad (Over e gaps n) = IsEnding e × IsApart e × AreGaps gaps

-- where something stands after it
abbrev pub place_behind : Pad → Option ℕ
place_behind (Inline n) = None
place_behind (Over e gaps n) = Some n

-- a word ends before it
abbrev pub ends_before : Pad → Bool
ends_before (Inline zero) = false
ends_before (Inline (suc n)) = true
ends_before (Over e gaps n) = true

mutual
  pub data Flow : Type 0 where
    Text : Scalar → Flow
    Empty : Pad → Flow
    -- without and with a comma after the last item
    Listed : Elements → Flow
    Trailed : Elements → Pad → Flow

  -- items with what stands before and after them
  pub data Elements : Type 0 where
    One : Pad → Flow → Pad → Elements
    Another : Elements → Pad → Flow → Pad → Elements

abbrev mutual
  pub spell_flow : Flow → List ℕ
  spell_flow (Text t) = spell_scalar t
  spell_flow (Empty p) = left_bracket ∷ (spell_pad p ++ right_bracket ∷ [])
  spell_flow (Listed es) = left_bracket ∷ (spell_elements es ++ right_bracket ∷ [])
  spell_flow (Trailed es p) = left_bracket ∷ (spell_elements es ++ comma ∷ (spell_pad p ++ right_bracket ∷ []))

  pub spell_elements : Elements → List ℕ
  spell_elements (One p x q) = spell_pad p ++ (spell_flow x ++ spell_pad q)
  spell_elements (Another es p x q) = spell_elements es ++ comma ∷ (spell_pad p ++ (spell_flow x ++ spell_pad q))

abbrev mutual
  pub flow_value : Flow → Value
  flow_value (Text t) = scalar_value t
  flow_value (Empty p) = a_list (items_from [])
  flow_value (Listed es) = a_list (items_from (element_values es))
  flow_value (Trailed es p) = a_list (items_from (element_values es))

  pub element_values : Elements → List Value
  element_values (One p x q) = flow_value x ∷ []
  element_values (Another es p x q) = element_values es ++ flow_value x ∷ []

abbrev mutual
  -- as for a text, and so many collections are open around it
  pub IsFlow : (place : Option ℕ) → (flow ended : Bool) → (least level : ℕ) → Flow → Type 0
  IsFlow place flow ended least level (Text t) = IsScalarText place flow ended least t
  IsFlow place flow ended least level (Empty p) = (level < 32) × IsPad p
  IsFlow place flow ended least level (Listed es) = (level < 32) × AreElements least (suc level) es
  IsFlow place flow ended least level (Trailed es p) = (level < 32) × AreElements least (suc level) es × IsPad p

  pub AreElements : (least level : ℕ) → Elements → Type 0
  AreElements least level (One p x q) = IsPad p × IsFlow (place_behind p) true (ends_before q) least level x × IsPad q
  AreElements least level (Another es p x q) = AreElements least level es × IsPad p
      × IsFlow (place_behind p) true (ends_before q) least level x × IsPad q

-- ---- keys, on one line

-- a plain key, with the blanks after it, or a quoted one, with the spaces after it
pub data Key : Type 0 where
  PlainKey : (c : ℕ) → (cs : List ℕ) → Key
  DoubleKey : List Inner → (n : ℕ) → Key
  SingleKey : (text : List ℕ) → (n : ℕ) → Key

abbrev pub spell_key : Key → List ℕ
spell_key (PlainKey c cs) = c ∷ cs
spell_key (DoubleKey xs n) = spell_scalar (Double xs) ++ spaces n
spell_key (SingleKey cs n) = spell_scalar (Single cs) ++ spaces n

abbrev pub key_text : Key → List ℕ
key_text (PlainKey c cs) = plain_text (c ∷ cs)
key_text (DoubleKey xs n) = double_text xs
key_text (SingleKey cs n) = single_text cs

abbrev pub IsKey : (place : Option ℕ) → Key → Type 0
IsKey place (PlainKey c cs) = IsPlain place false false c cs × (bytes_eq (plain_text (c ∷ cs)) (codes "<<") ≡ false)
IsKey place (DoubleKey xs n) = (list_all is_inner_quoted xs ≡ true) × (list_any is_line_end xs ≡ false)
IsKey place (SingleKey cs n) = list_any is_feed cs ≡ false

-- ---- block scalars

-- a line after the first: a text with its first character, or spaces alone
pub data TextLine : Type 0 where
  Line : (c : ℕ) → (cs : List ℕ) → TextLine
  Blank : (n : ℕ) → TextLine

-- the lines of text: the indentation, the first line, and the others
pub record Rows : Type 0 where
  pub indent : ℕ
  pub first : ℕ
  pub text : List ℕ
  pub more : List TextLine

-- a block scalar: `|` or `>`, the indicator, the end of that line, the spaces of each blank line before the text, and
-- the text
pub record Lines : Type 0 where
  pub folded : Bool
  pub chomp : Chomp
  pub ending : Ending
  pub leading : List ℕ
  pub rows : Option Rows

-- a comment line that ends a block scalar, and the lines without content after it
pub record Note : Type 0 where
  pub indent : ℕ
  pub text : List ℕ
  pub gaps : List Ending

abbrev pub spell_chomp : Chomp → List ℕ
spell_chomp Strip = hyphen ∷ []
spell_chomp Clip = []
spell_chomp Keep = plus ∷ []

abbrev pub spell_header : Bool → Chomp → List ℕ
spell_header true chomp = greater_than ∷ spell_chomp chomp
spell_header false chomp = vertical_bar ∷ spell_chomp chomp

abbrev pub spell_text : (indent c : ℕ) → List ℕ → List ℕ
spell_text indent c cs = spaces indent ++ c ∷ (cs ++ newline ∷ [])

abbrev pub spell_more : ℕ → List TextLine → List ℕ
spell_more indent [] = []
spell_more indent (Line c cs ∷ ls) = spell_text indent c cs ++ spell_more indent ls
spell_more indent (Blank n ∷ ls) = (spaces n ++ newline ∷ []) ++ spell_more indent ls

abbrev pub spell_rows : Option Rows → List ℕ
spell_rows None = []
spell_rows (Some r) = spell_text r.indent r.first r.text ++ spell_more r.indent r.more

abbrev pub spell_lines : Lines → List ℕ
spell_lines l = spell_header l.folded l.chomp ++ (spell_ending l.ending
    ++ (spell_blanks l.leading ++ spell_rows l.rows))

abbrev pub spell_note : Option Note → List ℕ
spell_note None = []
spell_note (Some n) = spell_ending (Noted n.indent n.text) ++ spell_gaps n.gaps

-- a line of text at this indentation: at the first column it is no mark, which would end the text
abbrev pub is_row : (indent c : ℕ) → List ℕ → Bool
is_row indent c cs = is_inner c && list_all is_inner cs && not ((indent == 0) && is_mark true c cs)

abbrev pub AreMore : ℕ → List TextLine → Type 0
AreMore indent [] = Unit {0}
AreMore indent (Line c cs ∷ ls) = (is_row indent c cs ≡ true) × AreMore indent ls
AreMore indent (Blank n ∷ ls) = (n ≤ indent) × AreMore indent ls

-- where this is the least column
abbrev pub AreRows : (least : ℕ) → Option Rows → Type 0
AreRows least None = Unit {0}
AreRows least (Some r) = (least ≤ r.indent) × ((r.first == 32) ≡ false) × (is_row r.indent r.first r.text ≡ true)
    × AreMore r.indent r.more

abbrev pub AreLines : (least : ℕ) → Lines → Type 0
AreLines least l = IsEnding l.ending × IsApart l.ending × AreRows least l.rows

-- a line that begins at this column is none of the text
abbrev pub IsBeyond : (least : ℕ) → Option Rows → ℕ → Type 0
IsBeyond least None column = column < least
IsBeyond least (Some r) column = column < r.indent

abbrev pub IsNote : (least : ℕ) → Option Rows → Option Note → Type 0
IsNote least rows None = Unit {0}
IsNote least rows (Some n) = IsBeyond least rows n.indent × (list_all is_inner n.text ≡ true) × AreGaps n.gaps

-- the text of the lines, one after another
abbrev pub go_all : BlockText → List ℕ → BlockText
go_all b [] = b
go_all b (c ∷ cs) = go_all (go_on b c) cs

abbrev pub with_more : BlockText → List TextLine → BlockText
with_more b [] = b
with_more b (Line c cs ∷ ls) = with_more (go_all (begin_line b c) cs) ls
with_more b (Blank n ∷ ls) = with_more (empty_line b) ls

abbrev pub with_rows : BlockText → Option Rows → BlockText
with_rows b None = b
with_rows b (Some r) = with_more (go_all (first_line b r.indent r.first) r.text) r.more

abbrev pub text_of : Lines → BlockText
text_of l = with_rows (record (no_lines l.folded) { chomp = l.chomp; leading = l.leading }) l.rows

-- ---- values that are no blocks

-- a scalar or flow list with the line ends after it, or a block scalar
pub data Leaf : Type 0 where
  Flowing : Flow → Ending → List Ending → Leaf
  Scalars : Lines → Option Note → Leaf

abbrev pub spell_leaf : Leaf → List ℕ
spell_leaf (Flowing x e gaps) = spell_flow x ++ (spell_ending e ++ spell_gaps gaps)
spell_leaf (Scalars l n) = spell_lines l ++ spell_note n

abbrev pub leaf_value : Leaf → Value
leaf_value (Flowing x e gaps) = flow_value x
leaf_value (Scalars l n) = a_text (block_text (text_of l))

-- at a place, with this least column of its further lines, and so many collections are open around it
abbrev pub IsLeaf : (place : Option ℕ) → (least level : ℕ) → Leaf → Type 0
IsLeaf place least level (Flowing x e gaps) = IsFlow place false true least level x × IsEnding e × IsApart e
    × AreGaps gaps
IsLeaf place least level (Scalars l n) = AreLines least l × IsNote least l.rows n

-- ---- blocks

mutual
  -- what stands after a key's colon or a dash: nothing, a value that is no block on the line, or a value on deeper
  -- lines
  pub data Node : Type 0 where
    Nothing : Ending → List Ending → Node
    Beside : (n : ℕ) → Leaf → Node
    Below : Ending → List Ending → Block → Node

  -- a map or a list at a column, and any other value on lines of its own
  pub data Block : Type 0 where
    Map : (column : ℕ) → Entries → Block
    Dashes : (column : ℕ) → Items → Block
    Alone : (column : ℕ) → Leaf → Block

  -- entries, each on a line that begins with the spaces of the column; the first line's are the block's
  pub data Entries : Type 0 where
    First : Key → Node → Entries
    Next : Entries → Key → Node → Entries

  pub data Items : Type 0 where
    FirstItem : Item → Items
    NextItem : Items → Item → Items

  -- what stands after a dash: also a map whose first key is on the dash's line
  pub data Item : Type 0 where
    Of : Node → Item
    MapOnLine : (n : ℕ) → Entries → Item

abbrev pub item_column : (column n : ℕ) → ℕ
item_column column n = suc column + suc n

abbrev mutual
  pub spell_node : Node → List ℕ
  spell_node (Nothing e gaps) = spell_ending e ++ spell_gaps gaps
  spell_node (Beside n l) = spaces (suc n) ++ spell_leaf l
  spell_node (Below e gaps b) = spell_ending e ++ (spell_gaps gaps ++ spell_block b)

  pub spell_block : Block → List ℕ
  spell_block (Map column es) = spaces column ++ spell_entries column es
  spell_block (Dashes column is) = spaces column ++ spell_items column is
  spell_block (Alone column l) = spaces column ++ spell_leaf l

  pub spell_entries : ℕ → Entries → List ℕ
  spell_entries column (First k x) = spell_key k ++ colon ∷ spell_node x
  spell_entries column (Next es k x) =
      spell_entries column es ++ (spaces column ++ (spell_key k ++ colon ∷ spell_node x))

  pub spell_items : ℕ → Items → List ℕ
  spell_items column (FirstItem i) = hyphen ∷ spell_item column i
  spell_items column (NextItem is i) = spell_items column is ++ (spaces column ++ hyphen ∷ spell_item column i)

  pub spell_item : ℕ → Item → List ℕ
  spell_item column (Of x) = spell_node x
  spell_item column (MapOnLine n es) = spaces (suc n) ++ spell_entries (item_column column n) es

abbrev pub keys_of : Entries → List (List ℕ)
keys_of (First k x) = key_text k ∷ []
keys_of (Next es k x) = keys_of es ++ key_text k ∷ []

abbrev mutual
  pub node_value : Node → Value
  node_value (Nothing e gaps) = null
  node_value (Beside n l) = leaf_value l
  node_value (Below e gaps b) = block_value b

  pub block_value : Block → Value
  block_value (Map column es) = a_map (pairs_of (keys_of es) (entry_values es))
  block_value (Dashes column is) = a_list (items_from (item_values is))
  block_value (Alone column l) = leaf_value l

  pub entry_values : Entries → List Value
  entry_values (First k x) = node_value x ∷ []
  entry_values (Next es k x) = entry_values es ++ node_value x ∷ []

  pub item_values : Items → List Value
  item_values (FirstItem i) = item_value i ∷ []
  item_values (NextItem is i) = item_values is ++ item_value i ∷ []

  pub item_value : Item → Value
  item_value (Of x) = node_value x
  item_value (MapOnLine n es) = a_map (pairs_of (keys_of es) (entry_values es))

-- where a block may stand: deeper than the one around it, and a list also at the column of the map whose key it belongs
-- to
abbrev pub IsWithin : (least : ℕ) → (around : Bool) → Block → Type 0
IsWithin column true (Dashes own is) = column ≤ own
IsWithin column around (Dashes own is) = column < own
IsWithin column around (Map own es) = column < own
IsWithin column around (Alone own l) = column < own

abbrev mutual
  -- the rules of the layout, below a block at this column, which is a map or not, and so many levels deep
  pub IsNode : (column : ℕ) → (in_map : Bool) → (level : ℕ) → Node → Type 0
  IsNode column in_map level (Nothing e gaps) = IsEnding e × IsApart e × AreGaps gaps
  IsNode column in_map level (Beside n l) = IsLeaf None (suc column) level l
  IsNode column in_map level (Below e gaps b) = IsEnding e × IsApart e × AreGaps gaps × IsWithin column in_map b
      × IsBlock (suc column) level b

  pub IsBlock : (least level : ℕ) → Block → Type 0
  IsBlock least level (Map column es) = (level < 32) × AreEntries (Some column) column (suc level) es
  IsBlock least level (Dashes column is) = (level < 32) × AreItems column (suc level) is
  IsBlock least level (Alone column l) = IsLeaf (Some column) least level l

  -- with the place of the first key
  pub AreEntries : (place : Option ℕ) → (column level : ℕ) → Entries → Type 0
  AreEntries place column level (First k x) = IsKey place k × IsNode column true level x
  AreEntries place column level (Next es k x) = AreEntries place column level es × IsKey (Some column) k
      × (list_any (bytes_eq (key_text k)) (keys_of es) ≡ false) × IsNode column true level x

  pub AreItems : (column level : ℕ) → Items → Type 0
  AreItems column level (FirstItem i) = IsItem column level i
  AreItems column level (NextItem is i) = AreItems column level is × IsItem column level i

  pub IsItem : (column level : ℕ) → Item → Type 0
  IsItem column level (Of x) = IsNode column false level x
  IsItem column level (MapOnLine n es) = (level < 32) × AreEntries None (item_column column n) (suc level) es

-- ---- files

-- before a file's value: lines without content, and maybe a `---` line with such lines after it
pub data Head : Type 0 where
  Unmarked : List Ending → Head
  Marked : List Ending → Ending → List Ending → Head

abbrev pub spell_head : Head → List ℕ
spell_head (Unmarked gaps) = spell_gaps gaps
spell_head (Marked before e gaps) = spell_gaps before ++ hyphen ∷ hyphen ∷ hyphen ∷ (spell_ending e ++ spell_gaps gaps)

abbrev pub IsHead : Head → Type 0
IsHead (Unmarked gaps) = AreGaps gaps
IsHead (Marked before e gaps) = AreGaps before × IsEnding e × IsApart e × AreGaps gaps

-- the end of a line, before more characters: a line feed, maybe with a carriage return before it, or none at the end of
-- the file
abbrev pub end_of_line : (cut return : Bool) → (rest more : List ℕ) → List ℕ
end_of_line true return [] more = []
end_of_line cut true rest more = carriage_return ∷ newline ∷ more
end_of_line cut false rest more = newline ∷ more

-- with such line ends, from this line on
abbrev pub with_ends : (cut : Bool) → (returns : ℕ → Bool) → (line : ℕ) → List ℕ → List ℕ
with_ends cut returns line [] = []
with_ends cut returns line (c ∷ cs) = if c == newline then end_of_line cut (returns line) cs
    (with_ends cut returns (suc line) cs) else c ∷ with_ends cut returns line cs

-- the last line has characters, and a line feed after them
abbrev pub ends_begun : (begun : Bool) → List ℕ → Bool
ends_begun begun [] = false
ends_begun begun (c ∷ []) = begun && (c == newline)
ends_begun begun (c ∷ d ∷ ds) = ends_begun (not (c == newline)) (d ∷ ds)

-- a carriage return that is a character stands before no line feed of the file; it may stand before a line end that has
-- one of its own, and where the last line end is cut off
abbrev pub is_clear : (cut : Bool) → (returns : ℕ → Bool) → (line : ℕ) → List ℕ → Bool
is_clear cut returns line [] = true
is_clear cut returns line (c ∷ cs) =
    if c == newline then is_clear cut returns (suc line) cs
    else not ((c == carriage_return) && begins_with newline (with_ends cut returns line cs))
    && is_clear cut returns line cs

-- a file: what stands before its value, and the value, if there is one; which lines end with a carriage return before
-- the line feed, and whether the last line's end is cut off
pub record File : Type 0 where
  pub head : Head
  pub block : Option Block
  pub returns : (line : ℕ) → Bool
  pub cut : Bool

abbrev pub spell_body : Option Block → List ℕ
spell_body None = []
spell_body (Some b) = spell_block b

-- where each line ends with a line feed
abbrev pub spell_whole : File → List ℕ
spell_whole f = spell_head f.head ++ spell_body f.block

abbrev pub spell_file : File → List ℕ
spell_file f = with_ends f.cut f.returns 0 (spell_whole f)

abbrev pub body_value : Option Block → Value
body_value None = null
body_value (Some b) = block_value b

abbrev pub file_value : File → Value
file_value f = body_value f.block

abbrev pub IsBody : Option Block → Type 0
IsBody None = Unit {0}
IsBody (Some b) = IsBlock 0 0 b

abbrev pub IsFile : File → Type 0
IsFile f = IsHead f.head × IsBody f.block × (is_clear f.cut f.returns 0 (spell_whole f) ≡ true)
    × (f.cut ≡ true → ends_begun false (spell_whole f) ≡ true)

-- the bytes are spelled by a tree of this value
pub record IsSpelled (bytes : List ℕ) (v : Value) : Type 0 where
  pub file : File
  pub is : IsFile file
  pub scalars : all_scalars (spell_file file) ≡ true
  pub spelled : encode_utf8_all (spell_file file) ≡ bytes
  pub value : file_value file ≡ v
