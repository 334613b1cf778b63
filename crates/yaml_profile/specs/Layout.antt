-- What a front takes in at the starts of lines: which open blocks end there, and the lines of block scalars.
use Rattle.std.specs.Prelude.{ℕ, ◌+◌, ◌-◌, Bool, true, false, ◌&&◌, ◌||◌, not, ◌==◌, nat_lt, nat_le, List, [], ◌∷◌, ◌++◌, Some, None, Result, Ok, if◌then◌else◌}
use Rattle.edt_base.specs.Ascii.{carriage_return, hash, hyphen, newline, plus, right_bracket, space, tab}
use Rattle.edt_base.specs.YamlData.{Value, a_text, null}
use Rattle.yaml_profile.specs.declared.stop.Broken.{Broken}
use Rattle.yaml_profile.specs.declared.front.Role.TheVariants.{Value as ValueOnly, Either, Key as KeyOnly}
use Rattle.yaml_profile.specs.declared.block_text.Chomp.TheVariants.{Strip, Keep}
use Rattle.yaml_profile.specs.Answers.{no_text, left_out}
use Rattle.yaml_profile.specs.Signs.{is_digit, begins_with, ends_word, behind, place_of, begins_mark}
use Rattle.yaml_profile.specs.Scalars.{scalar_of}
use Rattle.yaml_profile.specs.Folding.{end_line}
use Rattle.yaml_profile.specs.BlockText.{BlockText, first_line, begin_line, go_on, blank_line as blank_text_line, block_text}
use Rattle.yaml_profile.specs.Fronts.{Frame, InMap, InList, InFlow, Waiting, Fresh, Nothing, Going, Whole, AtLine, AtValue, InComment, InMark, AfterValue, InHeader, InHeaderComment, AtTextLine, AtBlankEnd, InTextLine, Front, front, closed, is_flow, is_deeper, is_map_at}
use Rattle.yaml_profile.specs.Pieces.{open_list, end_flow, after_item, begin_value, in_plain}

-- ---- a line that the value so far doesn't go on to

-- a dash of a list: a space or line end follows
abbrev pub is_dash : (c : ℕ) → (rest : List ℕ) → Bool
is_dash c rest = (c == hyphen) && ends_word rest

-- an item of the list at this column, if a dash and a space or line end stand there
unfoldable pub next_item : List Frame → (column : ℕ) → List Value → (start at c : ℕ) → (rest : List ℕ)
    → Result Front Broken
next_item frames column items start at c rest =
    if is_dash c rest then Ok (front (InList column items ∷ frames) (AtValue start true false))
    else if c == hyphen then no_text (behind at rest)
    else no_text (place_of at c)

-- the innermost block ends where something begins at this column: it is of a deeper column, or a list at the column of
-- a map around it, and no dash stands there
abbrev pub ends_block : Frame → List Frame → (column : ℕ) → (dash : Bool) → Bool
ends_block (InMap own keys values) around column dash = nat_lt column own
ends_block (InList own items) around column dash = nat_lt column own
    || ((own == column) && not dash && is_map_at own around)
ends_block (InFlow items) around column dash = false

-- a further entry of the block at this column begins
unfoldable pub next_entry : Frame → List Frame → Value → (start at c : ℕ) → (rest : List ℕ) → Result Front Broken
next_entry (InMap own keys values) around v start at c rest =
    if own == (at - start) then begin_value (InMap own keys (values ++ v ∷ []) ∷ around) KeyOnly at c rest
    else no_text (place_of at c)
next_entry (InList own items) around v start at c rest =
    if own == (at - start) then next_item around own (items ++ v ∷ []) start at c rest else no_text (place_of at c)
next_entry (InFlow items) around v start at c rest = no_text (place_of at c)

-- the value is whole, and something begins at a column: the blocks that end there are closed, and what begins is an
-- entry of the next one
unfoldable pub settle : List Frame → Value → (start at c : ℕ) → (rest : List ℕ) → Result Front Broken
settle [] v start at c rest = no_text (place_of at c)
settle (f ∷ fs) v start at c rest =
    if ends_block f fs (at - start) (is_dash c rest) then settle fs (closed f v) start at c rest
    else next_entry f fs v start at c rest

-- ---- the start of a line

-- one more line end after a plain text
abbrev pub one_line_more : Waiting → Waiting
one_line_more (Going t) = Going (end_line t)
one_line_more w = w

-- a comment ends a plain text
abbrev pub ended : Waiting → Waiting
ended (Going t) = Whole (scalar_of t.text)
ended w = w

abbrev pub is_fresh : Waiting → Bool
is_fresh Fresh = true
is_fresh _ = false

-- a value begins on a line of its own
unfoldable pub begin_on_line : List Frame → (start at c : ℕ) → (rest : List ℕ) → Result Front Broken
begin_on_line frames start at c rest =
    if is_dash c rest then open_list frames start (at - start) at
    else begin_value frames (Either (at - start)) at c rest

-- no value stands yet: it may begin deeper than the block around it, a list also at the column of the map whose key it
-- belongs to
unfoldable pub value_on_line : List Frame → (start at c : ℕ) → (rest : List ℕ) → Result Front Broken
value_on_line frames start at c rest =
    if is_deeper (at - start) frames then begin_on_line frames start at c rest
    else if is_map_at (at - start) frames && is_dash c rest then open_list frames start (at - start) at
    else settle frames null start at c rest

unfoldable pub block_line : List Frame → Waiting → (start at c : ℕ) → (rest : List ℕ) → Result Front Broken
block_line frames (Going t) start at c rest =
    if is_deeper (at - start) frames then in_plain frames t ValueOnly at false at c rest
    else settle frames (scalar_of t.text) start at c rest
block_line frames (Whole v) start at c rest = settle frames v start at c rest
block_line frames _ start at c rest = value_on_line frames start at c rest

unfoldable pub flow_line : List Frame → Waiting → (start at c : ℕ) → (rest : List ℕ) → Result Front Broken
flow_line frames (Going t) start at c rest =
    if is_deeper (at - start) frames then in_plain frames t ValueOnly at false at c rest
    else after_item frames (scalar_of t.text) at c
flow_line frames (Whole v) start at c rest = after_item frames v at c
flow_line frames _ start at c rest = if c == right_bracket then end_flow frames at
    else begin_value frames ValueOnly at c rest

-- `---` may stand once, before all else; `...` and another `---` are left out
abbrev pub mark_line : List Frame → Waiting → (at c : ℕ) → Result Front Broken
mark_line frames waiting at c = if is_fresh waiting && (c == hyphen) then Ok (front frames (InMark 2)) else left_out at

-- the first character of a line that is no space
unfoldable pub line_content : List Frame → Waiting → (start at c : ℕ) → (rest : List ℕ) → Result Front Broken
line_content frames waiting start at c rest =
    if is_flow frames then flow_line frames waiting start at c rest
    else if ((at - start) == 0) && begins_mark c rest then mark_line frames waiting at c
    else block_line frames waiting start at c rest

abbrev pub blank_line : List Frame → Waiting → (at : ℕ) → Result Front Broken
blank_line frames waiting at = Ok (front frames (AtLine (at + 1) (one_line_more waiting)))

abbrev pub begin_comment : List Frame → Waiting → Result Front Broken
begin_comment frames waiting = Ok (front frames (InComment (ended waiting)))

unfoldable pub in_line : List Frame → Waiting → (start at c : ℕ) → (rest : List ℕ) → Result Front Broken
in_line frames waiting start at c rest =
    if c == space then Ok (front frames (AtLine start waiting))
    else if c == newline then blank_line frames waiting at
    else if c == tab then no_text at
    else if c == hash then begin_comment frames waiting
    else line_content frames waiting start at c rest

unfoldable pub in_comment : List Frame → Waiting → (at c : ℕ) → Result Front Broken
in_comment frames waiting at c = if c == newline then Ok (front frames (AtLine (at + 1) waiting))
    else Ok (front frames (InComment waiting))

unfoldable pub in_mark : List Frame → (left : ℕ) → Result Front Broken
in_mark frames left = if nat_le left 1 then Ok (front frames (AfterValue Nothing false))
    else Ok (front frames (InMark (left - 1)))

-- ---- block scalars

abbrev pub with_chomp : BlockText → ℕ → BlockText
with_chomp b c = if c == plus then record b { chomp = Keep } else record b { chomp = Strip }

-- after `|` or `>`: an indicator, then spaces and a comment; a digit is left out
unfoldable pub in_header : List Frame → BlockText → (signed spaced : Bool) → (at c : ℕ) → Result Front Broken
in_header frames b signed spaced at c =
    if c == space then Ok (front frames (InHeader b signed true))
    else if c == newline then Ok (front frames (AtTextLine (at + 1) b))
    else if (c == hash) && spaced then Ok (front frames (InHeaderComment b))
    else if is_digit c && not spaced then left_out at
    else if ((c == plus) || (c == hyphen)) && not spaced && not signed
    then Ok (front frames (InHeader (with_chomp b c) true false))
    else no_text (place_of at c)

unfoldable pub in_header_comment : List Frame → BlockText → (at c : ℕ) → Result Front Broken
in_header_comment frames b at c = if c == newline then Ok (front frames (AtTextLine (at + 1) b))
    else Ok (front frames (InHeaderComment b))

-- the line is one of text: it has the text's indentation, or is the first and deeper than the block around the scalar.
-- Where the file could end, a mark ends the text
abbrev pub is_text_line : List Frame → BlockText → (column : ℕ) → Bool
is_text_line frames b column = elim b.indent [ None ↦ is_deeper column frames | Some i ↦ nat_le i column ]

-- a line of text begins
abbrev pub begin_text : List Frame → BlockText → (column c : ℕ) → Result Front Broken
begin_text frames b column c = Ok (front frames (InTextLine
    (elim b.indent [ None ↦ first_line b column c | Some i ↦ begin_line b c ])))

-- a space is text where the indentation is complete
abbrev pub is_indented : BlockText → (column : ℕ) → Bool
is_indented b column = elim b.indent [ None ↦ false | Some i ↦ nat_le i column ]

-- a carriage return that ends a line is no part of it
abbrev pub ends_blank_line : (c : ℕ) → (rest : List ℕ) → Bool
ends_blank_line c rest = (c == carriage_return) && begins_with newline rest

-- a line ends that has only so many spaces
abbrev pub end_blank : List Frame → (spaces : ℕ) → BlockText → (at : ℕ) → Result Front Broken
end_blank frames spaces b at = Ok (front frames (AtTextLine (at + 1) (blank_text_line b spaces)))

-- the scalar ends before this line
abbrev pub end_block : List Frame → BlockText → (start at c : ℕ) → (rest : List ℕ) → Result Front Broken
end_block frames b start at c rest = in_line frames (Whole (a_text (block_text b))) start at c rest

unfoldable pub at_text_line : List Frame → BlockText → (start at c : ℕ) → (rest : List ℕ) → Result Front Broken
at_text_line frames b start at c rest =
    if c == newline then end_blank frames (at - start) b at
    else if ends_blank_line c rest then Ok (front frames (AtBlankEnd (at - start) b))
    else if (c == space) && not (is_indented b (at - start)) then Ok (front frames (AtTextLine start b))
    else if is_text_line frames b (at - start) && not (((at - start) == 0) && begins_mark c rest)
    then begin_text frames b (at - start) c
    else end_block frames b start at c rest

unfoldable pub at_blank_end : List Frame → (spaces : ℕ) → BlockText → (at : ℕ) → Result Front Broken
at_blank_end frames spaces b at = end_blank frames spaces b at

unfoldable pub in_text_line : List Frame → BlockText → (at c : ℕ) → Result Front Broken
in_text_line frames b at c = if c == newline then Ok (front frames (AtTextLine (at + 1) b))
    else Ok (front frames (InTextLine (go_on b c)))
