-- A file is read from its first character to its last. The front after each character decides which ones may follow.
use Rattle.std.specs.Prelude.{ℕ, ◌+◌, ◌-◌, Bool, true, false, ◌&&◌, not, ◌==◌, List, [], ◌∷◌, ◌++◌, length, take, drop, Option, Some, None, Result, Ok, if◌then◌else◌}
use Rattle.std.specs.Char.{len_utf8}
use Rattle.std.specs.Int.{is_in_range}
use Rattle.std.specs.Str.{chars}
use Rattle.std.specs.Str.Lossy.{utf8_valid_len, utf8_invalid_len}
use Rattle.edt_base.specs.Ascii.{carriage_return, newline}
use Rattle.edt_base.specs.YamlData.{Value, a_text, null}
use Rattle.yaml_profile.specs.declared.stop.Broken.{Broken}
use Rattle.yaml_profile.specs.Answers.{no_text, ◌>>=◌}
use Rattle.yaml_profile.specs.Signs.{begins_with, broken_off}
use Rattle.yaml_profile.specs.Scalars.{scalar_of}
use Rattle.yaml_profile.specs.BlockText.{BlockText, blank_line, block_text}
use Rattle.yaml_profile.specs.Fronts.{Frame, Fresh, Innermost, AtLine, AtValue, InPlain, InSingle, AtSecondQuote, InDouble, InEscape, InDigits, AfterQuoted, AfterValue, InComment, InMark, InHeader, InHeaderComment, AtTextLine, AtBlankEnd, InTextLine, Front, front, all_closed, value_so_far, is_flow}
use Rattle.yaml_profile.specs.Pieces.{in_at_value, in_plain, in_single, at_second_quote, in_double, in_escape, in_digits, in_after_quoted, in_after_value, is_key_only}
use Rattle.yaml_profile.specs.Layout.{in_line, in_comment, in_mark, in_header, in_header_comment, at_text_line, at_blank_end, in_text_line}

-- before the first character
abbrev pub at_start : Front
at_start = front [] (AtLine 0 Fresh)

-- the front after one character more
unfoldable pub taken : List Frame → Innermost → (at c : ℕ) → (rest : List ℕ) → Result Front Broken
taken frames (AtLine start waiting) at c rest = in_line frames waiting start at c rest
taken frames (AtValue start mapped spaced) at c rest = in_at_value frames start mapped spaced at c rest
taken frames (InPlain text role begun spaced) at c rest = in_plain frames text role begun spaced at c rest
taken frames (InSingle text role begun) at c rest = in_single frames text role begun at c rest
taken frames (AtSecondQuote text role begun) at c rest = at_second_quote frames text role begun c
taken frames (InDouble text role begun) at c rest = in_double frames text role begun at c
taken frames (InEscape text role begun) at c rest = in_escape frames text role begun at c
taken frames (InDigits text role begun left number) at c rest = in_digits frames text role begun left number at c
taken frames (AfterQuoted text role begun spaced) at c rest = in_after_quoted frames text role begun spaced at c rest
taken frames (AfterValue waiting spaced) at c rest = in_after_value frames waiting spaced at c
taken frames (InComment waiting) at c rest = in_comment frames waiting at c
taken frames (InMark left) at c rest = in_mark frames left
taken frames (InHeader b signed spaced) at c rest = in_header frames b signed spaced at c
taken frames (InHeaderComment b) at c rest = in_header_comment frames b at c
taken frames (AtTextLine start b) at c rest = at_text_line frames b start at c rest
taken frames (AtBlankEnd spaces b) at c rest = at_blank_end frames spaces b at
taken frames (InTextLine b) at c rest = in_text_line frames b at c

-- a carriage return before a line feed is taken with it, wherever the line may end
abbrev pub takes_return : Innermost → Bool
takes_return (InDigits text role begun left number) = false
takes_return (AfterQuoted text role begun spaced) = not (is_key_only role)
takes_return (AtTextLine start b) = false
takes_return _ = true

unfoldable pub step : Front → (at c : ℕ) → (rest : List ℕ) → Result Front Broken
step f at c rest = if (c == carriage_return) && begins_with newline rest && takes_return f.inner then Ok f
    else taken f.frames f.inner at c rest

-- the front after all these characters, the first of them at this place
unfoldable pub walk : Front → ℕ → List ℕ → Result Front Broken
walk f at [] = Ok f
walk f at (c ∷ cs) = step f at c cs >>= λ g. walk g (at + len_utf8 c) cs

-- no flow list is open
abbrev pub outside_flow : List Frame → Value → (at : ℕ) → Result Value Broken
outside_flow frames v at = if is_flow frames then no_text at else Ok (all_closed frames v)

-- the last line of a block scalar ends where the file does
abbrev pub last_line : BlockText → (spaces : ℕ) → BlockText
last_line b spaces = if spaces == 0 then b else blank_line b spaces

-- the value of a file that ends here
unfoldable pub ends : List Frame → Innermost → (at : ℕ) → Result Value Broken
ends frames (AtLine start waiting) at = outside_flow frames (value_so_far waiting) at
ends frames (AtValue start mapped spaced) at = outside_flow frames null at
ends frames (InPlain text role begun spaced) at = if is_key_only role then no_text at
    else outside_flow frames (scalar_of text.text) at
ends frames (AfterQuoted text role begun spaced) at = if is_key_only role then no_text at
    else outside_flow frames (a_text text) at
ends frames (AfterValue waiting spaced) at = outside_flow frames (value_so_far waiting) at
ends frames (InComment waiting) at = outside_flow frames (value_so_far waiting) at
ends frames (InHeader b signed spaced) at = outside_flow frames (a_text (block_text b)) at
ends frames (InHeaderComment b) at = outside_flow frames (a_text (block_text b)) at
ends frames (AtTextLine start b) at = outside_flow frames (a_text (block_text (last_line b (at - start)))) at
ends frames (AtBlankEnd spaces b) at = outside_flow frames (a_text (block_text (last_line b spaces))) at
ends frames (InTextLine b) at = outside_flow frames (a_text (block_text b)) at
ends frames _ at = no_text at

-- ---- bytes

-- the bytes are UTF-8 to their end
abbrev pub is_whole : List ℕ → Bool
is_whole bytes = utf8_valid_len bytes == length bytes

-- how many of these bytes, which begin no character, may begin one
abbrev pub begun_len : List ℕ → ℕ
begun_len [] = 0
begun_len (b ∷ bs) = if is_in_range 0xC2 0xF4 b then utf8_invalid_len (b ∷ bs) else 0

-- where bytes stop being UTF-8: at the byte that no character goes on with, or at the end
abbrev pub broken_at : List ℕ → ℕ
broken_at bytes = utf8_valid_len bytes + begun_len (drop (utf8_valid_len bytes) bytes)

abbrev pub broken_place : List ℕ → Option ℕ
broken_place bytes = if is_whole bytes then None else Some (broken_at bytes)

-- the characters of a file. A character that is broken off counts as one that means nothing
abbrev pub characters : List ℕ → List ℕ
characters bytes = chars (take (utf8_valid_len bytes) bytes) ++ broken_off (not (is_whole bytes))

-- the value of a file, or its first broken rule
unfoldable pub reading : List ℕ → Result Value Broken
reading bytes = walk at_start 0 (characters bytes) >>= λ f. if is_whole bytes then ends f.frames f.inner (length bytes)
    else no_text (broken_at bytes)
