-- What a front takes in on a line: values where they begin, texts, and what stands after them.
use Rattle.std.specs.Prelude.{ℕ, ◌+◌, ◌-◌, ◌*◌, ◌%◌, Bool, true, false, ◌&&◌, ◌||◌, not, ◌==◌, nat_lt, nat_le, List, [], ◌∷◌, ◌++◌, codes, Result, Ok, if◌then◌else◌}
use Rattle.std.specs.List.{list_any}
use Rattle.std.specs.Str.{bytes_eq}
use Rattle.edt_base.specs.Ascii.{backslash, carriage_return, colon, comma, digit_0, double_quote, form_feed, greater_than, hash, left_bracket, lower_a, lower_b, lower_e, lower_f, lower_n, lower_r, lower_t, lower_u, lower_v, lower_x, newline, question, right_bracket, single_quote, slash, space, tab, vertical_bar, vertical_tab}
use Rattle.edt_base.specs.YamlData.{Value, a_list, a_text, items_from}
use Rattle.yaml_profile.specs.declared.stop.Broken.{Broken}
use Rattle.yaml_profile.specs.declared.front.Role.{Role}
use Rattle.yaml_profile.specs.declared.front.Role.TheVariants.{Value as ValueOnly, Either, Key as KeyOnly}
use Rattle.yaml_profile.specs.Answers.{no_text, left_out, second_key, too_deep}
use Rattle.yaml_profile.specs.Signs.{is_blank, begins_with, ends_word, behind, place_of, is_flow_sign, is_word_sign, is_left_out, begins_nothing}
use Rattle.yaml_profile.specs.Scalars.{scalar_of, digit}
use Rattle.yaml_profile.specs.Folding.{Folding, nothing_yet, put, put_blank, end_line, join_line, caught_up}
use Rattle.yaml_profile.specs.BlockText.{no_lines}
use Rattle.yaml_profile.specs.Fronts.{Frame, InMap, InList, InFlow, Waiting, Nothing, Going, Whole, AtLine, AtValue, InPlain, InSingle, AtSecondQuote, InDouble, InEscape, InDigits, AfterQuoted, AfterValue, InComment, InHeader, Front, front, value_so_far, is_flow, is_full}

-- ---- collections that begin

-- a list, at the dash
unfoldable pub open_list : List Frame → (start column at : ℕ) → Result Front Broken
open_list frames start column at = if is_full frames then too_deep at
    else Ok (front (InList column [] ∷ frames) (AtValue start true false))

-- a flow list, at the bracket
unfoldable pub open_flow : List Frame → (at : ℕ) → Result Front Broken
open_flow frames at = if is_full frames then too_deep at else Ok (front (InFlow [] ∷ frames) (AtValue 0 false false))

-- ---- keys

-- the map at a column begins with a key
abbrev pub first_key : List Frame → (column : ℕ) → (key : List ℕ) → (at : ℕ) → Result Front Broken
first_key frames column key at = if is_full frames then too_deep at
    else Ok (front (InMap column (key ∷ []) [] ∷ frames) (AtValue 0 false false))

-- the innermost map goes on with a key
abbrev pub further_key : List Frame → (key : List ℕ) → (at : ℕ) → Result Front Broken
further_key (InMap column keys values ∷ fs) key at =
    if list_any (bytes_eq key) keys then second_key at
    else Ok (front (InMap column (keys ++ key ∷ []) values ∷ fs) (AtValue 0 false false))
further_key _ key at = no_text at

-- a text is a key, by the colon after it; `fails` is where it shows that no key can stand there
unfoldable pub key_of : List Frame → Role → (key : List ℕ) → (at fails : ℕ) → Result Front Broken
key_of frames ValueOnly key at fails = no_text fails
key_of frames (Either column) key at fails = first_key frames column key at
key_of frames KeyOnly key at fails = further_key frames key at

abbrev pub is_value_only : Role → Bool
is_value_only ValueOnly = true
is_value_only _ = false

-- a plain key: `<<` is left out
unfoldable pub plain_key : List Frame → Role → (key : List ℕ) → (at fails : ℕ) → Result Front Broken
plain_key frames role key at fails = if bytes_eq key (codes "<<") && not (is_value_only role) then left_out at
    else key_of frames role key at fails

-- ---- after a value

-- after an item of a flow list stands a comma or the closing bracket
unfoldable pub after_item : List Frame → Value → (at c : ℕ) → Result Front Broken
after_item (InFlow items ∷ fs) v at c =
    if c == comma then Ok (front (InFlow (items ++ v ∷ []) ∷ fs) (AtValue 0 false false))
    else if c == right_bracket then Ok (front fs (AfterValue (Whole (a_list (items_from (items ++ v ∷ [])))) false))
    else no_text (place_of at c)
after_item frames v at c = no_text (place_of at c)

-- a flow list ends without an item before the bracket
unfoldable pub end_flow : List Frame → (at : ℕ) → Result Front Broken
end_flow (InFlow items ∷ fs) at = Ok (front fs (AfterValue (Whole (a_list (items_from items))) false))
end_flow frames at = no_text at

-- only spaces, a comment and the line end, and in a flow list what stands after an item
unfoldable pub in_after_value : List Frame → Waiting → (spaced : Bool) → (at c : ℕ) → Result Front Broken
in_after_value frames waiting spaced at c =
    if c == space then Ok (front frames (AfterValue waiting true))
    else if c == newline then Ok (front frames (AtLine (at + 1) waiting))
    else if (c == hash) && spaced then Ok (front frames (InComment waiting))
    else after_item frames (value_so_far waiting) at c

-- ---- where a value begins

-- `|` and `>`, which aren't in flow lists
abbrev pub begin_block : List Frame → Bool → (at : ℕ) → Result Front Broken
begin_block frames folded at = if is_flow frames then no_text at
    else Ok (front frames (InHeader (no_lines folded) false false))

-- the indicator of a value that isn't a text, or of a left-out form
unfoldable pub begin_sign : List Frame → (at c : ℕ) → Result Front Broken
begin_sign frames at c =
    if c == left_bracket then open_flow frames at
    else if c == vertical_bar then begin_block frames false at
    else if c == greater_than then begin_block frames true at
    else left_out at

abbrev pub is_value_sign : ℕ → Bool
is_value_sign c = (c == left_bracket) || (c == vertical_bar) || (c == greater_than) || is_left_out c

abbrev pub is_key_only : Role → Bool
is_key_only KeyOnly = true
is_key_only _ = false

-- a plain text begins. A tab that begins it waits as a blank: it is part of the text if a character follows that is
-- none, and a text of tabs alone is empty
abbrev pub begin_plain : List Frame → Role → (at c : ℕ) → Result Front Broken
begin_plain frames role at c = if c == tab then Ok (front frames (InPlain (put_blank nothing_yet c) role at false))
    else Ok (front frames (InPlain (put nothing_yet c) role at false))

unfoldable pub begin_value : List Frame → Role → (at c : ℕ) → (rest : List ℕ) → Result Front Broken
begin_value frames role at c rest =
    if c == double_quote then Ok (front frames (InDouble nothing_yet role at))
    else if c == single_quote then Ok (front frames (InSingle nothing_yet role at))
    else if is_word_sign c && ends_word rest then (if (c == question) && begins_with space rest then left_out at
    else no_text (behind at rest))
    else if is_value_sign c && not (is_key_only role) then begin_sign frames at c
    else if is_value_sign c || begins_nothing c then no_text at
    else begin_plain frames role at c

-- where a value may begin on a line that began at `start`
unfoldable pub in_at_value : List Frame → (start : ℕ) → (mapped spaced : Bool) → (at c : ℕ) → (rest : List ℕ)
    → Result Front Broken
in_at_value frames start mapped spaced at c rest =
    if c == space then Ok (front frames (AtValue start mapped true))
    else if c == newline then Ok (front frames (AtLine (at + 1) Nothing))
    else if (c == hash) && spaced then Ok (front frames (InComment Nothing))
    else if (c == right_bracket) && is_flow frames then end_flow frames at
    else begin_value frames (if mapped then Either (at - start) else ValueOnly) at c rest

-- ---- plain texts

-- a plain text ends at a comment, and a line of one at the line end; neither is a key
abbrev pub plain_comment : List Frame → Role → Folding → (at : ℕ) → Result Front Broken
plain_comment frames role text at = if is_key_only role then no_text at
    else Ok (front frames (InComment (Whole (scalar_of text.text))))

abbrev pub plain_line : List Frame → Role → Folding → (at : ℕ) → Result Front Broken
plain_line frames role text at = if is_key_only role then no_text at
    else Ok (front frames (AtLine (at + 1) (Going (end_line text))))

-- a character more of a plain text
abbrev pub more_plain : List Frame → Folding → Role → (begun c : ℕ) → Result Front Broken
more_plain frames text role begun c = if is_blank c then Ok
    (front frames (InPlain (put_blank text c) role begun (c == space)))
    else Ok (front frames (InPlain (put text c) role begun (c == space)))

unfoldable pub in_plain : List Frame → Folding → Role → (begun : ℕ) → (spaced : Bool) → (at c : ℕ) → (rest : List ℕ)
    → Result Front Broken
in_plain frames text role begun spaced at c rest =
    if (c == colon) && ends_word rest then plain_key frames role text.text begun (behind at rest)
    else if (c == hash) && spaced then plain_comment frames role text at
    else if c == newline then plain_line frames role text at
    else if is_flow_sign c && is_flow frames then after_item frames (scalar_of text.text) at c
    else more_plain frames text role begun c

-- ---- quoted texts

-- a line ends between quotes: a text of several lines is no key
abbrev pub single_line : List Frame → Role → Folding → (begun at : ℕ) → Result Front Broken
single_line frames role text begun at = if is_key_only role then no_text at
    else Ok (front frames (InSingle text ValueOnly begun))

abbrev pub double_line : List Frame → Role → Folding → (begun at : ℕ) → Result Front Broken
double_line frames role text begun at = if is_key_only role then no_text at
    else Ok (front frames (InDouble text ValueOnly begun))

-- the closing quote
abbrev pub end_quotes : List Frame → Folding → Role → (begun : ℕ) → Result Front Broken
end_quotes frames text role begun = Ok (front frames (AfterQuoted (caught_up text) role begun false))

unfoldable pub in_single : List Frame → Folding → Role → (begun at c : ℕ) → (rest : List ℕ) → Result Front Broken
in_single frames text role begun at c rest =
    if c == single_quote then (if begins_with single_quote rest then Ok (front frames (AtSecondQuote text role begun))
    else end_quotes frames text role begun)
    else if c == newline then single_line frames role (end_line text) begun at
    else if is_blank c then Ok (front frames (InSingle (put_blank text c) role begun))
    else Ok (front frames (InSingle (put text c) role begun))

unfoldable pub at_second_quote : List Frame → Folding → Role → (begun c : ℕ) → Result Front Broken
at_second_quote frames text role begun c = Ok (front frames (InSingle (put text c) role begun))

unfoldable pub in_double : List Frame → Folding → Role → (begun at c : ℕ) → Result Front Broken
in_double frames text role begun at c =
    if c == double_quote then end_quotes frames text role begun
    else if c == backslash then Ok (front frames (InEscape text role begun))
    else if c == newline then double_line frames role (end_line text) begun at
    else if is_blank c then Ok (front frames (InDouble (put_blank text c) role begun))
    else Ok (front frames (InDouble (put text c) role begun))

-- the character of an escape of one character, 0 to 255; 256 where it is none
abbrev pub escaped : ℕ → ℕ
escaped c = if c == digit_0 then 0 else if c == lower_a then 7 else if c == lower_b then 8 else if c == lower_t
    then tab else if c == lower_n
    then newline
    else if c == lower_v then vertical_tab else if c == lower_f then form_feed else if c == lower_r
    then carriage_return else if c == lower_e then 27
    else if c == double_quote then double_quote else if c == slash then slash else if c == backslash
    then backslash else 256

-- an escape of one character
abbrev pub put_escaped : List Frame → Folding → Role → (begun at c : ℕ) → Result Front Broken
put_escaped frames text role begun at c = if escaped c == 256 then no_text (place_of at c)
    else Ok (front frames (InDouble (put text (escaped c)) role begun))

unfoldable pub in_escape : List Frame → Folding → Role → (begun at c : ℕ) → Result Front Broken
in_escape frames text role begun at c =
    if c == lower_x then Ok (front frames (InDigits text role begun 2 0))
    else if c == lower_u then Ok (front frames (InDigits text role begun 4 0))
    else if c == newline then double_line frames role (join_line text) begun at
    else put_escaped frames text role begun at c

abbrev pub is_surrogate : ℕ → Bool
is_surrogate n = nat_le 0xD800 n && nat_lt n 0xE000

-- the last digit of an escape is read
abbrev pub end_digits : List Frame → Folding → Role → (begun at number : ℕ) → Result Front Broken
end_digits frames text role begun at number = if is_surrogate number then no_text at
    else Ok (front frames (InDouble (put text number) role begun))

-- there are four digits at most, so nothing is lost below 65536
unfoldable pub in_digits : List Frame → Folding → Role → (begun left number at c : ℕ) → Result Front Broken
in_digits frames text role begun left number at c =
    if digit c == 16 then no_text at
    else if nat_le left 1 then end_digits frames text role begun at ((number * 16 + digit c) % 65536)
    else Ok (front frames (InDigits text role begun (left - 1) ((number * 16 + digit c) % 65536)))

-- a colon after a quoted text
abbrev pub quoted_key : List Frame → (key : List ℕ) → Role → (begun at : ℕ) → (rest : List ℕ) → Result Front Broken
quoted_key frames key role begun at rest = if ends_word rest || is_value_only role then key_of frames role key begun at
    else no_text (behind at rest)

unfoldable pub in_after_quoted : List Frame → (text : List ℕ) → Role → (begun : ℕ) → (spaced : Bool) → (at c : ℕ)
    → (rest : List ℕ) → Result Front Broken
in_after_quoted frames text role begun spaced at c rest =
    if c == space then Ok (front frames (AfterQuoted text role begun true))
    else if c == colon then quoted_key frames text role begun at rest
    else if is_key_only role then no_text at
    else in_after_value frames (Whole (a_text text)) spaced at c
