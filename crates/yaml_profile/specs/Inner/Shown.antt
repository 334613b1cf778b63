-- What the reader's memory holds, as plain data.
use Rattle.std.specs.Prelude.{ℕ, List, map, reverse, string_bytes}
use Rattle.edt_base.specs.YamlData.{Value, value_of}
use Rattle.yaml_profile.specs.declared.front.Frame.{Frame as Open}
use Rattle.yaml_profile.specs.declared.front.Frame.TheVariants as open_
use Rattle.yaml_profile.specs.declared.reader.Waiting.{Waiting as Wait}
use Rattle.yaml_profile.specs.declared.reader.Waiting.TheVariants as wait
use Rattle.yaml_profile.specs.declared.reader.Place.{Place}
use Rattle.yaml_profile.specs.declared.reader.Place.TheVariants as place
use Rattle.yaml_profile.specs.declared.reader.Reader.{Reader}
use Rattle.yaml_profile.specs.Folding.{Folding}
use Rattle.yaml_profile.specs.BlockText.{BlockText}
use Rattle.yaml_profile.specs.Fronts.{Frame, InMap, InList, InFlow, Waiting, Fresh, Nothing, Going, Whole, Innermost, AtLine, AtValue, InPlain, InSingle, AtSecondQuote, InDouble, InEscape, InDigits, AfterQuoted, AfterValue, InComment, InMark, InHeader, InHeaderComment, AtTextLine, AtBlankEnd, InTextLine, Front, front}

abbrev pub frame_of : Open → Frame
frame_of (open_.Map column keys values) = InMap column keys.keys (map value_of values.items)
frame_of (open_.List column items) = InList column (map value_of items.items)
frame_of (open_.Flow items) = InFlow (map value_of items.items)

-- innermost first
abbrev pub frames_of : List Open → List Frame
frames_of opened = map frame_of (reverse opened)

abbrev pub waiting_of : Wait → Folding → Value → Waiting
waiting_of wait.Fresh text value = Fresh
waiting_of wait.Nothing text value = Nothing
waiting_of wait.Going text value = Going text
waiting_of wait.Whole text value = Whole value

-- the innermost case, with the text, the quoted text, the value and the block scalar that are kept
abbrev pub inner_of : Place → Folding → List ℕ → Value → BlockText → Innermost
inner_of (place.Line start w) text quoted value block = AtLine start (waiting_of w text value)
inner_of (place.Value start mapped spaced) text quoted value block = AtValue start mapped spaced
inner_of (place.Plain role begun spaced) text quoted value block = InPlain text role begun spaced
inner_of (place.Single role begun) text quoted value block = InSingle text role begun
inner_of (place.Second role begun) text quoted value block = AtSecondQuote text role begun
inner_of (place.Double role begun) text quoted value block = InDouble text role begun
inner_of (place.Escape role begun) text quoted value block = InEscape text role begun
inner_of (place.Digits role begun left number) text quoted value block = InDigits text role begun left number
inner_of (place.Quoted role begun spaced) text quoted value block = AfterQuoted quoted role begun spaced
inner_of (place.After w spaced) text quoted value block = AfterValue (waiting_of w text value) spaced
inner_of (place.Comment w) text quoted value block = InComment (waiting_of w text value)
inner_of (place.Mark left) text quoted value block = InMark left
inner_of (place.Header signed spaced) text quoted value block = InHeader block signed spaced
inner_of place.HeaderComment text quoted value block = InHeaderComment block
inner_of (place.TextLine start) text quoted value block = AtTextLine start block
inner_of (place.BlankEnd spaces) text quoted value block = AtBlankEnd spaces block
inner_of place.InText text quoted value block = InTextLine block

abbrev pub shown : Reader → Front
shown r = front (frames_of r.frames.items) (inner_of r.place r.text (string_bytes r.quoted) (value_of r.value) r.block)
