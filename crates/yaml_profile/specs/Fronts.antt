-- A front: the open cases of the profile's grammar, innermost first, each with its parts that are read.
use Rattle.std.specs.Prelude.{ℕ, Bool, true, false, ◌==◌, nat_lt, nat_le, List, [], ◌∷◌, ◌++◌, length}
use Rattle.edt_base.specs.YamlData.{Value, Pairs, a_map, a_list, null, last, pair, items_from}
use Rattle.yaml_profile.specs.Folding.{Folding}
use Rattle.yaml_profile.specs.BlockText.{BlockText}
use Rattle.yaml_profile.specs.Scalars.{scalar_of}
use Rattle.yaml_profile.specs.declared.front.Role.{Role}

-- an open collection
pub data Frame : Type 0 where
  -- a map at a column: its keys, and the values of these but for the last key where that one's value is being read
  InMap : (column : ℕ) → (keys : List (List ℕ)) → (values : List Value) → Frame
  -- a list at a column, and a flow list: the items before the one that is being read
  InList : (column : ℕ) → (items : List Value) → Frame
  InFlow : (items : List Value) → Frame

-- what there is of the innermost value at the start of a line
pub data Waiting : Type 0 where
  -- nothing of the whole file, so that a `---` line may stand
  Fresh : Waiting
  Nothing : Waiting
  -- a plain text that may go on
  Going : Folding → Waiting
  Whole : Value → Waiting

-- the innermost case that isn't whole. A text has its role and the place where it begins
pub data Innermost : Type 0 where
  -- the spaces of a line that begins at this place
  AtLine : (start : ℕ) → Waiting → Innermost
  -- a value may begin, on the line that begins at this place: whether it may be a map, and whether a space stands
  -- before
  AtValue : (start : ℕ) → (mapped spaced : Bool) → Innermost
  InPlain : Folding → Role → (at : ℕ) → (spaced : Bool) → Innermost
  InSingle : Folding → Role → (at : ℕ) → Innermost
  -- before the second of two single quotes
  AtSecondQuote : Folding → Role → (at : ℕ) → Innermost
  InDouble : Folding → Role → (at : ℕ) → Innermost
  -- after a backslash
  InEscape : Folding → Role → (at : ℕ) → Innermost
  -- in the digits of `\x` and `\u`: how many are left, and the number so far
  InDigits : Folding → Role → (at left number : ℕ) → Innermost
  AfterQuoted : (text : List ℕ) → Role → (at : ℕ) → (spaced : Bool) → Innermost
  -- after `]` or `---`, where the line has nothing more but a comment
  AfterValue : Waiting → (spaced : Bool) → Innermost
  InComment : Waiting → Innermost
  -- before so many more dashes of a `---`
  InMark : (left : ℕ) → Innermost
  -- after `|` or `>`: whether an indicator, and whether a space stood there
  InHeader : BlockText → (signed spaced : Bool) → Innermost
  InHeaderComment : BlockText → Innermost
  -- the spaces of a line of a block scalar, and after the spaces of a blank one
  AtTextLine : (start : ℕ) → BlockText → Innermost
  AtBlankEnd : (spaces : ℕ) → BlockText → Innermost
  InTextLine : BlockText → Innermost

pub record Front : Type 0 where
  pub frames : List Frame
  pub inner : Innermost

abbrev pub front : List Frame → Innermost → Front
front frames inner = record { frames = frames; inner = inner }

-- keys with their values
abbrev pub pairs_of : List (List ℕ) → List Value → Pairs
pairs_of [] values = last
pairs_of (k ∷ ks) [] = last
pairs_of (k ∷ ks) (v ∷ vs) = pair k v (pairs_of ks vs)

-- the collection whose last value this is
abbrev pub closed : Frame → Value → Value
closed (InMap column keys values) v = a_map (pairs_of keys (values ++ v ∷ []))
closed (InList column items) v = a_list (items_from (items ++ v ∷ []))
closed (InFlow items) v = a_list (items_from (items ++ v ∷ []))

-- the value of the file whose innermost value this is
abbrev pub all_closed : List Frame → Value → Value
all_closed [] v = v
all_closed (f ∷ fs) v = all_closed fs (closed f v)

abbrev pub value_so_far : Waiting → Value
value_so_far (Going t) = scalar_of t.text
value_so_far (Whole v) = v
value_so_far _ = null

abbrev pub is_flow : List Frame → Bool
is_flow (InFlow items ∷ fs) = true
is_flow _ = false

-- the column is deeper than the enclosing block
abbrev pub is_deeper : ℕ → List Frame → Bool
is_deeper n [] = true
is_deeper n (InMap column keys values ∷ fs) = nat_lt column n
is_deeper n (InList column items ∷ fs) = nat_lt column n
is_deeper n (InFlow items ∷ fs) = is_deeper n fs

-- the innermost collection is a map at this column
abbrev pub is_map_at : ℕ → List Frame → Bool
is_map_at n (InMap column keys values ∷ fs) = column == n
is_map_at n _ = false

-- 32 collections are open
abbrev pub is_full : List Frame → Bool
is_full frames = nat_le 32 (length frames)
