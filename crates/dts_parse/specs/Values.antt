-- Values of properties: their trees, what they spell and what they stand for.
use Rattle.std.specs.Prelude.{◌≡◌, ℕ, ◌%◌, ◌^◌, Bool, true, false, not, ◌||◌, List, [], ◌∷◌, ◌++◌, Option, Some, None, unwrap_or}
use Rattle.edt_base.specs.declared.node.Kind.TheVariants as kind
use Rattle.dts_parse.specs.Exprs.{Literal, Tree, literal_terminal, literal_worth, or_large, large, worth_of, IsProper, spell}
use Rattle.dts_parse.specs.StmtData.{PartData, Plain, Cells, Path}
use Rattle.dts_parse.specs.Texts.{element_bytes, fits, target_of, text_bytes, width_of}
use Rattle.dts_parse.specs.Token.{Name, Spot, Token, name_token, token}
use Rattle.dts_parse.specs.declared.mode.Listing.{Listing}
use Rattle.dts_parse.specs.declared.mode.Listing.TheVariants as listing
use Rattle.dts_parse.specs.declared.script.RawCell.{RawCell}
use Rattle.dts_parse.specs.declared.script.RawCell.TheVariants as cell
use Rattle.dts_parse.specs.declared.terminal.Form.TheVariants as form
use Rattle.dts_parse.specs.declared.terminal.Terminal.TheVariants as terminal
use Rattle.dts_parse.specs.declared.terminal.Width.{Width}
use Rattle.dts_parse.specs.declared.terminal.Width.TheVariants.{Bits8, Bits32}

-- ---- labels: each a name and a colon

pub data Labels : Type 0 where
  No_labels : Labels
  Label_ : Labels → Name form.Label → (colon : Spot) → Labels

abbrev pub spell_labels : Labels → List Token → List Token
spell_labels No_labels before = before
spell_labels (Label_ ls n colon) before = token terminal.Colon colon ∷ name_token form.Label n ∷ spell_labels ls before

-- ---- elements of a list

pub data Element (w : Width) : Type 0 where
  Lone : Literal → Spot → Element w
  Group : (begin : Spot) → (e : Tree) → IsProper e → (finish : Spot) → Element w
  Refer : w ≡ Bits32 → Spot → Element w

abbrev pub spell_element : {w : Width} → Element w → List Token → List Token
spell_element (Lone l p) before = token (literal_terminal l) p ∷ before
spell_element (Group begin e proper finish) before =
    token terminal.RightRound finish ∷ spell e (token terminal.LeftRound begin ∷ before)
spell_element (Refer is p) before = token terminal.Ref p ∷ before

-- the elements of a list, with the labels before each
pub data Elements (w : Width) : Type 0 where
  None_yet : Elements w
  Then : Elements w → Labels → Element w → Elements w

abbrev pub spell_elements : {w : Width} → Elements w → List Token → List Token
spell_elements None_yet before = before
spell_elements (Then es ls e) before = spell_element e (spell_labels ls (spell_elements es before))

-- an element has no value, or one that doesn't fit
abbrev pub misfits : Width → Bool → Option ℕ → Bool
misfits w has_large None = true
misfits w has_large (Some n) = has_large || not (fits w n)

abbrev pub is_misfit : (w : Width) → Element w → Bool
is_misfit w (Lone l p) = misfits w (or_large l false) (literal_worth l)
is_misfit w (Group begin e proper finish) = misfits w (large e false) (worth_of e)
is_misfit w (Refer is p) = false

-- where an element begins
abbrev pub element_place : {w : Width} → Element w → ℕ
element_place (Lone l p) = p.at
element_place (Group begin e proper finish) = begin.at
element_place (Refer is p) = p.at

abbrev pub cells_with : Width → Option ℕ → List RawCell → List RawCell
cells_with Bits32 n cells = cells ++ cell.Num (unwrap_or n 0 % 2 ^ 32) ∷ []
cells_with _ n cells = cells

abbrev pub bytes_with : Width → Option ℕ → List ℕ → List ℕ
bytes_with w n bytes = bytes ++ element_bytes w (unwrap_or n 0)

abbrev pub cells_of : (w : Width) → Elements w → List RawCell
cells_of w None_yet = []
cells_of w (Then es ls (Lone l p)) = cells_with w (literal_worth l) (cells_of w es)
cells_of w (Then es ls (Group begin e proper finish)) = cells_with w (worth_of e) (cells_of w es)
cells_of w (Then es ls (Refer is p)) = cells_of w es ++ cell.Ref (target_of p.text) ∷ []

abbrev pub bytes_of : (w : Width) → Elements w → List ℕ
bytes_of w None_yet = []
bytes_of w (Then es ls (Lone l p)) = bytes_with w (literal_worth l) (bytes_of w es)
bytes_of w (Then es ls (Group begin e proper finish)) = bytes_with w (worth_of e) (bytes_of w es)
bytes_of w (Then es ls (Refer is p)) = bytes_of w es

-- what is read of a list: labels may stand in it only beside elements
abbrev pub label_listing : Labels → Listing
label_listing No_labels = listing.Empty
label_listing (Label_ ls n colon) = listing.Labels

abbrev pub listing_of : {w : Width} → Elements w → Labels → Listing
listing_of None_yet ls = label_listing ls
listing_of (Then es before e) ls = listing.Elements

abbrev pub may_close : Listing → Bool
may_close listing.Labels = false
may_close _ = true

-- ---- pairs of hexadecimal digits

pub data Pairs : Type 0 where
  No_pair : Pairs
  And_pair : Pairs → Labels → (byte : ℕ) → Spot → Pairs

abbrev pub spell_pairs : Pairs → List Token → List Token
spell_pairs No_pair before = before
spell_pairs (And_pair ps ls byte p) before = token (terminal.Pair byte) p ∷ spell_labels ls (spell_pairs ps before)

abbrev pub pair_bytes : Pairs → List ℕ
pair_bytes No_pair = []
pair_bytes (And_pair ps ls byte p) = pair_bytes ps ++ byte ∷ []

abbrev pub pair_listing : Pairs → Labels → Listing
pair_listing No_pair ls = label_listing ls
pair_listing (And_pair ps before byte p) ls = listing.Elements

-- ---- parts

-- the beginning of a list: `<`, or `/bits/`, a width and `<`
pub data Head (w : Width) : Type 0 where
  Angle_ : w ≡ Bits32 → (begin : Spot) → Head w
  Bits_ : (directive : Spot) → (n : ℕ) → width_of n ≡ Some w → (number begin : Spot) → Head w

abbrev pub spell_head : {w : Width} → Head w → List Token → List Token
spell_head (Angle_ is begin) before = token terminal.Less begin ∷ before
spell_head (Bits_ directive n is number begin) before =
    token terminal.Less begin ∷ token (terminal.Number n) number ∷ token terminal.Bits directive ∷ before

pub data Written : Type 0 where
  Text_ : Spot → Written
  Path_ : Spot → Written
  List_ : (w : Width) → Head w → (es : Elements w) → (ls : Labels) → may_close (listing_of es ls) ≡ true
      → (finish : Spot) → Written
  Hex_ : (begin : Spot) → (ps : Pairs) → (ls : Labels) → may_close (pair_listing ps ls) ≡ true → (finish : Spot)
      → Written

abbrev pub spell_written : Written → List Token → List Token
spell_written (Text_ p) before = token terminal.Str p ∷ before
spell_written (Path_ p) before = token terminal.Ref p ∷ before
spell_written (List_ w h es ls ends finish) before =
    token terminal.Greater finish ∷ spell_labels ls (spell_elements es (spell_head h before))
spell_written (Hex_ begin ps ls ends finish) before =
    token terminal.RightSquare finish ∷ spell_labels ls (spell_pairs ps (token terminal.LeftSquare begin ∷ before))

-- a list of 8 bits is bytes, one of 32 cells, the others are wide
abbrev pub list_data : Width → List RawCell → List ℕ → PartData
list_data Bits8 cells bytes = Plain (record { kind = kind.Hex; bytes = bytes })
list_data Bits32 cells bytes = Cells cells
list_data _ cells bytes = Plain (record { kind = kind.Wide; bytes = bytes })

abbrev pub part_of : Written → PartData
part_of (Text_ p) = Plain (record { kind = kind.Str; bytes = text_bytes p.text })
part_of (Path_ p) = Path (target_of p.text)
part_of (List_ w h es ls ends finish) = list_data w (cells_of w es) (bytes_of w es)
part_of (Hex_ begin ps ls ends finish) = Plain (record { kind = kind.Hex; bytes = pair_bytes ps })

-- the parts before a comma, with the labels around each
pub data Before : Type 0 where
  Nothing : Before
  Comma_ : Before → Labels → Written → Labels → (comma : Spot) → Before

abbrev pub spell_before : Before → List Token → List Token
spell_before Nothing before = before
spell_before (Comma_ b ls part after comma) before =
    token terminal.Comma comma ∷ spell_labels after (spell_written part (spell_labels ls (spell_before b before)))

abbrev pub parts_of : Before → List PartData
parts_of Nothing = []
parts_of (Comma_ b ls part after comma) = parts_of b ++ part_of part ∷ []
