-- Fronts: what is read of a source that may go on. Each is an open case of the grammar with the parts that are read.
use Rattle.std.specs.Prelude.{◌≡◌, ◌≤◌, ℕ, suc, Bool, true, false, ◌&&◌, ◌||◌, List, ◌∷◌, Some}
use Rattle.dts_parse.specs.Exprs.{Tree, Waiting, IsProper, AreProper, level, room, rounds, count, count_waiting, spell, spell_waiting}
use Rattle.dts_parse.specs.Statements.{AreFit, Lead, No_lead, Label_lead, Mark_lead, Numeral, Pieces, Place, Short, is_empty, marks_of, numeral_terminal, place, place_behind, spell_lead, spell_pieces, spell_short, takes_inner, takes_short, takes_top}
use Rattle.dts_parse.specs.Texts.{width_of}
use Rattle.dts_parse.specs.Token.{Name, Spot, Token, is_label_form, is_node_form, is_prop_form, name_token, token}
use Rattle.dts_parse.specs.Values.{Before, Elements, Head, Labels, Pairs, Written, spell_before, spell_elements, spell_head, spell_labels, spell_pairs, spell_written}
use Rattle.dts_parse.specs.declared.mode.Wanted.{Wanted}
use Rattle.dts_parse.specs.declared.mode.Wanted.TheVariants as wanted
use Rattle.dts_parse.specs.declared.terminal.Form.{Form}
use Rattle.dts_parse.specs.declared.terminal.Form.TheVariants as form
use Rattle.dts_parse.specs.declared.terminal.Terminal.{Terminal}
use Rattle.dts_parse.specs.declared.terminal.Terminal.TheVariants as terminal
use Rattle.dts_parse.specs.declared.terminal.Width.{Width}

-- ---- statements that are begun

-- labels may stand before statements that take them, marks in bodies alone
abbrev pub fits_lead : Place → Lead → Bool
fits_lead p No_lead = true
fits_lead p (Label_lead lead n colon) = takes_inner p || (takes_top p && is_empty (marks_of lead))
fits_lead p (Mark_lead lead directive) = takes_inner p

-- a name may stand as a label, a property's name or a node's name; after a mark as one of a node or a label alone
abbrev pub may_name : Place → Bool → Form → Bool
may_name p bare f = (takes_inner p && (bare || is_node_form f)) || (takes_top p && is_label_form f)

-- a root or a node by reference, before its brace
pub data Opening : Type 0 where
  Root_ : Spot → Opening
  Ref_ : Spot → Opening

abbrev pub opening_token : Opening → Token
opening_token (Root_ p) = token terminal.Slash p
opening_token (Ref_ p) = token terminal.Ref p

-- a statement whose directive is read
pub data Begun : Type 0 where
  First_number : (directive : Spot) → Begun
  Second_number : (directive : Spot) → Numeral → Spot → Begun
  Deleted_ref : (directive : Spot) → Begun
  Omitted_ref : (directive : Spot) → Begun
  Deleted_child : (directive : Spot) → Begun
  Deleted_prop : (directive : Spot) → Begun

abbrev pub spell_begun : Begun → List Token → List Token
spell_begun (First_number d) before = token terminal.Reserve d ∷ before
spell_begun (Second_number d m p) before = token (numeral_terminal m) p ∷ token terminal.Reserve d ∷ before
spell_begun (Deleted_ref d) before = token terminal.DeleteNode d ∷ before
spell_begun (Omitted_ref d) before = token terminal.Omit d ∷ before
spell_begun (Deleted_child d) before = token terminal.DeleteNode d ∷ before
spell_begun (Deleted_prop d) before = token terminal.DeleteProp d ∷ before

abbrev pub takes_begun : Place → Begun → Bool
takes_begun p (First_number d) = takes_top p
takes_begun p (Second_number d m q) = takes_top p
takes_begun p (Deleted_ref d) = takes_top p
takes_begun p (Omitted_ref d) = takes_top p
takes_begun p (Deleted_child d) = takes_inner p
takes_begun p (Deleted_prop d) = takes_inner p

abbrev pub wanted_of : Begun → Wanted
wanted_of (First_number d) = wanted.FirstNumber
wanted_of (Second_number d m p) = wanted.SecondNumber
wanted_of (Deleted_ref d) = wanted.DeletedRef
wanted_of (Omitted_ref d) = wanted.OmittedRef
wanted_of (Deleted_child d) = wanted.DeletedChild
wanted_of (Deleted_prop d) = wanted.DeletedProp

abbrev pub directive_place : Begun → ℕ
directive_place (First_number d) = d.at
directive_place (Second_number d m p) = d.at
directive_place (Deleted_ref d) = d.at
directive_place (Omitted_ref d) = d.at
directive_place (Deleted_child d) = d.at
directive_place (Deleted_prop d) = d.at

-- ---- values that are begun

-- a property with a value, up to its `=`
pub record Beginning (base : Bool) : Type 0 where
  pub ps : Pieces
  pub fit : AreFit base ps
  pub inner : takes_inner (place base ps) ≡ true
  pub lead : Lead
  pub bare : is_empty (marks_of lead) ≡ true
  pub f : Form
  pub n : Name f
  pub is : is_prop_form f ≡ true
  pub equal : Spot

abbrev pub spell_beginning : {base : Bool} → Beginning base → List Token
spell_beginning b = token terminal.Equal b.equal ∷ name_token b.f b.n ∷ spell_lead b.lead (spell_pieces b.ps)

-- an open list, with the labels after its last element
pub record Listed (base : Bool) (w : Width) : Type 0 where
  pub top : Beginning base
  pub b : Before
  pub ls : Labels
  pub h : Head w
  pub es : Elements w
  pub now : Labels

-- its tokens without those labels, and with them
abbrev pub spell_list : {base : Bool} {w : Width} → Listed base w → List Token
spell_list l = spell_elements l.es (spell_head l.h (spell_labels l.ls (spell_before l.b (spell_beginning l.top))))

abbrev pub spell_listed : {base : Bool} {w : Width} → Listed base w → List Token
spell_listed l = spell_labels l.now (spell_list l)

-- where a label may stand in a value
pub data Site (base : Bool) : Type 0 where
  In_value : Beginning base → Before → Labels → Site base
  After_part : Beginning base → Before → Labels → Written → Labels → Site base
  In_list : (w : Width) → Listed base w → Site base
  In_hex : Beginning base → Before → Labels → (begin : Spot) → Pairs → Labels → Site base

abbrev pub spell_site : {base : Bool} → Site base → List Token
spell_site (In_value top b ls) = spell_labels ls (spell_before b (spell_beginning top))
spell_site (After_part top b ls part after) =
    spell_labels after (spell_written part (spell_labels ls (spell_before b (spell_beginning top))))
spell_site (In_list w l) = spell_listed l
spell_site (In_hex top b ls begin ps now) =
    spell_labels now
    (spell_pairs ps (token terminal.LeftSquare begin ∷ spell_labels ls (spell_before b (spell_beginning top))))

-- ---- fronts

pub data Front (base : Bool) : Type 0 where
  In_body : (ps : Pieces) → AreFit base ps → (lead : Lead) → fits_lead (place base ps) lead ≡ true → Front base
  At_name : (ps : Pieces) → AreFit base ps → (lead : Lead) → fits_lead (place base ps) lead ≡ true
      → (f : Form) → Name f → may_name (place base ps) (is_empty (marks_of lead)) f ≡ true → Front base
  At_brace : (ps : Pieces) → AreFit base ps → (lead : Lead) → takes_top (place base ps) ≡ true
      → is_empty (marks_of lead) ≡ true → Opening → Front base
  At_directive : (ps : Pieces) → AreFit base ps → (b : Begun) → takes_begun (place base ps) b ≡ true → Front base
  At_end : (ps : Pieces) → AreFit base ps → (s : Short) → takes_short (place base ps) s ≡ true → Front base
  At_site : Site base → Front base
  At_colon : Site base → Name form.Label → Front base
  At_bits : Beginning base → Before → Labels → (directive : Spot) → Front base
  At_angle : Beginning base → Before → Labels → (directive : Spot) → (n : ℕ) (w : Width) → width_of n ≡ Some w
      → (number : Spot) → Front base
  Before_operand : (w : Width) → Listed base w → (begin : Spot) → (x : Waiting) → AreProper x → Front base
  After_operand : (w : Width) → Listed base w → (begin : Spot) → (x : Waiting) → AreProper x → (e : Tree) → IsProper e
      → level e ≤ room x → Front base

abbrev pub spell_front : {base : Bool} → Front base → List Token
spell_front (In_body ps fit lead may) = spell_lead lead (spell_pieces ps)
spell_front (At_name ps fit lead may f n named) = name_token f n ∷ spell_lead lead (spell_pieces ps)
spell_front (At_brace ps fit lead may bare o) = opening_token o ∷ spell_lead lead (spell_pieces ps)
spell_front (At_directive ps fit b may) = spell_begun b (spell_pieces ps)
spell_front (At_end ps fit s may) = spell_short s (spell_pieces ps)
spell_front (At_site s) = spell_site s
spell_front (At_colon s n) = name_token form.Label n ∷ spell_site s
spell_front (At_bits top b ls directive) =
    token terminal.Bits directive ∷ spell_labels ls (spell_before b (spell_beginning top))
spell_front (At_angle top b ls directive n w is number) =
    token (terminal.Number n) number ∷ token terminal.Bits directive ∷ spell_labels ls
    (spell_before b (spell_beginning top))
spell_front (Before_operand w l begin x proper) = spell_waiting x (token terminal.LeftRound begin ∷ spell_listed l)
spell_front (After_operand w l begin x proper e is fits) =
    spell e (spell_waiting x (token terminal.LeftRound begin ∷ spell_listed l))

-- ---- what is open

abbrev pub braces : {base : Bool} → Beginning base → ℕ
braces {base = base} top = (place base top.ps).depth

abbrev pub nested_site : {base : Bool} → Site base → ℕ
nested_site (In_value top b ls) = braces top
nested_site (After_part top b ls part after) = braces top
nested_site (In_list w l) = suc (braces l.top)
nested_site (In_hex top b ls begin ps now) = suc (braces top)

-- how many braces and brackets are open
abbrev pub nested : {base : Bool} → Front base → ℕ
nested {base = base} (In_body ps fit lead may) = (place base ps).depth
nested {base = base} (At_name ps fit lead may f n named) = (place base ps).depth
nested {base = base} (At_brace ps fit lead may bare o) = (place base ps).depth
nested {base = base} (At_directive ps fit b may) = (place base ps).depth
nested {base = base} (At_end ps fit s may) = (place_behind (place base ps) s).depth
nested (At_site s) = nested_site s
nested (At_colon s n) = nested_site s
nested (At_bits top b ls directive) = braces top
nested (At_angle top b ls directive n w is number) = braces top
nested (Before_operand w l begin x proper) = rounds x (suc (suc (braces l.top)))
nested (After_operand w l begin x proper e is fits) = rounds x (suc (suc (braces l.top)))

-- how many tokens of an element's expression are read, its outer brackets with them
abbrev pub expression : {base : Bool} → Front base → ℕ
expression (Before_operand w l begin x proper) = count_waiting x 1
expression (After_operand w l begin x proper e is fits) = count e (count_waiting x 1)
expression _ = 0

abbrev pub in_expression : {base : Bool} → Front base → Bool
in_expression (Before_operand w l begin x proper) = true
in_expression (After_operand w l begin x proper e is fits) = true
in_expression _ = false

-- a brace or bracket that opens; in expressions `<` is an operator
abbrev pub is_opening : Bool → Terminal → Bool
is_opening rounds terminal.LeftBrace = true
is_opening rounds terminal.LeftSquare = true
is_opening rounds terminal.LeftRound = true
is_opening true terminal.Less = false
is_opening false terminal.Less = true
is_opening rounds _ = false
