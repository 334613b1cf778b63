-- Statements of a source: what is read of it, piece by piece, what that spells and which statements it is.
use Rattle.std.specs.Prelude.{◌≡◌, ℕ, zero, suc, Bool, true, false, not, ◌&&◌, List, [], ◌∷◌, ◌++◌}
use Rattle.dts_parse.specs.StmtData.{StmtData, Open, Close, Label, Assign, DelProp, DelNode, Omit, stmt}
use Rattle.dts_parse.specs.Texts.{target_of}
use Rattle.dts_parse.specs.Token.{Name, Spot, Token, is_node_form, is_prop_form, name_token, token}
use Rattle.dts_parse.specs.Values.{Before, Labels, Written, part_of, parts_of, spell_before, spell_labels, spell_written}
use Rattle.dts_parse.specs.declared.mode.Stage.{Stage}
use Rattle.dts_parse.specs.declared.mode.Stage.TheVariants as stage
use Rattle.dts_parse.specs.declared.script.Target.TheVariants as target
use Rattle.dts_parse.specs.declared.terminal.Form.{Form}
use Rattle.dts_parse.specs.declared.terminal.Form.TheVariants as form
use Rattle.dts_parse.specs.declared.terminal.Terminal.{Terminal}
use Rattle.dts_parse.specs.declared.terminal.Terminal.TheVariants as terminal

-- ---- labels and marks before a name, `/` or a reference, in any order

pub data Lead : Type 0 where
  No_lead : Lead
  Label_lead : Lead → Name form.Label → (colon : Spot) → Lead
  Mark_lead : Lead → (directive : Spot) → Lead

abbrev pub spell_lead : Lead → List Token → List Token
spell_lead No_lead before = before
spell_lead (Label_lead lead n colon) before =
    token terminal.Colon colon ∷ name_token form.Label n ∷ spell_lead lead before
spell_lead (Mark_lead lead directive) before = token terminal.Omit directive ∷ spell_lead lead before

-- each label is a statement of its own
abbrev pub labels_of : Lead → List StmtData
labels_of No_lead = []
labels_of (Label_lead lead n colon) = labels_of lead ++ stmt n.spot.at (Label n.spot.text) ∷ []
labels_of (Mark_lead lead directive) = labels_of lead

-- where the marks stand
abbrev pub marks_of : Lead → List ℕ
marks_of No_lead = []
marks_of (Label_lead lead n colon) = marks_of lead
marks_of (Mark_lead lead directive) = marks_of lead ++ directive.at ∷ []

abbrev pub is_empty : {A : Type 0} → List A → Bool
is_empty [] = true
is_empty (x ∷ xs) = false

-- a mark is a statement on the child, after its end
abbrev pub omits : List ℕ → List ℕ → List StmtData
omits [] name = []
omits (at ∷ marks) name = stmt at (Omit (target.Child name)) ∷ omits marks name

-- ---- places between statements

-- which statements stood at the top; the open nodes, innermost first, each with what follows its end; and how many they
-- are
pub record Place : Type 0 where
  pub stage : Stage
  pub opened : List (List StmtData)
  pub depth : ℕ

-- `/dts-v1/;` stands before all others
abbrev pub is_early : Stage → Bool
is_early stage.Rest = false
is_early _ = true

abbrev pub takes_version : Place → Bool
takes_version p = is_empty p.opened && is_early p.stage

abbrev pub first_stage : Bool → Stage
first_stage true = stage.First
first_stage false = stage.Versions

-- the base begins with it
abbrev pub has_begun : Stage → Bool
has_begun stage.First = false
has_begun _ = true

abbrev pub takes_top : Place → Bool
takes_top p = is_empty p.opened && has_begun p.stage

abbrev pub takes_inner : Place → Bool
takes_inner p = not (is_empty p.opened)

abbrev pub inside : Place → List StmtData → Place
inside p omitted = record { stage = stage.Rest; opened = omitted ∷ p.opened; depth = suc p.depth }

abbrev pub below : ℕ → ℕ
below zero = zero
below (suc n) = n

abbrev pub tail : List (List StmtData) → List (List StmtData)
tail [] = []
tail (x ∷ xs) = xs

abbrev pub head : List (List StmtData) → List StmtData
head [] = []
head (x ∷ xs) = x

abbrev pub outside : Place → Place
outside p = record { stage = stage.Rest; opened = tail p.opened; depth = below p.depth }

abbrev pub beyond : Place → Place
beyond p = record p { stage = stage.Rest }

abbrev pub early : Place → Place
early p = record p { stage = stage.Versions }

-- ---- numbers

pub data Numeral : Type 0 where
  Small_ : ℕ → Numeral
  Large_ : Numeral

abbrev pub numeral_terminal : Numeral → Terminal
numeral_terminal (Small_ n) = terminal.Number n
numeral_terminal Large_ = terminal.Huge

-- ---- statements that only want their semicolon

pub data Short : Type 0 where
  Version_ : (directive : Spot) → Short
  Plugin_ : (directive : Spot) → Short
  Reserve_ : (directive : Spot) → Numeral → Spot → Numeral → Spot → Short
  Delete_ref : (directive ref : Spot) → Short
  Omit_ref : (directive ref : Spot) → Short
  Delete_child : (directive : Spot) → (f : Form) → Name f → is_node_form f ≡ true → Short
  Delete_prop : (directive : Spot) → (f : Form) → Name f → is_prop_form f ≡ true → Short
  End_node : (brace : Spot) → Short

abbrev pub spell_short : Short → List Token → List Token
spell_short (Version_ d) before = token terminal.Version d ∷ before
spell_short (Plugin_ d) before = token terminal.Plugin d ∷ before
spell_short (Reserve_ d m p n q) before =
    token (numeral_terminal n) q ∷ token (numeral_terminal m) p ∷ token terminal.Reserve d ∷ before
spell_short (Delete_ref d p) before = token terminal.Ref p ∷ token terminal.DeleteNode d ∷ before
spell_short (Omit_ref d p) before = token terminal.Ref p ∷ token terminal.Omit d ∷ before
spell_short (Delete_child d f n is) before = name_token f n ∷ token terminal.DeleteNode d ∷ before
spell_short (Delete_prop d f n is) before = name_token f n ∷ token terminal.DeleteProp d ∷ before
spell_short (End_node brace) before = token terminal.RightBrace brace ∷ before

-- where it may stand
abbrev pub takes_short : Place → Short → Bool
takes_short p (Version_ d) = takes_version p
takes_short p (Plugin_ d) = takes_top p
takes_short p (Reserve_ d m a n b) = takes_top p
takes_short p (Delete_ref d r) = takes_top p
takes_short p (Omit_ref d r) = takes_top p
takes_short p (Delete_child d f n is) = takes_inner p
takes_short p (Delete_prop d f n is) = takes_inner p
takes_short p (End_node brace) = takes_inner p

abbrev pub place_behind : Place → Short → Place
place_behind p (Version_ d) = early p
place_behind p (End_node brace) = outside p
place_behind p _ = beyond p

-- the statements after it
abbrev pub with_short : Place → Short → List StmtData → List StmtData
with_short p (Version_ d) before = before
with_short p (Plugin_ d) before = before
with_short p (Reserve_ d m a n b) before = before
with_short p (Delete_ref d r) before = before ++ stmt r.at (DelNode (target_of r.text)) ∷ []
with_short p (Omit_ref d r) before = before ++ stmt r.at (Omit (target_of r.text)) ∷ []
with_short p (Delete_child d f n is) before = before ++ stmt d.at (DelNode (target.Child n.spot.text)) ∷ []
with_short p (Delete_prop d f n is) before = before ++ stmt d.at (DelProp n.spot.text) ∷ []
with_short p (End_node brace) before = (before ++ stmt brace.at Close ∷ []) ++ head p.opened

-- ---- what is read of a source

pub data Pieces : Type 0 where
  Nothing_yet : Pieces
  Short_ : Pieces → Short → (semicolon : Spot) → Pieces
  Open_root : Pieces → Lead → (slash brace : Spot) → Pieces
  Open_ref : Pieces → Lead → (ref brace : Spot) → Pieces
  Open_child : Pieces → Lead → (f : Form) → Name f → (brace : Spot) → Pieces
  Flag_ : Pieces → Lead → (f : Form) → Name f → (semicolon : Spot) → Pieces
  Assign_ : Pieces → Lead → (f : Form) → Name f → (equal : Spot) → Before → Labels → Written → Labels
      → (semicolon : Spot) → Pieces

abbrev pub spell_pieces : Pieces → List Token
spell_pieces Nothing_yet = []
spell_pieces (Short_ ps s semicolon) = token terminal.Semicolon semicolon ∷ spell_short s (spell_pieces ps)
spell_pieces (Open_root ps lead slash brace) =
    token terminal.LeftBrace brace ∷ token terminal.Slash slash ∷ spell_lead lead (spell_pieces ps)
spell_pieces (Open_ref ps lead ref brace) =
    token terminal.LeftBrace brace ∷ token terminal.Ref ref ∷ spell_lead lead (spell_pieces ps)
spell_pieces (Open_child ps lead f n brace) =
    token terminal.LeftBrace brace ∷ name_token f n ∷ spell_lead lead (spell_pieces ps)
spell_pieces (Flag_ ps lead f n semicolon) =
    token terminal.Semicolon semicolon ∷ name_token f n ∷ spell_lead lead (spell_pieces ps)
spell_pieces (Assign_ ps lead f n equal b ls part after semicolon) =
    token terminal.Semicolon semicolon ∷ spell_labels after
    (spell_written part (spell_labels ls
    (spell_before b (token terminal.Equal equal ∷ name_token f n ∷ spell_lead lead (spell_pieces ps)))))

-- where they lead, from the beginning of a base or an overlay
abbrev pub place : Bool → Pieces → Place
place base Nothing_yet = record { stage = first_stage base; opened = []; depth = 0 }
place base (Short_ ps s semicolon) = place_behind (place base ps) s
place base (Open_root ps lead slash brace) = inside (place base ps) []
place base (Open_ref ps lead ref brace) = inside (place base ps) []
place base (Open_child ps lead f n brace) = inside (place base ps) (omits (marks_of lead) n.spot.text)
place base (Flag_ ps lead f n semicolon) = beyond (place base ps)
place base (Assign_ ps lead f n equal b ls part after semicolon) = beyond (place base ps)

-- each stands where it may, before a name that may be its
abbrev pub AreFit : Bool → Pieces → Type 0
AreFit base Nothing_yet = Unit {0}
AreFit base (Short_ ps s semicolon) = AreFit base ps × (takes_short (place base ps) s ≡ true)
AreFit base (Open_root ps lead slash brace) = AreFit base ps × (takes_top (place base ps) ≡ true)
    × (is_empty (marks_of lead) ≡ true)
AreFit base (Open_ref ps lead ref brace) = AreFit base ps × (takes_top (place base ps) ≡ true)
    × (is_empty (marks_of lead) ≡ true)
AreFit base (Open_child ps lead f n brace) = AreFit base ps × (takes_inner (place base ps) ≡ true)
    × (is_node_form f ≡ true)
AreFit base (Flag_ ps lead f n semicolon) = AreFit base ps × (takes_inner (place base ps) ≡ true)
    × (is_empty (marks_of lead) ≡ true) × (is_prop_form f ≡ true)
AreFit base (Assign_ ps lead f n equal b ls part after semicolon) =
    AreFit base ps × (takes_inner (place base ps) ≡ true) × (is_empty (marks_of lead) ≡ true) × (is_prop_form f ≡ true)

-- the statements: a node's labels after its opening, its marks after its end
abbrev pub script : Bool → Pieces → List StmtData
script base Nothing_yet = []
script base (Short_ ps s semicolon) = with_short (place base ps) s (script base ps)
script base (Open_root ps lead slash brace) = (script base ps ++ stmt slash.at (Open target.Root) ∷ [])
    ++ labels_of lead
script base (Open_ref ps lead ref brace) = (script base ps ++ stmt ref.at (Open (target_of ref.text)) ∷ [])
    ++ labels_of lead
script base (Open_child ps lead f n brace) = (script base ps ++ stmt n.spot.at (Open (target.Child n.spot.text)) ∷ [])
    ++ labels_of lead
script base (Flag_ ps lead f n semicolon) = script base ps ++ stmt n.spot.at (Assign n.spot.text []) ∷ []
script base (Assign_ ps lead f n equal b ls part after semicolon) = script base ps
    ++ stmt n.spot.at (Assign n.spot.text (parts_of b ++ part_of part ∷ [])) ∷ []

-- a source ends where no node is open, and a base has begun
abbrev pub ends : Place → Bool
ends p = takes_top p
