-- A source and its script, or the rules that it breaks, each where it does.
use Rattle.std.specs.Prelude.{◌≡◌, ◌≢◌, ◌<◌, ◌≤◌, ℕ, Bool, true, List, [], ◌∷◌, Option, Some, None, Result, Ok, Err, length, slice_range, nat_eq, if◌then◌else◌, codes}
use Rattle.std.specs.Prelude.{◌⊎◌}
use Rattle.std.specs.List.{list_all}
use Rattle.std.specs.Str.{bytes_eq}
use Rattle.edt_base.specs.Ascii.{ampersand, asterisk, caret, colon, comma, equals, exclamation, greater_than, hyphen, left_brace, left_bracket, left_parenthesis, less_than, percent, plus, question, right_brace, right_bracket, right_parenthesis, semicolon, slash, tilde, vertical_bar}
use Rattle.edt_base.specs.declared.fault.End.{End}
use Rattle.edt_base.specs.declared.fault.End.TheVariants as ending
use Rattle.edt_base.specs.declared.fault.Place.TheVariants as places
use Rattle.edt_base.specs.declared.fault.Rule.{Rule}
use Rattle.edt_base.specs.declared.fault.Rule.TheVariants as rules
use Rattle.dts_lex.specs.Left.{Left, whole}
use Rattle.dts_lex.specs.Tokens.{next_of}
use Rattle.dts_lex.specs.declared.lexer.LexFault.{LexFault}
use Rattle.dts_lex.specs.declared.lexer.Span.{Span}
use Rattle.dts_lex.specs.declared.lexer.SpanKind.{SpanKind}
use Rattle.dts_lex.specs.declared.lexer.SpanKind.TheVariants as kind
use Rattle.dts_parse.specs.Fronts.{Front, Listed, expression, in_expression, is_opening, nested, spell_front, spell_listed}
use Rattle.dts_parse.specs.Token.{is_include}
use Rattle.dts_parse.specs.Numbers.{number}
use Rattle.dts_parse.specs.Statements.{AreFit, Pieces, place, script, spell_pieces, takes_top}
use Rattle.dts_parse.specs.StmtData.{StmtData}
use Rattle.dts_parse.specs.Texts.{char_worth, pair_worth}
use Rattle.dts_parse.specs.Token.{Token, form_of, is_ascii, token}
use Rattle.dts_parse.specs.Values.{Element, element_place, is_misfit, spell_element}
use Rattle.dts_parse.specs.declared.expr.BinOp.TheVariants as op
use Rattle.dts_parse.specs.declared.mode.Breach.{Breach}
use Rattle.dts_parse.specs.declared.mode.Breach.TheVariants.{S1, S2, S5, S6}
use Rattle.dts_parse.specs.declared.terminal.Form.{Form}
use Rattle.dts_parse.specs.declared.terminal.Terminal.{Terminal}
use Rattle.dts_parse.specs.declared.terminal.Terminal.TheVariants as terminal
use Rattle.dts_parse.specs.declared.terminal.Width.{Width}

-- ---- tokens

abbrev pub name_terminal : Option Form → Terminal
name_terminal None = terminal.Other
name_terminal (Some f) = terminal.Name f

abbrev pub directive_terminal : List ℕ → Terminal
directive_terminal text =
    if bytes_eq text (codes "/dts-v1/") then terminal.Version
    else if bytes_eq text (codes "/plugin/") then terminal.Plugin
    else if bytes_eq text (codes "/memreserve/") then terminal.Reserve
    else if bytes_eq text (codes "/delete-node/") then terminal.DeleteNode
    else if bytes_eq text (codes "/delete-property/") then terminal.DeleteProp
    else if bytes_eq text (codes "/omit-if-no-ref/") then terminal.Omit
    else if bytes_eq text (codes "/bits/") then terminal.Bits
    else terminal.Include

-- a punctuator of one byte
abbrev pub byte_terminal : ℕ → Terminal
byte_terminal b =
    if nat_eq b left_brace then terminal.LeftBrace else if nat_eq b right_brace then terminal.RightBrace
    else if nat_eq b left_bracket then terminal.LeftSquare else if nat_eq b right_bracket then terminal.RightSquare
    else if nat_eq b left_parenthesis then terminal.LeftRound
    else if nat_eq b right_parenthesis then terminal.RightRound
    else if nat_eq b less_than then terminal.Less else if nat_eq b greater_than then terminal.Greater
    else if nat_eq b slash then terminal.Slash else if nat_eq b colon then terminal.Colon
    else if nat_eq b semicolon then terminal.Semicolon else if nat_eq b equals then terminal.Equal
    else if nat_eq b comma then terminal.Comma else if nat_eq b hyphen then terminal.Minus
    else if nat_eq b tilde then terminal.Tilde else if nat_eq b exclamation then terminal.Bang
    else if nat_eq b question then terminal.Question else if nat_eq b asterisk then terminal.Op op.Mul
    else if nat_eq b percent then terminal.Op op.Rem else if nat_eq b plus then terminal.Op op.Add
    else if nat_eq b ampersand then terminal.Op op.BitAnd else if nat_eq b caret then terminal.Op op.BitXor
    else if nat_eq b vertical_bar then terminal.Op op.BitOr
    else terminal.Other

-- an operator of two bytes, by both
abbrev pub double_terminal : ℕ → ℕ → Terminal
double_terminal a b =
    if nat_eq b equals then (if nat_eq a less_than then terminal.Op op.Le
    else if nat_eq a greater_than then terminal.Op op.Ge
    else if nat_eq a equals then terminal.Op op.Eq else terminal.Op op.Ne)
    else if nat_eq a less_than then terminal.Op op.Shl
    else if nat_eq a greater_than then terminal.Op op.Shr
    else if nat_eq a ampersand then terminal.Op op.And
    else terminal.Op op.Or

abbrev pub punct_terminal : List ℕ → Terminal
punct_terminal (b ∷ []) = byte_terminal b
punct_terminal (a ∷ b ∷ []) = double_terminal a b
punct_terminal _ = terminal.Other

-- (the bytes of references are ASCII)
abbrev pub ref_terminal : List ℕ → Terminal
ref_terminal text = if list_all is_ascii text then terminal.Ref else terminal.Other

abbrev pub terminal_of : SpanKind → List ℕ → Terminal
terminal_of kind.Name text = name_terminal (form_of text)
terminal_of kind.Number text = number text
terminal_of kind.Char text = terminal.Char (char_worth text)
terminal_of kind.Str text = terminal.Str
terminal_of kind.Ref text = ref_terminal text
terminal_of kind.PathRef text = ref_terminal text
terminal_of kind.Directive text = directive_terminal text
terminal_of kind.Punct text = punct_terminal text
terminal_of kind.HexPair text = terminal.Pair (pair_worth text)

-- the bytes of a span
abbrev pub slice_of : List ℕ → Span → List ℕ
slice_of src span = slice_range src span.start span.end

abbrev pub token_of : List ℕ → Span → Token
token_of src span =
    token (terminal_of span.kind (slice_of src span)) (record { at = span.start; text = slice_of src span })

-- these are the first tokens of the source, the last one first, and this is left after them
abbrev pub AreTokens : List ℕ → List Token → Left → Type 0
AreTokens src [] left = left ≡ whole src
AreTokens src (t ∷ before) left = (mid : Left) × (span : Span) × AreTokens src before mid
    × (next_of mid ≡ Ok (Some (span, left))) × (t ≡ token_of src span)

-- ---- the script

-- these are the pieces of the whole source
pub record IsWhole (src : List ℕ) (base : Bool) (ps : Pieces) : Type 0 where
  pub fit : AreFit base ps
  pub ends : takes_top (place base ps) ≡ true
  pub left : Left
  pub tokens : AreTokens src (spell_pieces ps) left
  pub none : next_of left ≡ Ok None

-- the source has these statements
pub record IsScript (src : List ℕ) (base : Bool) (stmts : List StmtData) : Type 0 where
  pub ps : Pieces
  pub is_whole : IsWhole src base ps
  pub statements : script base ps ≡ stmts

-- ---- the rules

-- what stands next, there, is taken in by no front; the end of the text counts as a token, which a whole source takes
-- in
abbrev pub NoneTakes : List ℕ → Bool → List Token → ℕ → Result (Option (Span × Left)) LexFault → Type 0
NoneTakes src base before at (Err fault) = at ≡ fault.at
NoneTakes src base before at (Ok None) = (at ≡ length src)
    × ((ps : Pieces) → AreFit base ps → takes_top (place base ps) ≡ true → spell_pieces ps ≢ before)
NoneTakes src base before at (Ok (Some next)) = (at ≡ next.0.start)
    × ((g : Front base) → spell_front g ≢ token_of src next.0 ∷ before)

-- the first token that continues no source, or a byte where no token stands
pub record IsS1 (src : List ℕ) (base : Bool) (at : ℕ) : Type 0 where
  pub front : Front base
  pub left : Left
  pub tokens : AreTokens src (spell_front front) left
  pub none : NoneTakes src base (spell_front front) at (next_of left)

-- 64 braces and brackets are open, and one more opens; or 4,096 tokens of an expression are read, and one more is taken
-- in
abbrev pub IsTooMuch : (base : Bool) → Front base → Token → Type 0
IsTooMuch base f t = ((is_opening (in_expression f) t.terminal ≡ true) × (64 ≤ nested f)) ⊎ ((4096 ≤ expression f)
    × ((g : Front base) × (spell_front g ≡ t ∷ spell_front f)))

pub record IsS2 (src : List ℕ) (base : Bool) (at : ℕ) : Type 0 where
  pub front : Front base
  pub left : Left
  pub span : Span
  pub next : Left
  pub tokens : AreTokens src (spell_front front) left
  pub is : next_of left ≡ Ok (Some (span, next))
  pub place_is : at ≡ span.start
  pub much : IsTooMuch base front (token_of src span)

-- an element without a value, or with one that doesn't fit, in which no limit is passed
pub record IsS5 (src : List ℕ) (base : Bool) (at : ℕ) : Type 0 where
  pub w : Width
  pub l : Listed base w
  pub e : Element w
  pub left : Left
  pub tokens : AreTokens src (spell_element e (spell_listed l)) left
  pub place_is : at ≡ element_place e
  pub misfit : is_misfit w e ≡ true
  pub shallow : (other : ℕ) → IsS2 src base other → other < left.at → other < at

-- a directive that asks for another file
pub record IsS6 (src : List ℕ) (at : ℕ) : Type 0 where
  pub before : List Token
  pub left : Left
  pub span : Span
  pub next : Left
  pub tokens : AreTokens src before left
  pub is : next_of left ≡ Ok (Some (span, next))
  pub place_is : at ≡ span.start
  pub include : is_include (terminal_of span.kind (slice_of src span)) ≡ true

abbrev pub IsBroken : List ℕ → Bool → Breach → ℕ → Type 0
IsBroken src base S1 at = IsS1 src base at
IsBroken src base S2 at = IsS2 src base at
IsBroken src base S5 at = IsS5 src base at
IsBroken src base S6 at = IsS6 src at

-- the broken rule of the least byte, and at one byte S1 last
pub record IsFirst (src : List ℕ) (base : Bool) (rule : Breach) (at : ℕ) : Type 0 where
  pub broken : IsBroken src base rule at
  pub least : (other : Breach) (place : ℕ) → IsBroken src base other place
      → (at < place) ⊎ ((at ≡ place) × ((other ≡ rule) ⊎ (other ≡ S1)))

-- ---- what a reader answers

abbrev pub rule_of : Breach → Rule
rule_of S1 = rules.S1
rule_of S2 = rules.S2
rule_of S5 = rules.S5
rule_of S6 = rules.S6

-- a fault is the first, and names the file and the byte
abbrev pub IsFirstFault : {T : Type 0} → List ℕ → List ℕ → Bool → Result T End → Type 0
IsFirstFault file src base (Ok v) = Unit {0}
IsFirstFault file src base (Err (ending.Memory e)) = Unit {0}
IsFirstFault file src base (Err (ending.Fault f)) =
    (rule : Breach)
    × ((at : ℕ) × ((f ≡ record { rule = rule_of rule; place = places.Byte file at }) × IsFirst src base rule at))

-- it breaks no rule
abbrev pub BreaksNone : List ℕ → Bool → Type 0
BreaksNone src base = (rule : Breach) (at : ℕ) → IsBroken src base rule at → ⊥

-- a source that breaks no rule has one script
abbrev pub HasOneScript : Type 0
HasOneScript = (src : List ℕ) (base : Bool) (a b : List StmtData) → BreaksNone src base → IsScript src base a
    → IsScript src base b → a ≡ b
