-- How a source is read, one token at a time: what is kept of the tokens so far, and what one more makes of it.
use Rattle.std.specs.Prelude.{ℕ, suc, Bool, true, false, not, ◌&&◌, List, [], ◌∷◌, ◌++◌, Option, Some, None, Result, Ok, Err, nat_le, option_map, if◌then◌else◌}
use Rattle.edt_base.specs.declared.node.Kind.TheVariants as kind
use Rattle.dts_parse.specs.Exprs.{more}
use Rattle.dts_parse.specs.Fronts.{is_opening, may_name}
use Rattle.dts_parse.specs.Statements.{Place, below, first_stage, head, is_empty, omits, tail, takes_inner, takes_top, takes_version}
use Rattle.dts_parse.specs.StmtData.{PartData, StmtData, Plain, Path, Open, Close, Label, Assign, DelProp, DelNode, Omit, stmt}
use Rattle.dts_parse.specs.Texts.{target_of, text_bytes, width_of}
use Rattle.dts_parse.specs.Token.{Spot, Token, bin_of, is_include, is_node_form, is_prop_form, op_level, un_of}
use Rattle.dts_parse.specs.Values.{bytes_with, cells_with, list_data, may_close, misfits}
use Rattle.dts_parse.specs.Worth.{bin, cond, un}
use Rattle.dts_parse.specs.declared.expr.BinOp.{BinOp}
use Rattle.dts_parse.specs.declared.mode.Breach.{Breach}
use Rattle.dts_parse.specs.declared.mode.Breach.TheVariants.{S1, S2, S5, S6}
use Rattle.dts_parse.specs.declared.mode.Frame.{Frame}
use Rattle.dts_parse.specs.declared.mode.Frame.TheVariants as frame
use Rattle.dts_parse.specs.declared.mode.Listing.{Listing}
use Rattle.dts_parse.specs.declared.mode.Listing.TheVariants as listing
use Rattle.dts_parse.specs.declared.mode.Mode.{Mode}
use Rattle.dts_parse.specs.declared.mode.Mode.TheVariants as mode
use Rattle.dts_parse.specs.declared.mode.Stage.{Stage}
use Rattle.dts_parse.specs.declared.mode.Stage.TheVariants as stage
use Rattle.dts_parse.specs.declared.mode.Wanted.{Wanted}
use Rattle.dts_parse.specs.declared.mode.Wanted.TheVariants as wanted
use Rattle.dts_parse.specs.declared.script.RawCell.{RawCell}
use Rattle.dts_parse.specs.declared.script.RawCell.TheVariants as cell
use Rattle.dts_parse.specs.declared.script.Target.TheVariants as target
use Rattle.dts_parse.specs.declared.terminal.Form.{Form}
use Rattle.dts_parse.specs.declared.terminal.Form.TheVariants as form
use Rattle.dts_parse.specs.declared.terminal.Terminal.{Terminal}
use Rattle.dts_parse.specs.declared.terminal.Terminal.TheVariants as terminal
use Rattle.dts_parse.specs.declared.terminal.Width.{Width}
use Rattle.dts_parse.specs.declared.terminal.Width.TheVariants.{Bits32}

pub record Shape : Type 0 where
  pub mode : Mode
  pub colon : Bool  -- a label's name stands before, and its colon follows
  pub stage : Stage
  pub depth : ℕ  -- braces and brackets that are open
  pub opened : List (List StmtData)
  pub labels : List StmtData
  pub marks : List ℕ
  pub name : Option Spot  -- of the statement
  pub parts : List PartData
  pub cells : List RawCell
  pub bytes : List ℕ
  pub begin : ℕ  -- of the directive, or of the expression
  pub long : ℕ  -- tokens of the expression
  pub huge : Bool  -- a number of 2 ^ 64 or more stands in it
  pub frames : List Frame
  pub out : List StmtData

pub record Fault : Type 0 where
  pub rule : Breach
  pub at : ℕ

abbrev pub Step : Type 0
Step = Result Shape Fault

abbrev pub stop : Breach → Spot → Step
stop rule p = Err (record { rule = rule; at = p.at })

abbrev pub refused : Spot → Step
refused p = stop S1 p

abbrev pub place_now : Shape → Place
place_now s = record { stage = s.stage; opened = s.opened; depth = s.depth }

abbrev pub start : Bool → Shape
start base = record {
  mode = mode.Body;
  colon = false;
  stage = first_stage base;
  depth = 0;
  opened = [];
  labels = [];
  marks = [];
  name = None;
  parts = [];
  cells = [];
  bytes = [];
  begin = 0;
  long = 0;
  huge = false;
  frames = [];
  out = [];
}

-- ---- statements

-- no label or mark stands before
abbrev pub is_bare : Shape → Bool
is_bare s = is_empty s.labels && is_empty s.marks

abbrev pub at_opening : Shape → Spot → StmtData → Step
at_opening s p opening =
    if takes_top (place_now s) && is_empty s.marks
    then Ok (record s { mode = mode.Opening; labels = []; marks = []; out = (s.out ++ opening ∷ []) ++ s.labels })
    else refused p

abbrev pub at_mark : Shape → Spot → Step
at_mark s p =
    if takes_inner (place_now s) then Ok (record s { marks = s.marks ++ p.at ∷ [] })
    else if is_bare s && takes_top (place_now s) then Ok
    (record s { mode = mode.Directive wanted.OmittedRef; begin = p.at })
    else refused p

abbrev pub at_close : Shape → Spot → Step
at_close s p =
    if is_bare s && takes_inner (place_now s)
    then Ok (record s {
      mode = mode.Ending;
      stage = stage.Rest;
      depth = below s.depth;
      opened = tail s.opened;
      out =
          (s.out ++ stmt p.at Close ∷ []) ++ head s.opened;
    })
    else refused p

abbrev pub at_deletion : Shape → Spot → Step
at_deletion s p =
    if is_bare s && takes_inner (place_now s) then Ok
    (record s { mode = mode.Directive wanted.DeletedChild; begin = p.at })
    else if is_bare s && takes_top (place_now s) then Ok
    (record s { mode = mode.Directive wanted.DeletedRef; begin = p.at })
    else refused p

abbrev pub in_body : Shape → Spot → Terminal → Step
in_body s p (terminal.Name f) =
    if may_name (place_now s) (is_empty s.marks) f then Ok (record s { mode = mode.Named f; name = Some p }) else
    refused p
in_body s p terminal.Slash = at_opening s p (stmt p.at (Open target.Root))
in_body s p terminal.Ref = at_opening s p (stmt p.at (Open (target_of p.text)))
in_body s p terminal.Omit = at_mark s p
in_body s p terminal.RightBrace = at_close s p
in_body s p terminal.Version =
    if is_bare s && takes_version (place_now s) then Ok (record s { mode = mode.Ending; stage = stage.Versions }) else
    refused p
in_body s p terminal.Plugin =
    if is_bare s && takes_top (place_now s) then Ok (record s { mode = mode.Ending; stage = stage.Rest }) else refused p
in_body s p terminal.Reserve =
    if is_bare s && takes_top (place_now s) then Ok
    (record s { mode = mode.Directive wanted.FirstNumber; begin = p.at }) else refused p
in_body s p terminal.DeleteNode = at_deletion s p
in_body s p terminal.DeleteProp =
    if is_bare s && takes_inner (place_now s) then Ok
    (record s { mode = mode.Directive wanted.DeletedProp; begin = p.at }) else refused p
in_body s p _ = refused p

-- a property stands where no mark is
abbrev pub is_prop : Shape → Form → Bool
is_prop s f = takes_inner (place_now s) && is_empty s.marks && is_prop_form f

abbrev pub at_label : Form → Shape → Spot → Spot → Step
at_label form.Label s p n = Ok (record s {
  mode = mode.Body;
  name = None;
  labels = s.labels
      ++ stmt n.at (Label n.text) ∷ [];
})
at_label _ s p n = refused p

abbrev pub at_flag : Form → Shape → Spot → Spot → Step
at_flag f s p n =
    if is_prop s f then Ok
    (record s {
      mode = mode.Body;
      stage = stage.Rest;
      name = None;
      labels = [];
      marks = [];
      out = s.out ++ stmt
          n.at (Assign n.text []) ∷ [];
    })
    else refused p

abbrev pub at_child : Form → Shape → Spot → Spot → Step
at_child f s p n =
    if takes_inner (place_now s) && is_node_form f
    then Ok (record s {
      mode = mode.Body;
      stage = stage.Rest;
      depth = suc s.depth;
      opened = omits s.marks n.text ∷ s.opened;
      labels = [];
      marks = [];
      name = None;
      out = (s.out ++ stmt n.at (Open (target.Child n.text)) ∷ []) ++ s.labels;
    })
    else refused p

abbrev pub behind_name : Form → Shape → Spot → Spot → Terminal → Step
behind_name f s p n terminal.Colon = at_label f s p n
behind_name f s p n terminal.Semicolon = at_flag f s p n
behind_name f s p n terminal.Equal = if is_prop s f then Ok (record s { mode = mode.Value; labels = []; marks = [] })
    else refused p
behind_name f s p n terminal.LeftBrace = at_child f s p n
behind_name f s p n _ = refused p

abbrev pub named : Form → Shape → Spot → Terminal → Step
named f s p t = elim s.name [ None ↦ refused p | Some n ↦ behind_name f s p n t ]

abbrev pub at_brace : Shape → Spot → Terminal → Step
at_brace s p terminal.LeftBrace =
    Ok (record s { mode = mode.Body; stage = stage.Rest; depth = suc s.depth; opened = [] ∷ s.opened })
at_brace s p _ = refused p

abbrev pub at_end : Shape → Spot → Terminal → Step
at_end s p terminal.Semicolon = Ok (record s { mode = mode.Body })
at_end s p _ = refused p

-- the statement is read but for its semicolon
abbrev pub complete : Shape → List StmtData → Step
complete s out = Ok (record s { mode = mode.Ending; stage = stage.Rest; begin = 0; out = out })

abbrev pub directive : Wanted → Shape → Spot → Terminal → Step
directive wanted.FirstNumber s p (terminal.Number n) = Ok (record s { mode = mode.Directive wanted.SecondNumber })
directive wanted.FirstNumber s p terminal.Huge = Ok (record s { mode = mode.Directive wanted.SecondNumber })
directive wanted.SecondNumber s p (terminal.Number n) = complete s s.out
directive wanted.SecondNumber s p terminal.Huge = complete s s.out
directive wanted.DeletedRef s p terminal.Ref = complete s (s.out ++ stmt p.at (DelNode (target_of p.text)) ∷ [])
directive wanted.OmittedRef s p terminal.Ref = complete s (s.out ++ stmt p.at (Omit (target_of p.text)) ∷ [])
directive wanted.DeletedChild s p (terminal.Name f) = if is_node_form f then complete s (s.out
    ++ stmt s.begin (DelNode (target.Child p.text)) ∷ []) else refused p
directive wanted.DeletedProp s p (terminal.Name f) = if is_prop_form f then complete s (s.out
    ++ stmt s.begin (DelProp p.text) ∷ []) else refused p
directive _ s p _ = refused p

-- ---- values

abbrev pub waits_colon : Form → Shape → Spot → Step
waits_colon form.Label s p = Ok (record s { colon = true })
waits_colon _ s p = refused p

abbrev pub with_part : Shape → PartData → Step
with_part s part = Ok (record s { mode = mode.Part; parts = s.parts ++ part ∷ [] })

abbrev pub in_value : Shape → Spot → Terminal → Step
in_value s p terminal.Str = with_part s (Plain (record { kind = kind.Str; bytes = text_bytes p.text }))
in_value s p terminal.Ref = with_part s (Path (target_of p.text))
in_value s p terminal.Less = Ok (record s { mode = mode.Cells Bits32 listing.Empty; depth = suc s.depth })
in_value s p terminal.LeftSquare = Ok (record s { mode = mode.Pairs listing.Empty; depth = suc s.depth })
in_value s p terminal.Bits = Ok (record s { mode = mode.Bits })
in_value s p (terminal.Name f) = waits_colon f s p
in_value s p _ = refused p

abbrev pub assigned : Shape → Spot → Step
assigned s p = elim s.name [
  | None ↦ refused p
  | Some n ↦ Ok (record s {
    mode = mode.Body;
    stage = stage.Rest;
    name = None;
    parts = [];
    out = s.out
        ++ stmt n.at (Assign n.text s.parts) ∷ [];
  })
]

abbrev pub behind_part : Shape → Spot → Terminal → Step
behind_part s p terminal.Comma = Ok (record s { mode = mode.Value })
behind_part s p terminal.Semicolon = assigned s p
behind_part s p (terminal.Name f) = waits_colon f s p
behind_part s p _ = refused p

abbrev pub at_width : Shape → Spot → Option Width → Step
at_width s p None = refused p
at_width s p (Some w) = Ok (record s { mode = mode.Angle w })

abbrev pub behind_bits : Shape → Spot → Terminal → Step
behind_bits s p (terminal.Number n) = at_width s p (width_of n)
behind_bits s p _ = refused p

abbrev pub behind_width : Width → Shape → Spot → Terminal → Step
behind_width w s p terminal.Less = Ok (record s { mode = mode.Cells w listing.Empty; depth = suc s.depth })
behind_width w s p _ = refused p

-- a whole element of this worth, which began there
abbrev pub put : Width → Bool → Option ℕ → ℕ → Shape → Step
put w huge n at s =
    if misfits w huge n then Err (record { rule = S5; at = at })
    else Ok (record s {
      mode = mode.Cells w listing.Elements;
      cells = cells_with w n s.cells;
      bytes = bytes_with w n
          s.bytes;
    })

abbrev pub at_ref : Width → Shape → Spot → Step
at_ref Bits32 s p = Ok (record s {
  mode = mode.Cells Bits32 listing.Elements;
  cells = s.cells
      ++ cell.Ref (target_of p.text) ∷ [];
})
at_ref _ s p = refused p

abbrev pub closed_list : Width → Listing → Shape → Spot → Step
closed_list w l s p =
    if may_close l then Ok (record s {
      mode = mode.Part;
      depth = below s.depth;
      parts = s.parts
          ++ list_data w s.cells s.bytes ∷ [];
      cells = [];
      bytes = [];
    })
    else refused p

abbrev pub in_cells : Width → Listing → Shape → Spot → Terminal → Step
in_cells w l s p (terminal.Number n) = put w false (Some n) p.at s
in_cells w l s p terminal.Huge = put w true None p.at s
in_cells w l s p (terminal.Char n) = put w false (Some n) p.at s
in_cells w l s p terminal.LeftRound =
    Ok (record s { mode = mode.Operand w; depth = suc s.depth; begin = p.at; long = 1 })
in_cells w l s p terminal.Ref = at_ref w s p
in_cells w l s p terminal.Greater = closed_list w l s p
in_cells w l s p (terminal.Name f) = waits_colon f s p
in_cells w l s p _ = refused p

abbrev pub closed_pairs : Listing → Shape → Spot → Step
closed_pairs l s p =
    if may_close l then Ok (record s {
      mode = mode.Part;
      depth = below s.depth;
      parts = s.parts
          ++ Plain (record { kind = kind.Hex; bytes = s.bytes }) ∷ [];
      bytes = [];
    })
    else refused p

abbrev pub in_pairs : Listing → Shape → Spot → Terminal → Step
in_pairs l s p (terminal.Pair b) = Ok (record s { mode = mode.Pairs listing.Elements; bytes = s.bytes ++ b ∷ [] })
in_pairs l s p terminal.RightSquare = closed_pairs l s p
in_pairs l s p (terminal.Name f) = waits_colon f s p
in_pairs l s p _ = refused p

abbrev pub more_labels : Listing → Listing
more_labels listing.Empty = listing.Labels
more_labels l = l

abbrev pub labelled : Mode → Mode
labelled (mode.Cells w l) = mode.Cells w (more_labels l)
labelled (mode.Pairs l) = mode.Pairs (more_labels l)
labelled m = m

abbrev pub at_colon : Shape → Spot → Terminal → Step
at_colon s p terminal.Colon = Ok (record s { colon = false; mode = labelled s.mode })
at_colon s p _ = refused p

-- ---- expressions

-- what a case makes of its last part, where an operator of level p closes it
abbrev pub reduced : ℕ → Frame → Option ℕ → Option (Option ℕ)
reduced p frame.Round v = None
reduced p (frame.Un o) v = Some (option_map (un o) v)
reduced p (frame.Bin o l) v = if nat_le (op_level o) p then Some (bin o l v) else None
reduced p (frame.Cond c) v = None
reduced p (frame.Else c a) v = if nat_le 12 p then Some (cond c a v) else None

pub record Climbed : Type 0 where
  pub left : List Frame
  pub worth : Option ℕ

-- the cases that are left open, and the worth of what is closed
abbrev pub climbed : ℕ → List Frame → Option ℕ → Climbed
climbed p [] v = record { left = []; worth = v }
climbed p (f ∷ fs) v = elim (reduced p f v) [ None ↦ record { left = f ∷ fs; worth = v } | Some u ↦ climbed p fs u ]

abbrev pub operand_is : Width → Shape → Bool → Option ℕ → Step
operand_is w s huge v = Ok (record s { mode = mode.Operator w v; long = more s.long; huge = huge })

abbrev pub waits : Width → Shape → Frame → List Frame → Step
waits w s f fs = Ok (record s { mode = mode.Operand w; long = more s.long; frames = f ∷ fs })

abbrev pub before_operand : Width → Shape → Spot → Terminal → Step
before_operand w s p (terminal.Number n) = operand_is w s s.huge (Some n)
before_operand w s p terminal.Huge = operand_is w s true None
before_operand w s p (terminal.Char n) = operand_is w s s.huge (Some n)
before_operand w s p terminal.LeftRound =
    Ok (record s { depth = suc s.depth; long = more s.long; frames = frame.Round ∷ s.frames })
before_operand w s p t = elim (un_of t) [ None ↦ refused p | Some o ↦ waits w s (frame.Un o) s.frames ]

abbrev pub closed_case : Width → Shape → Spot → List Frame → Option ℕ → Step
closed_case w s p [] v =
    put w s.huge v s.begin (record s { depth = below s.depth; begin = 0; long = 0; huge = false; frames = [] })
closed_case w s p (frame.Round ∷ fs) v =
    Ok (record s { mode = mode.Operator w v; depth = below s.depth; long = more s.long; frames = fs })
closed_case w s p _ v = refused p

abbrev pub closed_round : Width → Shape → Spot → Climbed → Step
closed_round w s p c = closed_case w s p c.left c.worth

abbrev pub chosen_case : Width → Shape → Spot → List Frame → Option ℕ → Step
chosen_case w s p (frame.Cond c ∷ fs) v = waits w s (frame.Else c v) fs
chosen_case w s p _ v = refused p

abbrev pub chosen : Width → Shape → Spot → Climbed → Step
chosen w s p c = chosen_case w s p c.left c.worth

abbrev pub tested : Width → Shape → Climbed → Step
tested w s c = waits w s (frame.Cond c.worth) c.left

abbrev pub joined : Width → Shape → BinOp → Climbed → Step
joined w s o c = waits w s (frame.Bin o c.worth) c.left

abbrev pub behind_operand : Width → Option ℕ → Shape → Spot → Terminal → Step
behind_operand w v s p terminal.RightRound = closed_round w s p (climbed 12 s.frames v)
behind_operand w v s p terminal.Colon = chosen w s p (climbed 12 s.frames v)
behind_operand w v s p terminal.Question = tested w s (climbed 11 s.frames v)
behind_operand w v s p t =
    elim (bin_of t) [ None ↦ refused p | Some o ↦ joined w s o (climbed (op_level o) s.frames v) ]

-- ---- a token

abbrev pub by_mode : Mode → Shape → Spot → Terminal → Step
by_mode mode.Body s p t = in_body s p t
by_mode (mode.Named f) s p t = named f s p t
by_mode mode.Opening s p t = at_brace s p t
by_mode mode.Ending s p t = at_end s p t
by_mode (mode.Directive w) s p t = directive w s p t
by_mode mode.Value s p t = in_value s p t
by_mode mode.Part s p t = behind_part s p t
by_mode mode.Bits s p t = behind_bits s p t
by_mode (mode.Angle w) s p t = behind_width w s p t
by_mode (mode.Cells w l) s p t = in_cells w l s p t
by_mode (mode.Pairs l) s p t = in_pairs l s p t
by_mode (mode.Operand w) s p t = before_operand w s p t
by_mode (mode.Operator w v) s p t = behind_operand w v s p t

abbrev pub taken : Shape → Spot → Terminal → Step
taken s p t = if s.colon then at_colon s p t else by_mode s.mode s p t

abbrev pub in_rounds : Mode → Bool
in_rounds (mode.Operand w) = true
in_rounds (mode.Operator w v) = true
in_rounds _ = false

-- after 4,096 tokens of an expression whatever continues it is one too many
abbrev pub limited_by : Breach → Spot → Fault → Step
limited_by S1 p f = Err f
limited_by _ p f = stop S2 p

abbrev pub limited : Spot → Step → Step
limited p (Ok s) = stop S2 p
limited p (Err f) = limited_by f.rule p f

-- what stands at one byte in place of all else comes first
abbrev pub step : Shape → Token → Step
step s t =
    if is_include t.terminal then stop S6 t.spot
    else if is_opening (in_rounds s.mode) t.terminal && nat_le 64 s.depth then stop S2 t.spot
    else if nat_le 4096 s.long then limited t.spot (taken s t.spot t.terminal)
    else taken s t.spot t.terminal

-- a token after others
abbrev pub step_on : Token → Step → Step
step_on t (Ok s) = step s t
step_on t (Err f) = Err f

-- the tokens so far, the last one first
abbrev pub walk : Bool → List Token → Step
walk base [] = Ok (start base)
walk base (t ∷ before) = step_on t (walk base before)

-- ---- the end

abbrev pub is_body : Mode → Bool
is_body mode.Body = true
is_body _ = false

-- a source may end here
abbrev pub is_whole : Shape → Bool
is_whole s = is_body s.mode && not s.colon && is_bare s && takes_top (place_now s)
