-- Tokens as the grammar sees them.
use Rattle.std.specs.Prelude.{◌≡◌, ℕ, Bool, true, false, List, Option, Some, None, nat_lt, if◌then◌else◌}
use Rattle.std.specs.List.{list_all}
use Rattle.edt_base.specs.SourceNames.{is_label, is_node_name, is_prop_name}
use Rattle.dts_parse.specs.declared.expr.BinOp.{BinOp}
use Rattle.dts_parse.specs.declared.expr.BinOp.TheVariants as op
use Rattle.dts_parse.specs.declared.expr.UnOp.{UnOp}
use Rattle.dts_parse.specs.declared.expr.UnOp.TheVariants as sole
use Rattle.dts_parse.specs.declared.terminal.Form.{Form}
use Rattle.dts_parse.specs.declared.terminal.Form.TheVariants as form
use Rattle.dts_parse.specs.declared.terminal.Terminal.{Terminal}
use Rattle.dts_parse.specs.declared.terminal.Terminal.TheVariants as terminal

-- where a token begins, and its bytes
pub record Spot : Type 0 where
  pub at : ℕ
  pub text : List ℕ

pub record Token : Type 0 where
  pub terminal : Terminal
  pub spot : Spot

abbrev pub token : Terminal → Spot → Token
token s p = record { terminal = s; spot = p }

-- ---- names

abbrev pub is_ascii : ℕ → Bool
is_ascii b = nat_lt b 128

-- what a word can be the name of
abbrev pub name_form : List ℕ → Option Form
name_form text =
    if is_label text then Some form.Label
    else if is_node_name text then (if is_prop_name text then Some form.Both else Some form.Node)
    else if is_prop_name text then Some form.Prop
    else None

-- (the bytes of words are ASCII)
abbrev pub form_of : List ℕ → Option Form
form_of text = if list_all is_ascii text then name_form text else None

abbrev pub is_label_form : Form → Bool
is_label_form form.Label = true
is_label_form _ = false

abbrev pub is_node_form : Form → Bool
is_node_form form.Prop = false
is_node_form _ = true

abbrev pub is_prop_form : Form → Bool
is_prop_form form.Node = false
is_prop_form _ = true

-- a name of a form
pub record Name (f : Form) : Type 0 where
  pub spot : Spot
  pub is : form_of spot.text ≡ Some f

abbrev pub name_token : (f : Form) → Name f → Token
name_token f n = token (terminal.Name f) n.spot

-- ---- operators

abbrev pub un_terminal : UnOp → Terminal
un_terminal sole.Neg = terminal.Minus
un_terminal sole.Flip = terminal.Tilde
un_terminal sole.Not = terminal.Bang

abbrev pub un_of : Terminal → Option UnOp
un_of terminal.Minus = Some sole.Neg
un_of terminal.Tilde = Some sole.Flip
un_of terminal.Bang = Some sole.Not
un_of _ = None

-- the operators that are other terminals too
abbrev pub bin_terminal : BinOp → Terminal
bin_terminal op.Sub = terminal.Minus
bin_terminal op.Div = terminal.Slash
bin_terminal op.Lt = terminal.Less
bin_terminal op.Gt = terminal.Greater
bin_terminal o = terminal.Op o

abbrev pub bin_of : Terminal → Option BinOp
bin_of terminal.Minus = Some op.Sub
bin_of terminal.Slash = Some op.Div
bin_of terminal.Less = Some op.Lt
bin_of terminal.Greater = Some op.Gt
bin_of (terminal.Op op.Sub) = None
bin_of (terminal.Op op.Div) = None
bin_of (terminal.Op op.Lt) = None
bin_of (terminal.Op op.Gt) = None
bin_of (terminal.Op o) = Some o
bin_of _ = None

-- the strength of an operator: the least level binds tightest
abbrev pub op_level : BinOp → ℕ
op_level op.Mul = 2
op_level op.Div = 2
op_level op.Rem = 2
op_level op.Add = 3
op_level op.Sub = 3
op_level op.Shl = 4
op_level op.Shr = 4
op_level op.Lt = 5
op_level op.Gt = 5
op_level op.Le = 5
op_level op.Ge = 5
op_level op.Eq = 6
op_level op.Ne = 6
op_level op.BitAnd = 7
op_level op.BitXor = 8
op_level op.BitOr = 9
op_level op.And = 10
op_level op.Or = 11

-- a directive that asks for another file
abbrev pub is_include : Terminal → Bool
is_include terminal.Include = true
is_include _ = false
