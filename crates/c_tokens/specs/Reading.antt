-- What a call of the reader of lines gives.
use Rattle.std.specs.Prelude.{◌≡◌, ◌<◌, false, Option, Some, None, length}
use Rattle.edt_base.specs.declared.fault.Rule.{Rule}
use Rattle.c_tokens.specs.declared.tok.CEnd.{CEnd}
use Rattle.c_tokens.specs.declared.tok.CEnd.TheVariants as ending
use Rattle.c_tokens.specs.LineData.{LineData}
use Rattle.c_tokens.specs.Lines.{Logical, LogicalLine, Unread, line_of, left_behind}

-- the next line and what is left behind it, or nothing at the end alone
abbrev pub Gives : Unread → Option LineData → Unread → Type 0
Gives u None v = (length u.rest ≡ 0) × (v ≡ u)
Gives u (Some line) v = (0 < length u.rest) × (l : Logical) × LogicalLine false u.rest (Some l) × (line ≡ line_of u.number l) × (v ≡ left_behind u l)

-- the line that comes next isn't made of tokens
abbrev pub HasNoTokens : Unread → Type 0
HasNoTokens u = (0 < length u.rest) × LogicalLine false u.rest None

-- where a call ended by a rule, this holds of it; nothing is said of want of memory
abbrev pub IfRule : CEnd → (Rule → Type 0) → Type 0
IfRule (ending.Rule r) p = p r
IfRule (ending.Memory e) p = Unit {0}
