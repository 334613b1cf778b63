-- Expressions: their trees, what they spell, and what they are worth. What is spelled stands after the tokens before
-- it, the last token first.
use Rattle.std.specs.Prelude.{◌≤◌, ◌<◌, ℕ, zero, suc, Bool, true, false, List, ◌∷◌, Option, Some, None, nat_le, option_map, if◌then◌else◌}
use Rattle.dts_parse.specs.Token.{Token, Spot, token, un_terminal, bin_terminal, op_level}
use Rattle.dts_parse.specs.Worth.{un, bin, cond}
use Rattle.dts_parse.specs.declared.expr.BinOp.{BinOp}
use Rattle.dts_parse.specs.declared.expr.UnOp.{UnOp}
use Rattle.dts_parse.specs.declared.terminal.Terminal.{Terminal}
use Rattle.dts_parse.specs.declared.terminal.Terminal.TheVariants as terminal

-- a number, below 2 ^ 64 or not, or a character
pub data Literal : Type 0 where
  Small : ℕ → Literal
  Large : Literal
  Letter : ℕ → Literal

abbrev pub literal_terminal : Literal → Terminal
literal_terminal (Small n) = terminal.Number n
literal_terminal Large = terminal.Huge
literal_terminal (Letter n) = terminal.Char n

abbrev pub literal_worth : Literal → Option ℕ
literal_worth (Small n) = Some n
literal_worth Large = None
literal_worth (Letter n) = Some n

abbrev pub or_large : Literal → Bool → Bool
or_large Large before = true
or_large _ before = before

pub data Tree : Type 0 where
  Num : Literal → Spot → Tree
  Round : (begin : Spot) → Tree → (finish : Spot) → Tree
  Un : UnOp → Spot → Tree → Tree
  Bin : Tree → BinOp → Spot → Tree → Tree
  Cond : Tree → (question : Spot) → Tree → (colon : Spot) → Tree → Tree

abbrev pub spell : Tree → List Token → List Token
spell (Num l p) before = token (literal_terminal l) p ∷ before
spell (Round begin e finish) before =
    token terminal.RightRound finish ∷ spell e (token terminal.LeftRound begin ∷ before)
spell (Un o p e) before = spell e (token (un_terminal o) p ∷ before)
spell (Bin l o p r) before = spell r (token (bin_terminal o) p ∷ spell l before)
spell (Cond c q a k b) before = spell b (token terminal.Colon k ∷ spell a (token terminal.Question q ∷ spell c before))

-- the strength of an expression: 0 for a number and brackets, 1 for an operator before its operand, and 12 for `?:`
abbrev pub level : Tree → ℕ
level (Num l p) = 0
level (Round begin e finish) = 0
level (Un o p e) = 1
level (Bin l o p r) = op_level o
level (Cond c q a k b) = 12

-- C's precedence: operators of one level group to the left, `?:` to the right
abbrev pub IsProper : Tree → Type 0
IsProper (Num l p) = Unit {0}
IsProper (Round begin e finish) = IsProper e
IsProper (Un o p e) = (level e ≤ 1) × IsProper e
IsProper (Bin l o p r) = (level l ≤ op_level o) × (level r < op_level o) × IsProper l × IsProper r
IsProper (Cond c q a k b) = (level c ≤ 11) × IsProper c × IsProper a × IsProper b

abbrev pub worth_of : Tree → Option ℕ
worth_of (Num l p) = literal_worth l
worth_of (Round begin e finish) = worth_of e
worth_of (Un o p e) = option_map (un o) (worth_of e)
worth_of (Bin l o p r) = bin o (worth_of l) (worth_of r)
worth_of (Cond c q a k b) = cond (worth_of c) (worth_of a) (worth_of b)

-- a number of 2 ^ 64 or more stands in it, or before it
abbrev pub large : Tree → Bool → Bool
large (Num l p) before = or_large l before
large (Round begin e finish) before = large e before
large (Un o p e) before = large e before
large (Bin l o p r) before = large r (large l before)
large (Cond c q a k b) before = large b (large a (large c before))

-- one token more of an expression; 4,096 stand for any number from there on
abbrev pub more : ℕ → ℕ
more n = if nat_le 4096 n then n else suc n

-- how many tokens it has, with those before it
abbrev pub count : Tree → ℕ → ℕ
count (Num l p) before = more before
count (Round begin e finish) before = more (count e (more before))
count (Un o p e) before = count e (more before)
count (Bin l o p r) before = count r (more (count l before))
count (Cond c q a k b) before = count b (more (count a (more (count c before))))

-- ---- unfinished expressions: the open cases, innermost last, each waiting for its last part

pub data Waiting : Type 0 where
  Start : Waiting
  In_round : Waiting → (begin : Spot) → Waiting
  In_un : Waiting → UnOp → Spot → Waiting
  In_bin : Waiting → Tree → BinOp → Spot → Waiting
  In_cond : Waiting → Tree → (question : Spot) → Waiting
  In_else : Waiting → Tree → (question : Spot) → Tree → (colon : Spot) → Waiting

abbrev pub spell_waiting : Waiting → List Token → List Token
spell_waiting Start before = before
spell_waiting (In_round w begin) before = token terminal.LeftRound begin ∷ spell_waiting w before
spell_waiting (In_un w o p) before = token (un_terminal o) p ∷ spell_waiting w before
spell_waiting (In_bin w l o p) before = token (bin_terminal o) p ∷ spell l (spell_waiting w before)
spell_waiting (In_cond w c q) before = token terminal.Question q ∷ spell c (spell_waiting w before)
spell_waiting (In_else w c q a k) before =
    token terminal.Colon k ∷ spell a (token terminal.Question q ∷ spell c (spell_waiting w before))

abbrev pub below : ℕ → ℕ
below zero = zero
below (suc n) = n

-- the greatest level that may stand where the innermost case waits
abbrev pub room : Waiting → ℕ
room Start = 12
room (In_round w begin) = 12
room (In_un w o p) = 1
room (In_bin w l o p) = below (op_level o)
room (In_cond w c q) = 12
room (In_else w c q a k) = 12

-- each open case may stand where it stands, and its parts are proper
abbrev pub AreProper : Waiting → Type 0
AreProper Start = Unit {0}
AreProper (In_round w begin) = AreProper w
AreProper (In_un w o p) = (1 ≤ room w) × AreProper w
AreProper (In_bin w l o p) = (op_level o ≤ room w) × (level l ≤ op_level o) × IsProper l × AreProper w
AreProper (In_cond w c q) = (12 ≤ room w) × (level c ≤ 11) × IsProper c × AreProper w
AreProper (In_else w c q a k) = (12 ≤ room w) × (level c ≤ 11) × IsProper c × IsProper a × AreProper w

abbrev pub rounds : Waiting → ℕ → ℕ
rounds Start around = around
rounds (In_round w begin) around = suc (rounds w around)
rounds (In_un w o p) around = rounds w around
rounds (In_bin w l o p) around = rounds w around
rounds (In_cond w c q) around = rounds w around
rounds (In_else w c q a k) around = rounds w around

abbrev pub count_waiting : Waiting → ℕ → ℕ
count_waiting Start before = before
count_waiting (In_round w begin) before = more (count_waiting w before)
count_waiting (In_un w o p) before = more (count_waiting w before)
count_waiting (In_bin w l o p) before = more (count l (count_waiting w before))
count_waiting (In_cond w c q) before = more (count c (count_waiting w before))
count_waiting (In_else w c q a k) before = more (count a (more (count c (count_waiting w before))))

abbrev pub large_waiting : Waiting → Bool
large_waiting Start = false
large_waiting (In_round w begin) = large_waiting w
large_waiting (In_un w o p) = large_waiting w
large_waiting (In_bin w l o p) = large l (large_waiting w)
large_waiting (In_cond w c q) = large c (large_waiting w)
large_waiting (In_else w c q a k) = large a (large c (large_waiting w))
