-- What an expression is worth, by C's rules, over numbers of 64 bits without a sign; none where an evaluated divisor is
-- 0.
use Rattle.std.specs.Prelude.{ℕ, ◌+◌, ◌-◌, ◌*◌, ◌/◌, ◌%◌, ◌^◌, Bool, Option, Some, None, nat_eq, nat_lt, nat_le, not, ◌&&◌, ◌||◌, bit_and, bit_or, bit_xor, option_map, if◌then◌else◌}
use Rattle.std.specs.Option.{option_and_then}
use Rattle.dts_parse.specs.declared.expr.Expr.{Expr, fold-Expr}
use Rattle.dts_parse.specs.declared.expr.Expr.TheOpen.{Expr-F}
use Rattle.dts_parse.specs.declared.expr.Expr.TheOpen as layer
use Rattle.dts_parse.specs.declared.expr.UnOp.{UnOp}
use Rattle.dts_parse.specs.declared.expr.UnOp.TheVariants.{Neg, Flip, Not}
use Rattle.dts_parse.specs.declared.expr.BinOp.{BinOp}
use Rattle.dts_parse.specs.declared.expr.BinOp.TheVariants.{Mul, Div, Rem, Add, Sub, Shl, Shr, Lt, Gt, Le, Ge, Eq, Ne, BitAnd, BitXor, BitOr, And, Or}

-- truth is 1 or 0
abbrev pub truth : Bool → ℕ
truth b = if b then 1 else 0

abbrev pub is_true : ℕ → Bool
is_true n = not (nat_eq n 0)

abbrev pub un : UnOp → ℕ → ℕ
un Neg a = (2 ^ 64 - a) % 2 ^ 64
un Flip a = 2 ^ 64 - 1 - a
un Not a = truth (nat_eq a 0)

-- a shift by 64 or more gives 0
abbrev pub shl : ℕ → ℕ → ℕ
shl a b = if nat_lt b 64 then (a * 2 ^ b) % 2 ^ 64 else 0

abbrev pub shr : ℕ → ℕ → ℕ
shr a b = if nat_lt b 64 then a / 2 ^ b else 0

-- an operator whose operands are both evaluated; sums, differences and products wrap
abbrev pub strict : BinOp → ℕ → ℕ → Option ℕ
strict Mul a b = Some ((a * b) % 2 ^ 64)
strict Div a b = if nat_eq b 0 then None else Some (a / b)
strict Rem a b = if nat_eq b 0 then None else Some (a % b)
strict Add a b = Some ((a + b) % 2 ^ 64)
strict Sub a b = Some ((a + (2 ^ 64 - b)) % 2 ^ 64)
strict Shl a b = Some (shl a b)
strict Shr a b = Some (shr a b)
strict Lt a b = Some (truth (nat_lt a b))
strict Gt a b = Some (truth (nat_lt b a))
strict Le a b = Some (truth (nat_le a b))
strict Ge a b = Some (truth (nat_le b a))
strict Eq a b = Some (truth (nat_eq a b))
strict Ne a b = Some (truth (not (nat_eq a b)))
strict BitAnd a b = Some (bit_and a b)
strict BitXor a b = Some (bit_xor a b)
strict BitOr a b = Some (bit_or a b)
strict And a b = Some (truth (is_true a && is_true b))
strict Or a b = Some (truth (is_true a || is_true b))

-- the right operand of `&&` and `||` is evaluated only where the left one doesn't decide
abbrev pub decided : BinOp → ℕ → Option ℕ
decided And a = if is_true a then None else Some 0
decided Or a = if is_true a then Some 1 else None
decided _ a = None

abbrev pub with_left : BinOp → ℕ → Option ℕ → Option ℕ
with_left op a right = elim (decided op a) [ Some v ↦ Some v | None ↦ option_and_then (λ b. strict op a b) right ]

abbrev pub bin : BinOp → Option ℕ → Option ℕ → Option ℕ
bin op left right = option_and_then (λ a. with_left op a right) left

-- one of the two is evaluated
abbrev pub cond : Option ℕ → Option ℕ → Option ℕ → Option ℕ
cond test yes_case no_case = option_and_then (λ t. if is_true t then yes_case else no_case) test

abbrev pub worth_from : Expr-F (Option ℕ) → Option ℕ
worth_from (layer.Num n) = Some n
worth_from (layer.Un op e) = option_map (un op) e.value
worth_from (layer.Bin op left right) = bin op left.value right.value
worth_from (layer.Cond test yes_case no_case) = cond test.value yes_case.value no_case.value

abbrev pub worth : Expr → Option ℕ
worth = fold-Expr (Option ℕ) worth_from
