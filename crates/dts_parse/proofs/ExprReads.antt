-- What an expression spells is read as what it is worth.
use Rattle.std.proofs.Common.{◌≡◌, ◌<◌, ◌≤◌, ℕ, zero, suc, Bool, false, List, [], ◌∷◌, Option, Some, None, refl, ap, ◌∙◌, arith}
use Rattle.std.proofs.lemmas.Bool.{le-leb, lt-leb}
use Rattle.dts_parse.specs.Exprs.{Literal, Small, Large, Letter, Tree, Num, Round, Un, Bin, Cond, IsProper, below, count, large, level, literal_terminal, more, or_large, spell, worth_of}
use Rattle.dts_parse.specs.Inner.Machine.{Climbed, Shape, behind_operand, chosen, climbed, closed_round, joined, reduced, tested}
use Rattle.dts_parse.specs.Token.{is_include}
use Rattle.dts_parse.specs.Token.{Spot, Token, bin_terminal, op_level, token, un_terminal}
use Rattle.dts_parse.specs.declared.expr.BinOp.{BinOp}
use Rattle.dts_parse.specs.declared.expr.BinOp.TheVariants.{Mul, Div, Rem, Add, Sub, Shl, Shr, Lt, Gt, Le, Ge, Eq, Ne, BitAnd, BitXor, BitOr, And, Or}
use Rattle.dts_parse.specs.declared.expr.UnOp.{UnOp}
use Rattle.dts_parse.specs.declared.expr.UnOp.TheVariants.{Neg, Flip, Not}
use Rattle.dts_parse.specs.declared.mode.Frame.{Frame}
use Rattle.dts_parse.specs.declared.mode.Frame.TheVariants as frame
use Rattle.dts_parse.specs.declared.mode.Mode.TheVariants as mode
use Rattle.dts_parse.specs.declared.terminal.Terminal.TheVariants as terminal
use Rattle.dts_parse.specs.declared.terminal.Width.{Width}
use Rattle.dts_parse.specs.Worth.{bin, cond}
use Rattle.dts_parse.proofs.Kept.{spine}
use Rattle.dts_parse.proofs.Leading.{Moves, Reads, go, hop, moves}

-- ---- levels

-- the greatest level that may stand where the innermost case waits
abbrev pub room_of : List Frame → ℕ
room_of [] = 12
room_of (frame.Round ∷ fs) = 12
room_of (frame.Un o ∷ fs) = 1
room_of (frame.Bin o l ∷ fs) = below (op_level o)
room_of (frame.Cond c ∷ fs) = 12
room_of (frame.Else c a ∷ fs) = 12

pub op_range : (o : BinOp) → (2 ≤ op_level o) × (op_level o ≤ 11)
op_range Mul = (omega arith, omega arith)
op_range Div = (omega arith, omega arith)
op_range Rem = (omega arith, omega arith)
op_range Add = (omega arith, omega arith)
op_range Sub = (omega arith, omega arith)
op_range Shl = (omega arith, omega arith)
op_range Shr = (omega arith, omega arith)
op_range Lt = (omega arith, omega arith)
op_range Gt = (omega arith, omega arith)
op_range Le = (omega arith, omega arith)
op_range Ge = (omega arith, omega arith)
op_range Eq = (omega arith, omega arith)
op_range Ne = (omega arith, omega arith)
op_range BitAnd = (omega arith, omega arith)
op_range BitXor = (omega arith, omega arith)
op_range BitOr = (omega arith, omega arith)
op_range And = (omega arith, omega arith)
op_range Or = (omega arith, omega arith)

pub level_range : (e : Tree) → level e ≤ 12
level_range (Num l p) = omega arith
level_range (Round b e f) = omega arith
level_range (Un o p e) = omega arith
level_range (Bin l o p r) = let h : (2 ≤ op_level o) × (op_level o ≤ 11) = op_range o in omega arith
level_range (Cond c q a k b) = omega arith

pub below_is : (n m : ℕ) → n < m → n ≤ below m
below_is n zero h = omega arith
below_is n (suc m) h = omega arith

pub below_less : (n m : ℕ) → 1 ≤ n → n ≤ below m → n < m
below_less n zero p h = omega arith
below_less n (suc m) p h = omega arith

-- ---- climbing

pub climbed_some : (p : ℕ) (f : Frame) (fs : List Frame) (v u : Option ℕ) → reduced p f v ≡ Some u → climbed p (f ∷ fs) v ≡ climbed p fs u
climbed_some p f fs v u e =
    let F : Option (Option ℕ) → Climbed = λ r. elim r [ None ↦ record { left = f ∷ fs; worth = v } | Some x ↦ climbed p fs x ] in ap F e

pub climbed_none : (p : ℕ) (f : Frame) (fs : List Frame) (v : Option ℕ) → reduced p f v ≡ None → climbed p (f ∷ fs) v ≡ record { left = f ∷ fs; worth = v }
climbed_none p f fs v e =
    let F : Option (Option ℕ) → Climbed = λ r. elim r [ None ↦ record { left = f ∷ fs; worth = v } | Some x ↦ climbed p fs x ] in ap F e

pub stays : (p : ℕ) (fs : List Frame) (v : Option ℕ) → 2 ≤ p → p ≤ 11 → p ≤ room_of fs → climbed p fs v ≡ record { left = fs; worth = v }
stays p [] v a b h = refl
stays p (frame.Round ∷ fs) v a b h = refl
stays p (frame.Un o ∷ fs) v a b h = absurd (omega arith)
stays p (frame.Bin o l ∷ fs) v a b h = climbed_none p (frame.Bin o l) fs v (rw (lt-leb (op_level o) p (below_less p (op_level o) (omega arith) h)) refl)
stays p (frame.Cond c ∷ fs) v a b h = refl
stays p (frame.Else c d ∷ fs) v a b h = climbed_none p (frame.Else c d) fs v (rw (lt-leb 12 p (omega arith)) refl)

-- an operator of a level that an expression has, or of a looser one, closes all its cases
pub closes : (e : Tree) (p : ℕ) (fs : List Frame) → IsProper e → level e ≤ p → climbed p (spine e fs).left (spine e fs).worth ≡ climbed p fs (worth_of e)
closes (Num l q) p fs is h = refl
closes (Round b e f) p fs is h = refl
closes (Un o q e) p fs is h = closes e p (frame.Un o ∷ fs) is.1 (omega arith)
closes (Bin l o q r) p fs is h =
    closes r p (frame.Bin o (worth_of l) ∷ fs) is.3 (omega arith)
    ∙ climbed_some p (frame.Bin o (worth_of l)) fs (worth_of r) (bin o (worth_of l) (worth_of r)) (rw (le-leb (op_level o) p h) refl)
closes (Cond c q a k b) p fs is h =
    closes b p (frame.Else (worth_of c) (worth_of a) ∷ fs) is.3 (let n : level b ≤ 12 = level_range b in omega arith)
    ∙ climbed_some p (frame.Else (worth_of c) (worth_of a)) fs (worth_of b) (cond (worth_of c) (worth_of a) (worth_of b)) (rw (le-leb 12 p h) refl)

-- ---- reading

abbrev pub operand_at : Shape → Width → ℕ → Bool → ℕ → List Frame → Shape
operand_at s w d h n fs = record s { mode = mode.Operand w; colon = false; depth = d; huge = h; long = n; frames = fs }

abbrev pub operator_at : Shape → Width → ℕ → Bool → ℕ → Climbed → Shape
operator_at s w d h n c = record s { mode = mode.Operator w c.worth; colon = false; depth = d; huge = h; long = n; frames = c.left }

pub step_op : (w : Width) (v : Option ℕ) (s : Shape) (p : Spot) (o : BinOp) → behind_operand w v s p (bin_terminal o) ≡ joined w s o (climbed (op_level o) s.frames v)
step_op w v s p Mul = refl
step_op w v s p Div = refl
step_op w v s p Rem = refl
step_op w v s p Add = refl
step_op w v s p Sub = refl
step_op w v s p Shl = refl
step_op w v s p Shr = refl
step_op w v s p Lt = refl
step_op w v s p Gt = refl
step_op w v s p Le = refl
step_op w v s p Ge = refl
step_op w v s p Eq = refl
step_op w v s p Ne = refl
step_op w v s p BitAnd = refl
step_op w v s p BitXor = refl
step_op w v s p BitOr = refl
step_op w v s p And = refl
step_op w v s p Or = refl

pub no_include : (o : BinOp) → is_include (bin_terminal o) ≡ false
no_include Mul = refl
no_include Div = refl
no_include Rem = refl
no_include Add = refl
no_include Sub = refl
no_include Shl = refl
no_include Shr = refl
no_include Lt = refl
no_include Gt = refl
no_include Le = refl
no_include Ge = refl
no_include Eq = refl
no_include Ne = refl
no_include BitAnd = refl
no_include BitXor = refl
no_include BitOr = refl
no_include And = refl
no_include Or = refl

pub reads_literal : (q_ base : Bool) (s : Shape) (w : Width) (d : ℕ) (h : Bool) (n : ℕ) (fs : List Frame) (before : List Token) (l : Literal) (p : Spot)
    → Reads q_ base before (operand_at s w d h n fs)
    → Reads q_ base (token (literal_terminal l) p ∷ before) (operator_at s w d (or_large l h) (more n) (spine (Num l p) fs))
reads_literal q_ base s w d h n fs before (Small x) p k = hop (token (terminal.Number x) p) k refl refl
reads_literal q_ base s w d h n fs before Large p k = hop (token terminal.Huge p) k refl refl
reads_literal q_ base s w d h n fs before (Letter x) p k = hop (token (terminal.Char x) p) k refl refl

pub reads_un : (q_ base : Bool) (s : Shape) (w : Width) (d : ℕ) (h : Bool) (n : ℕ) (fs : List Frame) (before : List Token) (o : UnOp) (p : Spot)
    → Reads q_ base before (operand_at s w d h n fs)
    → Reads q_ base (token (un_terminal o) p ∷ before) (operand_at s w d h (more n) (frame.Un o ∷ fs))
reads_un q_ base s w d h n fs before Neg p k = hop (token terminal.Minus p) k refl refl
reads_un q_ base s w d h n fs before Flip p k = hop (token terminal.Tilde p) k refl refl
reads_un q_ base s w d h n fs before Not p k = hop (token terminal.Bang p) k refl refl

pub joins : (q_ : Bool) (s : Shape) (w : Width) (d : ℕ) (h : Bool) (n : ℕ) (fs : List Frame) (o : BinOp) (p : Spot) (v : Option ℕ) (c : Climbed)
    → climbed (op_level o) c.left c.worth ≡ record { left = fs; worth = v }
    → Moves q_ (operator_at s w d h n c) (token (bin_terminal o) p) (operand_at s w d h (more n) (frame.Bin o v ∷ fs))
joins q_ s w d h n fs o p v c e = moves (token (bin_terminal o) p) (step_op w c.worth (operator_at s w d h n c) p o ∙ ap (λ x. joined w (operator_at s w d h n c) o x) e)

pub tests : (q_ : Bool) (s : Shape) (w : Width) (d : ℕ) (h : Bool) (n : ℕ) (fs : List Frame) (p : Spot) (v : Option ℕ) (c : Climbed)
    → climbed 11 c.left c.worth ≡ record { left = fs; worth = v }
    → Moves q_ (operator_at s w d h n c) (token terminal.Question p) (operand_at s w d h (more n) (frame.Cond v ∷ fs))
tests q_ s w d h n fs p v c e = moves (token terminal.Question p) (ap (λ x. tested w (operator_at s w d h n c) x) e)

pub chooses : (q_ : Bool) (s : Shape) (w : Width) (d : ℕ) (h : Bool) (n : ℕ) (fs : List Frame) (p : Spot) (t v : Option ℕ) (c : Climbed)
    → climbed 12 c.left c.worth ≡ record { left = frame.Cond t ∷ fs; worth = v }
    → Moves q_ (operator_at s w d h n c) (token terminal.Colon p) (operand_at s w d h (more n) (frame.Else t v ∷ fs))
chooses q_ s w d h n fs p t v c e = moves (token terminal.Colon p) (ap (λ x. chosen w (operator_at s w d h n c) p x) e)

pub ends_round : (q_ : Bool) (s : Shape) (w : Width) (d : ℕ) (h : Bool) (n : ℕ) (fs : List Frame) (p : Spot) (v : Option ℕ) (c : Climbed)
    → climbed 12 c.left c.worth ≡ record { left = frame.Round ∷ fs; worth = v }
    → Moves q_ (operator_at s w (suc d) h n c) (token terminal.RightRound p) (operator_at s w d h (more n) (record { left = fs; worth = v }))
ends_round q_ s w d h n fs p v c e = moves (token terminal.RightRound p) (ap (λ x. closed_round w (operator_at s w (suc d) h n c) p x) e)

pub reads : (q_ base : Bool) (e : Tree) (s : Shape) (w : Width) (d : ℕ) (h : Bool) (n : ℕ) (fs : List Frame) (before : List Token)
    → IsProper e → level e ≤ room_of fs → Reads q_ base before (operand_at s w d h n fs)
    → Reads q_ base (spell e before) (operator_at s w d (large e h) (count e n) (spine e fs))
reads q_ base (Num l p) s w d h n fs before is room k = reads_literal q_ base s w d h n fs before l p k
reads q_ base (Round b e f) s w d h n fs before is room k =
    let opened : Reads q_ base (token terminal.LeftRound b ∷ before) (operand_at s w (suc d) h (more n) (frame.Round ∷ fs)) = hop (token terminal.LeftRound b) k refl refl in
    go (token terminal.RightRound f) (reads q_ base e s w (suc d) h (more n) (frame.Round ∷ fs) (token terminal.LeftRound b ∷ before) is (level_range e) opened) refl
    (ends_round q_ s w d (large e h) (count e (more n)) fs f (worth_of e) (spine e (frame.Round ∷ fs)) (closes e 12 (frame.Round ∷ fs) is (level_range e)))
reads q_ base (Un o p e) s w d h n fs before is room k =
    reads q_ base e s w d h (more n) (frame.Un o ∷ fs) (token (un_terminal o) p ∷ before) is.1 is.0 (reads_un q_ base s w d h n fs before o p k)
reads q_ base (Bin l o p r) s w d h n fs before is room k =
    let range : (2 ≤ op_level o) × (op_level o ≤ 11) = op_range o in
    let left : Reads q_ base (spell l before) (operator_at s w d (large l h) (count l n) (spine l fs)) = reads q_ base l s w d h n fs before is.2 (omega arith) k in
    let joined_ : Reads q_ base (token (bin_terminal o) p ∷ spell l before) (operand_at s w d (large l h) (more (count l n)) (frame.Bin o (worth_of l) ∷ fs)) =
    go (token (bin_terminal o) p) left (no_include o) (joins q_ s w d (large l h) (count l n) fs o p (worth_of l) (spine l fs)
    (closes l (op_level o) fs is.2 is.0 ∙ stays (op_level o) fs (worth_of l) range.0 range.1 room)) in
    reads q_ base r s w d (large l h) (more (count l n)) (frame.Bin o (worth_of l) ∷ fs) (token (bin_terminal o) p ∷ spell l before) is.3 (below_is (level r) (op_level o) is.1) joined_
reads q_ base (Cond c q a k b) s w d h n fs before is room g =
    let test : Reads q_ base (spell c before) (operator_at s w d (large c h) (count c n) (spine c fs)) = reads q_ base c s w d h n fs before is.1 (omega arith) g in
    let question : Reads q_ base (token terminal.Question q ∷ spell c before) (operand_at s w d (large c h) (more (count c n)) (frame.Cond (worth_of c) ∷ fs)) =
    go (token terminal.Question q) test refl (tests q_ s w d (large c h) (count c n) fs q (worth_of c) (spine c fs)
    (closes c 11 fs is.1 is.0 ∙ stays 11 fs (worth_of c) (omega arith) (omega arith) (omega arith))) in
    let first = reads q_ base a s w d (large c h) (more (count c n)) (frame.Cond (worth_of c) ∷ fs) (token terminal.Question q ∷ spell c before) is.2 (level_range a) question in
    let colon : Reads q_ base (token terminal.Colon k ∷ spell a (token terminal.Question q ∷ spell c before)) (operand_at s w d (large a (large c h)) (more (count a (more (count c n)))) (frame.Else (worth_of c) (worth_of a) ∷ fs)) =
    go (token terminal.Colon k) first refl (chooses q_ s w d (large a (large c h)) (count a (more (count c n))) fs k (worth_of c) (worth_of a) (spine a (frame.Cond (worth_of c) ∷ fs))
    (closes a 12 (frame.Cond (worth_of c) ∷ fs) is.2 (level_range a))) in
    reads q_ base b s w d (large a (large c h)) (more (count a (more (count c n)))) (frame.Else (worth_of c) (worth_of a) ∷ fs) (token terminal.Colon k ∷ spell a (token terminal.Question q ∷ spell c before)) is.3 (level_range b) colon
