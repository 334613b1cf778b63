-- What an operator closes, as trees.
use Rattle.std.proofs.Common.{◌≡◌, ◌<◌, ◌≤◌, ℕ, zero, suc, Bool, true, false, List, refl, ◌∙◌, nat_le, arith}
use Rattle.std.proofs.lemmas.Bool.{leb-true, leb-false}
use Rattle.dts_parse.specs.Exprs.{Tree, Un, Bin, Cond, IsProper, Waiting, Start, In_round, In_un, In_bin, In_cond, In_else, AreProper, below, count, count_waiting, large, large_waiting, level, room, rounds, spell, spell_waiting, worth_of}
use Rattle.dts_parse.specs.Inner.Machine.{climbed}
use Rattle.dts_parse.specs.Token.{Token, op_level}
use Rattle.dts_parse.specs.Worth.{bin, cond}
use Rattle.dts_parse.specs.declared.mode.Frame.TheVariants as frame
use Rattle.dts_parse.proofs.ExprReads.{below_is, climbed_none, climbed_some, op_range}
use Rattle.dts_parse.proofs.Kept.{frames_of}

-- the innermost case is not closed by an operator of this level
abbrev pub Holds : ℕ → Waiting → Type 0
Holds p Start = Unit {0}
Holds p (In_round x b) = Unit {0}
Holds p (In_un x o q) = ⊥
Holds p (In_bin x l o q) = p < op_level o
Holds p (In_cond x c q) = Unit {0}
Holds p (In_else x c q a k) = p < 12

pub record Climb (p : ℕ) (x : Waiting) (e : Tree) : Type 0 where
  pub y : Waiting
  pub u : Tree
  pub climbs : climbed p (frames_of x) (worth_of e) ≡ record { left = frames_of y; worth = worth_of u }
  pub spells : (before : List Token) → spell u (spell_waiting y before) ≡ spell e (spell_waiting x before)
  pub rounds_same : (n : ℕ) → rounds y n ≡ rounds x n
  pub counts : (n : ℕ) → count u (count_waiting y n) ≡ count e (count_waiting x n)
  pub larges : large u (large_waiting y) ≡ large e (large_waiting x)
  pub proper : AreProper y
  pub is : IsProper u
  pub low : level u ≤ p
  pub fits : level u ≤ room y
  pub holds : Holds p y

below_under : (n m : ℕ) → 1 ≤ m → n ≤ below m → n < m
below_under n zero h k = omega arith
below_under n (suc m) h k = omega arith

pub climb : (p : ℕ) (x : Waiting) (e : Tree) → 1 ≤ p → AreProper x → IsProper e → level e ≤ p → level e ≤ room x → Climb p x e
climb p Start e one proper is low fits = record { y = Start; u = e; climbs = refl; spells = λ _. refl; rounds_same = λ _. refl; counts = λ _. refl; larges = refl; proper = proper; is = is; low = low; fits = fits; holds = tt }
climb p (In_round x b) e one proper is low fits =
    record { y = In_round x b; u = e; climbs = refl; spells = λ _. refl; rounds_same = λ _. refl; counts = λ _. refl; larges = refl; proper = proper; is = is; low = low; fits = fits; holds = tt }
climb p (In_cond x c q) e one proper is low fits =
    record { y = In_cond x c q; u = e; climbs = refl; spells = λ _. refl; rounds_same = λ _. refl; counts = λ _. refl; larges = refl; proper = proper; is = is; low = low; fits = fits; holds = tt }
climb p (In_un x o q) e one proper is low fits =
    let r : Climb p x (Un o q e) = climb p x (Un o q e) one proper.1 (fits, is) one proper.0 in
    record { y = r.y; u = r.u; climbs = r.climbs; spells = r.spells; rounds_same = r.rounds_same; counts = r.counts; larges = r.larges; proper = r.proper; is = r.is; low = r.low; fits = r.fits; holds = r.holds }
climb p (In_bin x l o q) e one proper is low fits = by_level (nat_le (op_level o) p) refl (λ h. climb p x (Bin l o q e) one proper.3 (proper.1, below_under (level e) (op_level o) (let range : (2 ≤ op_level o) × (op_level o ≤ 11) = op_range o in omega arith) fits, proper.2, is) h proper.0)
  where
    by_level : (b : Bool) → nat_le (op_level o) p ≡ b → (op_level o ≤ p → Climb p x (Bin l o q e)) → Climb p (In_bin x l o q) e
    by_level true t up =
        let r : Climb p x (Bin l o q e) = up (leb-true (op_level o) p t) in
        record {
          y = r.y;
          u = r.u;
          climbs = climbed_some p (frame.Bin o (worth_of l)) (frames_of x) (worth_of e) (bin o (worth_of l) (worth_of e)) (rw t refl) ∙ r.climbs;
          spells = r.spells;
          rounds_same = r.rounds_same;
          counts = r.counts;
          larges = r.larges;
          proper = r.proper;
          is = r.is;
          low = r.low;
          fits = r.fits;
          holds = r.holds;
        }
    by_level false t up =
        record {
          y = In_bin x l o q;
          u = e;
          climbs = climbed_none p (frame.Bin o (worth_of l)) (frames_of x) (worth_of e) (rw t refl);
          spells = λ _. refl;
          rounds_same = λ _. refl;
          counts = λ _. refl;
          larges = refl;
          proper = proper;
          is = is;
          low = low;
          fits = fits;
          holds = leb-false (op_level o) p t;
        }
climb p (In_else x c q a k) e one proper is low fits = by_level (nat_le 12 p) refl (λ h. climb p x (Cond c q a k e) one proper.4 (proper.1, proper.2, proper.3, is) h proper.0)
  where
    by_level : (b : Bool) → nat_le 12 p ≡ b → (12 ≤ p → Climb p x (Cond c q a k e)) → Climb p (In_else x c q a k) e
    by_level true t up =
        let r : Climb p x (Cond c q a k e) = up (leb-true 12 p t) in
        record {
          y = r.y;
          u = r.u;
          climbs = climbed_some p (frame.Else (worth_of c) (worth_of a)) (frames_of x) (worth_of e) (cond (worth_of c) (worth_of a) (worth_of e)) (rw t refl) ∙ r.climbs;
          spells = r.spells;
          rounds_same = r.rounds_same;
          counts = r.counts;
          larges = r.larges;
          proper = r.proper;
          is = r.is;
          low = r.low;
          fits = r.fits;
          holds = r.holds;
        }
    by_level false t up =
        record {
          y = In_else x c q a k;
          u = e;
          climbs = climbed_none p (frame.Else (worth_of c) (worth_of a)) (frames_of x) (worth_of e) (rw t refl);
          spells = λ _. refl;
          rounds_same = λ _. refl;
          counts = λ _. refl;
          larges = refl;
          proper = proper;
          is = is;
          low = low;
          fits = fits;
          holds = leb-false 12 p t;
        }

-- where a case is not closed, an operator of that level may stand
pub room_left : (p : ℕ) (y : Waiting) → p ≤ 11 → Holds p y → p ≤ room y
room_left p Start h k = omega arith
room_left p (In_round x b) h k = omega arith
room_left p (In_un x o q) h k = absurd k
room_left p (In_bin x l o q) h k = below_is p (op_level o) k
room_left p (In_cond x c q) h k = omega arith
room_left p (In_else x c q a d) h k = omega arith

pub room_whole : (y : Waiting) → Holds 11 y → 12 ≤ room y
room_whole Start k = omega arith
room_whole (In_round x b) k = omega arith
room_whole (In_un x o q) k = absurd k
room_whole (In_bin x l o q) k = let range : (2 ≤ op_level o) × (op_level o ≤ 11) = op_range o in absurd (omega arith)
room_whole (In_cond x c q) k = omega arith
room_whole (In_else x c q a d) k = omega arith

pub room_some : (x : Waiting) → 1 ≤ room x
room_some Start = omega arith
room_some (In_round x b) = omega arith
room_some (In_un x o q) = omega arith
room_some (In_bin x l o q) = let range : (2 ≤ op_level o) × (op_level o ≤ 11) = op_range o in below_is 1 (op_level o) (omega arith)
room_some (In_cond x c q) = omega arith
room_some (In_else x c q a k) = omega arith
