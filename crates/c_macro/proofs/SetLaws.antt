-- Sets of names under a table that grows.
use Rattle.std.proofs.Common.{◌≡◌, ℕ, zero, suc, ◌+◌, ◌<◌, ◌≤◌, Bool, true, false, ◌&&◌, ◌||◌, cond, nat_eq, List, [], ◌∷◌, length, Option, Some, None, refl, sym, ap, subst, ◌∙◌, arith, inl, inr}
use Rattle.std.proofs.lemmas.Bool.{cases_Bool, cases_eq, eq-eqb, ne_eqb, eqb-true, false_from_ne_true}
use Rattle.std.proofs.lemmas.Slice.Eq.{bytes_eq-Decides}
use Rattle.std.specs.Map.{lookup}
use Rattle.std.specs.Ordering.{is_eq, nat_cmp}
use Rattle.std.specs.Cmp.Lexicographic.{slice_cmp}
use Rattle.std.proofs.lemmas.Map.Text.{is_eq-slice_cmp}
use Rattle.std.specs.Str.{bytes_eq}
use Rattle.c_macro.specs.declared.numbers.Node.{Node}
use Rattle.c_macro.specs.NumberData.{Numbers, no_numbers, with_number, either_numbers, common_numbers, numbers_of, sets_count, Extends, AllBelow}
use Rattle.c_macro.specs.Marked.{Bars, no_bars, with_bar, either_bars, common_bars}
use Rattle.c_macro.specs.SetData.{SetTable, number_in, has_number, bars_of, set_count, Grown, AreNumbered, Named}
use Rattle.c_macro.proofs.NumberLaws.{none_is, numbers_keep, extends_longer}

pub grown_refl : (s : SetTable) → Grown s s
grown_refl s = record { more = omega arith; same = λ k h. refl }

pub grown_trans : (a b c : SetTable) → Grown a b → Grown b c → Grown a c
grown_trans a b c g h = record { more = let x = g.more in let y = h.more in omega (arith, x, y); same = λ k l. h.same k (let x = g.more in omega (arith, x, l)) ∙ g.same k l }

pub grown_longer : (a b : SetTable) → Grown a b → set_count a ≤ set_count b
grown_longer a b g = g.more

pub bars_grow : (a b : SetTable) (k : ℕ) → Grown a b → k < set_count a → bars_of b k ≡ bars_of a k
bars_grow a b k g h = g.same k h

-- ---- names and their numbers

abbrev bars_by : Numbers → List (List ℕ × ℕ) → Bars
bars_by set numbers = λ name. has_number set (lookup (bytes_eq name) numbers)

none_has : (o : Option ℕ) → has_number no_numbers o ≡ false
none_has None = refl
none_has (Some n) = refl

pub empty_is : (s : SetTable) → bars_of s 0 ≡ no_bars
empty_is s = ap (λ (t : Numbers). bars_by t s.numbers) (none_is s.nodes) ∙ (λ i name. none_has (number_in s name) i)

-- more sets of numbers, with the same names
pub sets_grow : (s t : SetTable) → Extends s.nodes t.nodes → t.numbers ≡ s.numbers → Grown s t
sets_grow s t x e = record {
  more = extends_longer s.nodes t.nodes x;
  same = λ k h. ap (λ (set : Numbers). bars_by set t.numbers) (numbers_keep s.nodes t.nodes k x h) ∙ ap (bars_by (numbers_of s.nodes k)) e;
}

either_has : (x y : Numbers) (o : Option ℕ) → has_number (either_numbers x y) o ≡ has_number x o || has_number y o
either_has x y None = refl
either_has x y (Some n) = refl

common_has : (x y : Numbers) (o : Option ℕ) → has_number (common_numbers x y) o ≡ has_number x o && has_number y o
common_has x y None = refl
common_has x y (Some n) = refl

pub either_is : (s t : SetTable) (a b r : ℕ) → t.numbers ≡ s.numbers → numbers_of t.nodes r ≡ either_numbers (numbers_of s.nodes a) (numbers_of s.nodes b) → bars_of t r ≡ either_bars (bars_of s a) (bars_of s b)
either_is s t a b r e h =
    ap (bars_by (numbers_of t.nodes r)) e
    ∙ (ap (λ (set : Numbers). bars_by set s.numbers) h ∙ (λ i name. either_has (numbers_of s.nodes a) (numbers_of s.nodes b) (number_in s name) i))

pub common_is : (s t : SetTable) (a b r : ℕ) → t.numbers ≡ s.numbers → numbers_of t.nodes r ≡ common_numbers (numbers_of s.nodes a) (numbers_of s.nodes b) → bars_of t r ≡ common_bars (bars_of s a) (bars_of s b)
common_is s t a b r e h =
    ap (bars_by (numbers_of t.nodes r)) e
    ∙ (ap (λ (set : Numbers). bars_by set s.numbers) h ∙ (λ i name. common_has (numbers_of s.nodes a) (numbers_of s.nodes b) (number_in s name) i))

eq_bytes : (a b : List ℕ) → a ≡ b → bytes_eq a b ≡ true
eq_bytes a b e = (bytes_eq-Decides a b).1 e

same_bytes : (a b : List ℕ) → bytes_eq a b ≡ true → a ≡ b
same_bytes a b h = (bytes_eq-Decides a b).0 h

-- a number is that of a name where it is the name's number
number_test : (s : SetTable) (name other : List ℕ) (k n : ℕ) → AreNumbered s.numbers s.nodes → number_in s name ≡ Some k → number_in s other ≡ Some n → nat_eq n k ≡ bytes_eq other name
number_test s name other k n w hk hn = elim (cases_eq n k) [
  | inl e ↦ eq-eqb n k e ∙ sym (w.apart other name k (hn ∙ ap Some e) hk)
  | inr e ↦ ne_eqb n k e ∙ sym (false_from_ne_true (bytes_eq other name) (λ b. e (let c : Some n ≡ Some k = sym hn ∙ (ap (number_in s) (same_bytes other name b) ∙ hk) in cc)))
]

with_has : (s : SetTable) (x : Numbers) (name other : List ℕ) (k : ℕ) (o : Option ℕ) → AreNumbered s.numbers s.nodes → number_in s name ≡ Some k → number_in s other ≡ o
    → has_number (with_number x k) o ≡ bytes_eq other name || has_number x o
with_has s x name other k None w hk ho =
    let f : bytes_eq other name ≡ false = false_from_ne_true (bytes_eq other name) (λ b. let c : None ≡ Some k = sym ho ∙ (ap (number_in s) (same_bytes other name b) ∙ hk) in cc) in rw f refl
with_has s x name other k (Some n) w hk ho = ap (λ b. b || x n) (number_test s name other k n w hk ho)

pub with_is : (s t : SetTable) (set r k : ℕ) (name : List ℕ) → AreNumbered s.numbers s.nodes → t.numbers ≡ s.numbers → number_in s name ≡ Some k → numbers_of t.nodes r ≡ with_number (numbers_of s.nodes set) k
    → bars_of t r ≡ with_bar (bars_of s set) name
with_is s t set r k name w e hk h =
    ap (bars_by (numbers_of t.nodes r)) e
    ∙ (ap (λ (x : Numbers). bars_by x s.numbers) h ∙ (λ i other. with_has s (numbers_of s.nodes set) name other k (number_in s other) w hk refl i))

-- ---- a name is numbered

fresh : (s : SetTable) (k n : ℕ) → AreNumbered s.numbers s.nodes → n ≡ length s.numbers + 1 → numbers_of s.nodes k n ≡ false
fresh s k n w e = false_from_ne_true (numbers_of s.nodes k n) (λ h. let l = w.sets k n h in omega (arith, l, e))

named_has : (s : SetTable) (new : List (List ℕ × ℕ)) (name other : List ℕ) (k number : ℕ) → AreNumbered s.numbers s.nodes → Named s.numbers new name number
    → has_number (numbers_of s.nodes k) (lookup (bytes_eq other) new) ≡ has_number (numbers_of s.nodes k) (number_in s other)
named_has s new name other k number w n = elim (cases_Bool (bytes_eq name other)) [
  | inl e ↦
      let a : lookup (bytes_eq other) new ≡ Some number = n.updates other ∙ rw e refl in
      let b : number_in s other ≡ None = ap (number_in s) (sym (same_bytes name other e)) ∙ n.absent in
      ap (has_number (numbers_of s.nodes k)) a ∙ (fresh s k number w n.next ∙ sym (ap (has_number (numbers_of s.nodes k)) b))
  | inr e ↦ ap (has_number (numbers_of s.nodes k)) (n.updates other ∙ rw e refl)
]

pub names_grow : (s t : SetTable) (name : List ℕ) (number : ℕ) → AreNumbered s.numbers s.nodes → t.nodes ≡ s.nodes → Named s.numbers t.numbers name number → Grown s t
names_grow s t name number w e n = record {
  more = let l : set_count t ≡ set_count s = ap sets_count e in omega (arith, l);
  same = λ k h. ap (λ (ns : List Node). bars_by (numbers_of ns k) t.numbers) e ∙ (λ i other. named_has s t.numbers name other k number w n i);
}

pub named_number : (numbers new : List (List ℕ × ℕ)) (name : List ℕ) (number : ℕ) → Named numbers new name number → lookup (bytes_eq name) new ≡ Some number
named_number numbers new name number n = n.updates name ∙ ap (λ b. cond b (Some number) (lookup (bytes_eq name) numbers)) (eq_bytes name name refl)

pub named_numbered : (numbers new : List (List ℕ × ℕ)) (nodes : List Node) (name : List ℕ) (number : ℕ) → AreNumbered numbers nodes → Named numbers new name number → AreNumbered new nodes
named_numbered numbers new nodes name number w n = record {
  below = λ q k h. elim (cases_Bool (bytes_eq name q)) [
    | inl e ↦ let c : Some number ≡ Some k = sym (n.updates q ∙ rw e refl) ∙ h in let d : number ≡ k = cc in let z = n.next in let m = n.one_more in omega (arith, d, z, m)
    | inr e ↦ let l = w.below q k (sym (n.updates q ∙ rw e refl) ∙ h) in let m = n.one_more in omega (arith, l, m)
  ];
  apart = λ a b k ha hb. elim (cases_Bool (bytes_eq name a)) [
    | inl e ↦ elim (cases_Bool (bytes_eq name b)) [
      | inl f ↦ eq_bytes a b (sym (same_bytes name a e) ∙ same_bytes name b f)
      | inr f ↦
          let c : Some number ≡ Some k = sym (n.updates a ∙ rw e refl) ∙ ha in let d : number ≡ k = cc in let z = n.next in
          let l = w.below b k (sym (n.updates b ∙ rw f refl) ∙ hb) in absurd (omega (arith, d, z, l))
    ]
    | inr e ↦ elim (cases_Bool (bytes_eq name b)) [
      | inl f ↦
          let c : Some number ≡ Some k = sym (n.updates b ∙ rw f refl) ∙ hb in let d : number ≡ k = cc in let z = n.next in
          let l = w.below a k (sym (n.updates a ∙ rw e refl) ∙ ha) in absurd (omega (arith, d, z, l))
      | inr f ↦ w.apart a b k (sym (n.updates a ∙ rw e refl) ∙ ha) (sym (n.updates b ∙ rw f refl) ∙ hb)
    ]
  ];
  sets = λ k i h. let l = w.sets k i h in let m = n.one_more in omega (arith, l, m);
}

pub numbered_more : (numbers : List (List ℕ × ℕ)) (old new : List Node) → AreNumbered numbers old → (AllBelow (length numbers + 1) old → AllBelow (length numbers + 1) new) → AreNumbered numbers new
numbered_more numbers old new w h = record { below = w.below; apart = w.apart; sets = h w.sets }

pub number_below : (s : SetTable) (name : List ℕ) (n : ℕ) → AreNumbered s.numbers s.nodes → number_in s name ≡ Some n → n < length s.numbers + 1
number_below s name n w h = w.below name n h

pub numbered_first : (numbers : List (List ℕ × ℕ)) (nodes : List Node) → numbers ≡ [] → nodes ≡ [] → AreNumbered numbers nodes
numbered_first numbers nodes e f = record {
  below = λ name n h. let c : None ≡ Some n = sym (ap (λ (ns : List (List ℕ × ℕ)). lookup (bytes_eq name) ns) e) ∙ h in cc;
  apart = λ a b n h k. let c : None ≡ Some n = sym (ap (λ (ns : List (List ℕ × ℕ)). lookup (bytes_eq a) ns) e) ∙ h in cc;
  sets = λ k n h. let z : length numbers ≡ 0 = ap length e in let l = first_below k n (sym (ap (λ (ns : List Node). numbers_of ns k n) f) ∙ h) in omega (arith, z, l);
}
  where
    first_below : (k n : ℕ) → numbers_of [] k n ≡ true → n < 1
    first_below zero n h = let c : false ≡ true = h in cc
    first_below (suc zero) n h = let z = eqb-true n 0 h in omega (arith, z)
    first_below (suc (suc k)) n h = let c : false ≡ true = h in cc

-- ---- the table of a tree

pub tree_test : (q k : List ℕ) → is_eq (slice_cmp nat_cmp q k) ≡ bytes_eq q k
tree_test q k = is_eq-slice_cmp q k

pub tree_get : {X : Type 0} (q : List ℕ) (es : List (List ℕ × X)) → lookup (λ k. is_eq (slice_cmp nat_cmp q k)) es ≡ lookup (bytes_eq q) es
tree_get q es = ap (λ (t : List ℕ → Bool). lookup t es) (λ i k. is_eq-slice_cmp q k i)

-- the entry of a name in a tree is set
pub tree_sets : {X : Type 0} (old new : List (List ℕ × X)) (name : List ℕ) (o : Option X)
    → ((q : List ℕ) → lookup (λ k. is_eq (slice_cmp nat_cmp q k)) new ≡ cond (is_eq (slice_cmp nat_cmp name q)) o (lookup (λ k. is_eq (slice_cmp nat_cmp q k)) old))
    → (q : List ℕ) → lookup (bytes_eq q) new ≡ cond (bytes_eq name q) o (lookup (bytes_eq q) old)
tree_sets old new name o h q = sym (tree_get q new) ∙ (h q ∙ (ap (λ b. cond b o (lookup (λ k. is_eq (slice_cmp nat_cmp q k)) old)) (tree_test name q) ∙ ap (cond (bytes_eq name q) o) (tree_get q old)))
