-- Nodes by their paths, and the first place of a list that grows.
use Rattle.std.proofs.Common.{◌≡◌, ◌∙◌, ◌+◌, ◌<◌, ◌≤◌, ◌++◌, ◌∷◌, [], ℕ, Bool, true, false, not, cond, List, Option, Some, None, length, get_or, take, refl, sym, ap, subst, inl, inr, arith, eqb, ltb}
use Rattle.std.specs.Prelude.{position}
use Rattle.std.specs.Option.{option_or}
use Rattle.std.specs.List.{position_or_len}
use Rattle.std.specs.Str.{bytes_eq}
use Rattle.std.proofs.lemmas.Bool.{cases_lt}
use Rattle.std.proofs.lemmas.Bool.Decides.{nat_tests}
use Rattle.std.proofs.lemmas.List.{take_more, length-take-le, length_push}
use Rattle.std.proofs.lemmas.List.Folds.{position_or_len_push}
use Rattle.std.proofs.lemmas.List.Sums.{prefix_len-le-length}
use Rattle.dts_tree.specs.Drafts.{DraftData}
use Rattle.dts_tree.specs.Final.{has_draft_path, node_at}
use Rattle.dts_tree.proofs.PropLaws.{bytes_same}

or_none : {X : Type 0} (o : Option X) → o ≡ option_or o None
or_none None = refl
or_none (Some x) = refl

note_by : (b : Bool) (f : List ℕ → Option ℕ) (path q : List ℕ) (place : ℕ) → bytes_eq path q ≡ b → f path ≡ None
    → cond b (Some place) (f q) ≡ option_or (f q) (cond b (Some place) None)
note_by true f path q place e none =
    let n : f q ≡ None = ap f (sym (bytes_same path q e)) ∙ none in
    sym (ap (λ o. option_or o (Some place)) n)
note_by false f path q place e none = or_none (f q)

-- a look-up after one path more
pub noted : (f : List ℕ → Option ℕ) (path q : List ℕ) (place : ℕ) → f path ≡ None
    → cond (bytes_eq path q) (Some place) (f q) ≡ option_or (f q) (cond (bytes_eq path q) (Some place) None)
noted f path q place none = note_by (bytes_eq path q) f path q place refl none

place_within : {X : Type 0} (p : X → Bool) (xs : List X) → position_or_len p xs ≤ length xs
place_within p xs = prefix_len-le-length (λ x. not (p x)) xs

push_by : (b : Bool) (n m k l : ℕ) → n ≤ m → k ≡ cond (eqb n m) (m + cond b 0 1) n → l ≡ m + 1
    → cond (ltb k l) (Some k) None ≡ option_or (cond (ltb n m) (Some n) None) (cond b (Some m) None)
push_by b n m k l low e f = elim (cases_lt n m) [
  | inl lt ↦
      let t : ltb n m ≡ true = grind (arith, nat_tests) in
      let z : eqb n m ≡ false = grind (arith, nat_tests) in
      let same : k ≡ n = e ∙ ap (λ c. cond c (m + cond b 0 1) n) z in
      let u : ltb k l ≡ true = grind (arith, nat_tests) in
      ap (λ c. cond c (Some k) None) u ∙ (ap Some same ∙ sym (ap (λ c. option_or (cond c (Some n) None) (cond b (Some m) None)) t))
  | inr ge ↦
      let t : ltb n m ≡ false = grind (arith, nat_tests) in
      let z : eqb n m ≡ true = grind (arith, nat_tests) in
      let same : k ≡ m + cond b 0 1 = e ∙ ap (λ c. cond c (m + cond b 0 1) n) z in
      last b m k l same f ∙ sym (ap (λ c. option_or (cond c (Some n) None) (cond b (Some m) None)) t)
]
  where
    last : (b : Bool) (m k l : ℕ) → k ≡ m + cond b 0 1 → l ≡ m + 1 → cond (ltb k l) (Some k) None ≡ cond b (Some m) None
    last true m k l e f =
        let s : k ≡ m = omega arith in
        let u : ltb k l ≡ true = grind (arith, nat_tests) in
        ap (λ c. cond c (Some k) None) u ∙ ap Some s
    last false m k l e f =
        let u : ltb k l ≡ false = grind (arith, nat_tests) in
        ap (λ c. cond c (Some k) None) u

position_push : {X : Type 0} (p : X → Bool) (xs : List X) (y : X) → position p (xs ++ y ∷ []) ≡ option_or (position p xs) (cond (p y) (Some (length xs)) None)
position_push p xs y =
    push_by (p y) (position_or_len p xs) (length xs) (position_or_len p (xs ++ y ∷ [])) (length (xs ++ y ∷ []))
    (place_within p xs) (position_or_len_push p xs y) (length_push xs y)

-- the nodes by their paths, with one draft more
pub node_at_more : (ds : List DraftData) (i : ℕ) (d : DraftData) (path : List ℕ) → i < length ds → d ≡ get_or ds i d
    → node_at (take (i + 1) ds) path ≡ option_or (node_at (take i ds) path) (cond (bytes_eq d.path path) (Some i) None)
node_at_more ds i d path l at =
    let more : take (i + 1) ds ≡ take i ds ++ d ∷ [] = take_more ds i d l ∙ ap (λ x. take i ds ++ x ∷ []) (sym at) in
    let long : length (take i ds) ≡ i = length-take-le i ds (omega arith) in
    ap (λ xs. node_at xs path) more
    ∙ (position_push (has_draft_path path) (take i ds) d
    ∙ ap (λ n. option_or (node_at (take i ds) path) (cond (bytes_eq d.path path) (Some n) None)) long)
