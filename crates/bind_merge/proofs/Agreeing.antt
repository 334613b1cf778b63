-- Tests of equality, and what they tell.
use Rattle.std.proofs.Common.{◌≡◌, ◌&&◌, ◌↔◌, IsTrue, ◌∙◌, sym, ap, refl, subst, ℕ, Bool, true, false, List, [], ◌∷◌, Some, None, map, length, nat_eq, suc, arith}
use Rattle.std.proofs.lemmas.Bool.Decides.{Decides-eqb}
use Rattle.std.specs.Str.{bytes_eq}
use Rattle.std.specs.Cmp.{signed_Decides}
use Rattle.std.specs.Cmp.Lexicographic.{pointwise, pointwise_decides, bytes_decides}
use Rattle.edt_base.specs.declared.yaml.Yaml.{Yaml}
use Rattle.edt_base.specs.YamlData.{value_of, pair_of, pairs_from, items_from, Value, a_map, a_list, a_text, a_number, a_truth, null, other, Items, end, item, Pairs, last, pair}
use Rattle.bind_merge.specs.Same.{same, same_items, same_pairs, same_list, same_truth, pairs_in, items_in}

and-true : (a b : Bool) → (a && b) ≡ true → (a ≡ true) × (b ≡ true)
and-true true b e = (refl, e)
and-true false b e = absurd cc

both-true : (a b : Bool) → a ≡ true → b ≡ true → (a && b) ≡ true
both-true true b e f = f
both-true false b e f = absurd cc

truth-is : (b c : Bool) → same_truth b c ≡ true → b ≡ c
truth-is true true e = refl
truth-is true false e = absurd cc
truth-is false true e = absurd cc
truth-is false false e = refl

mutual
  pub same-is : (v w : Value) → same v w ≡ true → v ≡ w
  same-is (a_map ps) (a_map qs) e = ap a_map (same_pairs-is ps qs e)
  same-is (a_list xs) (a_list ys) e = ap a_list (same_items-is xs ys e)
  same-is (a_text s) (a_text t) e = ap a_text ((bytes_decides s t).0 e)
  same-is (a_number m) (a_number n) e = ap a_number ((signed_Decides m n).0 e)
  same-is (a_truth b) (a_truth c) e = ap a_truth (truth-is b c e)
  same-is null null e = refl
  same-is other other e = refl
  same-is _ _ e = absurd cc

  pub same_items-is : (xs ys : Items) → same_items xs ys ≡ true → xs ≡ ys
  same_items-is end end e = refl
  same_items-is end (item w ys) e = absurd cc
  same_items-is (item v xs) end e = absurd cc
  same_items-is (item v xs) (item w ys) e =
      let h : (same v w ≡ true) × (same_items xs ys ≡ true) = and-true (same v w) (same_items xs ys) e in
      let first : v ≡ w = same-is v w h.0 in
      let rest : xs ≡ ys = same_items-is xs ys h.1 in cc

  pub same_pairs-is : (ps qs : Pairs) → same_pairs ps qs ≡ true → ps ≡ qs
  same_pairs-is last last e = refl
  same_pairs-is last (pair l w qs) e = absurd cc
  same_pairs-is (pair k v ps) last e = absurd cc
  same_pairs-is (pair k v ps) (pair l w qs) e =
      let h : (bytes_eq k l ≡ true) × ((same v w && same_pairs ps qs) ≡ true) = and-true (bytes_eq k l) (same v w && same_pairs ps qs) e in
      let g : (same v w ≡ true) × (same_pairs ps qs ≡ true) = and-true (same v w) (same_pairs ps qs) h.1 in
      let name : k ≡ l = (bytes_decides k l).0 h.0 in
      let first : v ≡ w = same-is v w g.0 in
      let rest : ps ≡ qs = same_pairs-is ps qs g.1 in cc

mutual
  pub same-itself : (v : Value) → same v v ≡ true
  same-itself (a_map ps) = same_pairs-itself ps
  same-itself (a_list xs) = same_items-itself xs
  same-itself (a_text s) = (bytes_decides s s).1 refl
  same-itself (a_number n) = (signed_Decides n n).1 refl
  same-itself (a_truth true) = refl
  same-itself (a_truth false) = refl
  same-itself null = refl
  same-itself other = refl

  pub same_items-itself : (xs : Items) → same_items xs xs ≡ true
  same_items-itself end = refl
  same_items-itself (item v xs) = both-true (same v v) (same_items xs xs) (same-itself v) (same_items-itself xs)

  pub same_pairs-itself : (ps : Pairs) → same_pairs ps ps ≡ true
  same_pairs-itself last = refl
  same_pairs-itself (pair k v ps) =
      both-true (bytes_eq k k) (same v v && same_pairs ps ps) ((bytes_decides k k).1 refl)
      (both-true (same v v) (same_pairs ps ps) (same-itself v) (same_pairs-itself ps))

pub values_agree : (v w : Value) (r : Bool) → r ≡ same v w → IsTrue r ↔ (v ≡ w)
values_agree v w r e = (λ t. same-is v w (sym e ∙ t), λ is. e ∙ subst (λ x. same v x ≡ true) is (same-itself v))

same_list-is : (vs ws : List Value) → same_list vs ws ≡ true → vs ≡ ws
same_list-is [] [] e = refl
same_list-is [] (w ∷ ws) e = absurd cc
same_list-is (v ∷ vs) [] e = absurd cc
same_list-is (v ∷ vs) (w ∷ ws) e =
    let h : (same v w ≡ true) × (same_list vs ws ≡ true) = and-true (same v w) (same_list vs ws) e in
    let first : v ≡ w = same-is v w h.0 in
    let rest : vs ≡ ws = same_list-is vs ws h.1 in cc

same_list-itself : (vs : List Value) → same_list vs vs ≡ true
same_list-itself [] = refl
same_list-itself (v ∷ vs) = both-true (same v v) (same_list vs vs) (same-itself v) (same_list-itself vs)

pub lists_agree : (v w : List Value) (r : Bool) → r ≡ same_list v w → IsTrue r ↔ (v ≡ w)
lists_agree v w r e = (λ t. same_list-is v w (sym e ∙ t), λ is. e ∙ subst (λ x. same_list v x ≡ true) is (same_list-itself v))

pub names_agree : (v w : List (List ℕ)) (r : Bool) → r ≡ pointwise bytes_eq v w → IsTrue r ↔ (v ≡ w)
names_agree v w r e = (λ t. (pointwise_decides bytes_decides v w).0 (sym e ∙ t), λ is. e ∙ (pointwise_decides bytes_decides v w).1 is)

pub same_no_map : (ps : Pairs) (w : Value) → pairs_in w ≡ None → same (a_map ps) w ≡ false
same_no_map ps (a_map qs) e = absurd cc
same_no_map ps _ e = refl

pub same_map : (ps qs : Pairs) (w : Value) → pairs_in w ≡ Some qs → same (a_map ps) w ≡ same_pairs ps qs
same_map ps qs (a_map rs) e = let h : rs ≡ qs = cc in ap (same_pairs ps) h
same_map ps qs (a_list _) e = absurd cc
same_map ps qs (a_text _) e = absurd cc
same_map ps qs (a_number _) e = absurd cc
same_map ps qs (a_truth _) e = absurd cc
same_map ps qs null e = absurd cc
same_map ps qs other e = absurd cc

pub same_no_list : (ps : Items) (w : Value) → items_in w ≡ None → same (a_list ps) w ≡ false
same_no_list ps (a_list qs) e = absurd cc
same_no_list ps _ e = refl

pub same_items_in : (ps qs : Items) (w : Value) → items_in w ≡ Some qs → same (a_list ps) w ≡ same_items ps qs
same_items_in ps qs (a_list rs) e = let h : rs ≡ qs = cc in ap (same_items ps) h
same_items_in ps qs (a_map _) e = absurd cc
same_items_in ps qs (a_text _) e = absurd cc
same_items_in ps qs (a_number _) e = absurd cc
same_items_in ps qs (a_truth _) e = absurd cc
same_items_in ps qs null e = absurd cc
same_items_in ps qs other e = absurd cc

pub ruleset same_parts = (same_no_map, same_map, same_no_list, same_items_in)

not-empty : (n : ℕ) → false ≡ nat_eq (suc n) 0
not-empty n = sym (at (nat_eq (suc n) 0) refl)
  where
    at : (b : Bool) → nat_eq (suc n) 0 ≡ b → nat_eq (suc n) 0 ≡ false
    at true e = absurd (let z : suc n ≡ 0 = (Decides-eqb (suc n) 0).0 e in omega arith)
    at false e = e

pub empty_pairs : (ys : List (List ℕ × Yaml)) → same_pairs last (pairs_from (map pair_of ys)) ≡ nat_eq (length ys) 0
empty_pairs [] = refl
empty_pairs (y ∷ ys) = not-empty (length ys)

pub empty_items : (ys : List Yaml) → same_items end (items_from (map value_of ys)) ≡ nat_eq (length ys) 0
empty_items [] = refl
empty_items (y ∷ ys) = not-empty (length ys)
