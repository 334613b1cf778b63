-- The walk over lists of slots below slots.
use Rattle.std.proofs.Common.{◌≡◌, ◌∙◌, ◌+◌, ◌<◌, ◌≤◌, ◌++◌, ◌∷◌, [], ℕ, zero, suc, Bool, true, List, length, reverse, refl, sym, ap, subst, inl, inr, arith, ltb}
use Rattle.std.specs.List.{flat_map, list_all}
use Rattle.std.proofs.lemmas.Bool.{ltb-true}
use Rattle.std.proofs.lemmas.List.{append_assoc, reverse-append, reverse-reverse}
use Rattle.dts_tree.specs.Whole.{walk}
use Rattle.dts_tree.specs.Inner.Grown.{below_in, AreRising, order_of}
use Rattle.dts_tree.proofs.Lists.{Member, all_at, all_from, all_append, and_parts, and_both, member_right, member_left}

abbrev pub walk_at : List (List ℕ) → ℕ → List ℕ
walk_at lists i = walk (length lists) (below_in lists) i

pub flat_map_same : {X Y : Type 0} (f g : X → List Y) (xs : List X) → ((x : X) → Member x xs → f x ≡ g x) → flat_map f xs ≡ flat_map g xs
flat_map_same f g [] h = refl
flat_map_same f g (x ∷ xs) h = ap (λ t. t ++ flat_map f xs) (h x (inl refl)) ∙ ap (λ t. g x ++ t) (flat_map_same f g xs (λ y m. h y (inr m)))

pub flat_map-append : {X Y : Type 0} (f : X → List Y) (xs ys : List X) → flat_map f (xs ++ ys) ≡ flat_map f xs ++ flat_map f ys
flat_map-append f [] ys = refl
flat_map-append f (x ∷ xs) ys = ap (λ t. f x ++ t) (flat_map-append f xs ys) ∙ sym (append_assoc (f x) (flat_map f xs) (flat_map f ys))

-- levels enough are enough
pub walk_enough : (m k : ℕ) (lists : List (List ℕ)) → AreRising lists → (c : ℕ) → c < length lists → length lists ≤ m + c → length lists ≤ k + c
    → walk m (below_in lists) c ≡ walk k (below_in lists) c
walk_enough zero k lists r c l a b = absurd (omega arith)
walk_enough (suc m) zero lists r c l a b = absurd (omega arith)
walk_enough (suc m) (suc k) lists r c l a b =
    ap (λ t. c ∷ t) (flat_map_same (walk m (below_in lists)) (walk k (below_in lists)) (below_in lists c) (λ d e.
    let up : c < d = ltb-true c d (all_at (ltb c) (below_in lists c) d (r.above c) e) in
    let low : d < length lists = ltb-true d (length lists) (all_at (λ x. ltb x (length lists)) (below_in lists c) d (r.within c) e) in
    walk_enough m k lists r d low (omega arith) (omega arith)))

walk_unfold : (n : ℕ) (lists : List (List ℕ)) → AreRising lists → (i : ℕ) → i < length lists → length lists ≡ n
    → walk n (below_in lists) i ≡ i ∷ flat_map (walk n (below_in lists)) (below_in lists i)
walk_unfold zero lists r i l e = absurd (omega arith)
walk_unfold (suc m) lists r i l e =
    ap (λ t. i ∷ t) (flat_map_same (walk m (below_in lists)) (walk (suc m) (below_in lists)) (below_in lists i) (λ d k.
    let up : i < d = ltb-true i d (all_at (ltb i) (below_in lists i) d (r.above i) k) in
    let low : d < length lists = ltb-true d (length lists) (all_at (λ x. ltb x (length lists)) (below_in lists i) d (r.within i) k) in
    walk_enough m (suc m) lists r d low (omega arith) (omega arith)))

pub walk_is : (lists : List (List ℕ)) → AreRising lists → (i : ℕ) → i < length lists → walk_at lists i ≡ i ∷ flat_map (walk_at lists) (below_in lists i)
walk_is lists r i l = walk_unfold (length lists) lists r i l refl

reversed : (w : List ℕ) (i : ℕ) (ks : List ℕ) → reverse (w ++ reverse ks) ≡ ks ++ reverse w
reversed w i ks = reverse-append w (reverse ks) ∙ ap (λ t. t ++ reverse w) (reverse-reverse ks)

-- what the walks from those that wait give, a turn on
turned : (lists : List (List ℕ)) → AreRising lists → (waiting w next : List ℕ) (id : ℕ) → waiting ≡ w ++ id ∷ [] → next ≡ w ++ reverse (below_in lists id)
    → id < length lists → flat_map (walk_at lists) (reverse waiting) ≡ id ∷ flat_map (walk_at lists) (reverse next)
turned lists r waiting w next id whole rest l =
    let W : ℕ → List ℕ = walk_at lists in
    let front : reverse waiting ≡ id ∷ reverse w = ap reverse whole ∙ reverse-append w (id ∷ []) in
    let back : reverse next ≡ below_in lists id ++ reverse w = ap reverse rest ∙ reversed w id (below_in lists id) in
    ap (flat_map (walk_at lists)) front
    ∙ (ap (λ t. t ++ flat_map (walk_at lists) (reverse w)) (walk_is lists r id l)
    ∙ ap (λ t. id ∷ t) (sym (flat_map-append (walk_at lists) (below_in lists id) (reverse w)) ∙ ap (flat_map (walk_at lists)) (sym back)))

all_reverse : (f : ℕ → Bool) (xs : List ℕ) → list_all f xs ≡ true → list_all f (reverse xs) ≡ true
all_reverse f [] h = refl
all_reverse f (x ∷ xs) h =
    let p = and_parts (f x) (list_all f xs) h in
    subst (λ ys. list_all f ys ≡ true) (sym (reverse-append (x ∷ []) xs)) (all_append f (reverse xs) (x ∷ []) (all_reverse f xs p.1) (and_both (f x) true p.0 refl))

at_end : (n : ℕ) (waiting w : List ℕ) (id : ℕ) → waiting ≡ w ++ id ∷ [] → list_all (λ c. ltb c n) waiting ≡ true → (id < n) × (list_all (λ c. ltb c n) w ≡ true)
at_end n waiting w id whole h =
    let both : list_all (λ c. ltb c n) (w ++ id ∷ []) ≡ true = subst (λ xs. list_all (λ c. ltb c n) xs ≡ true) whole h in (
      ltb-true id n (all_at (λ c. ltb c n) (w ++ id ∷ []) id both (member_right id w (id ∷ []) (inl refl))),
      all_from (λ c. ltb c n) w (λ x m. all_at (λ c. ltb c n) (w ++ id ∷ []) x both (member_left x w (id ∷ []) m)),
    )

pub walk_turn : (lists : List (List ℕ)) → AreRising lists → (out put waiting w next : List ℕ) (id : ℕ) → waiting ≡ w ++ id ∷ [] → put ≡ out ++ id ∷ []
    → next ≡ w ++ reverse (below_in lists id) → out ++ flat_map (walk_at lists) (reverse waiting) ≡ order_of lists → list_all (λ c. ltb c (length lists)) waiting ≡ true
    → (put ++ flat_map (walk_at lists) (reverse next) ≡ order_of lists) × (list_all (λ c. ltb c (length lists)) next ≡ true)
walk_turn lists r out put waiting w next id whole more rest h b =
    let low = at_end (length lists) waiting w id whole b in (
      ap (λ t. t ++ flat_map (walk_at lists) (reverse next)) more
          ∙ (append_assoc out (id ∷ []) (flat_map (walk_at lists) (reverse next))
          ∙ (ap (λ t. out ++ t) (sym (turned lists r waiting w next id whole rest low.0)) ∙ h)),
      subst (λ xs. list_all (λ c. ltb c (length lists)) xs ≡ true) (sym rest)
          (all_append (λ c. ltb c (length lists)) w (reverse (below_in lists id)) low.1 (all_reverse (λ c. ltb c (length lists)) (below_in lists id) (r.within id))),
    )

pub walk_less : (lists : List (List ℕ)) → AreRising lists → (waiting w next : List ℕ) (id : ℕ) → waiting ≡ w ++ id ∷ []
    → next ≡ w ++ reverse (below_in lists id) → list_all (λ c. ltb c (length lists)) waiting ≡ true
    → length (flat_map (walk_at lists) (reverse next)) < length (flat_map (walk_at lists) (reverse waiting))
walk_less lists r waiting w next id whole rest b =
    let low = at_end (length lists) waiting w id whole b in
    let e : length (flat_map (walk_at lists) (reverse waiting)) ≡ suc (length (flat_map (walk_at lists) (reverse next))) = ap length (turned lists r waiting w next id whole rest low.0) in
    omega arith
