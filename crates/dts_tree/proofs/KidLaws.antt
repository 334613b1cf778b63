-- The children of each node, with one draft more; and nodes from drafts, properties and children side by side.
use Rattle.std.proofs.Common.{◌≡◌, ◌∙◌, ◌+◌, ◌<◌, ◌≤◌, ◌++◌, ◌⊎◌, ◌∷◌, [], ℕ, zero, suc, Bool, true, false, cond, List, Option, Some, None, length, map, get_or, set, take, drop, replicate, refl, sym, ap, subst, inl, inr, arith}
use Rattle.std.specs.List.{range_with_len, enumerate_from}
use Rattle.std.proofs.lemmas.Bool.{cases_lt, cases_eq}
use Rattle.std.proofs.lemmas.Bool.Decides.{nat_tests}
use Rattle.std.proofs.lemmas.List.{take_more, length-take-le, length-set, length-map, append-nil, append_assoc, same_lists, get_or-set_same, get_or-set_other, get_or_past, set_past, get_or_default}
use Rattle.std.proofs.lemmas.List.FromFn.{length-map-range_with_len, get_or-map-range_with_len}
use Rattle.edt_base.specs.NodeData.{NodeData, holds_number}
use Rattle.edt_base.specs.declared.node.Part.{Part}
use Rattle.dts_tree.specs.Drafts.{DraftData}
use Rattle.dts_tree.specs.Final.{below_from, node_of, nodes_of}
use Rattle.dts_tree.specs.Inner.Nodes.{with_child, nodes_from}

push_by : (b c : Bool) (k n : ℕ) (xs ys zs : List ℕ) → zs ≡ xs ++ ys → cond b (k ∷ zs) zs ≡ cond b (k ∷ xs) xs ++ ys
push_by true c k n xs ys zs e = ap (λ t. k ∷ t) e
push_by false c k n xs ys zs e = e

below_push : (f : ℕ) (xs : List DraftData) (d : DraftData) (k : ℕ) → below_from f (xs ++ d ∷ []) k ≡ below_from f xs k ++ cond (holds_number k d.parent) ((f + length xs) ∷ []) []
below_push f [] d k = let e : f ≡ f + 0 = omega arith in ap (λ n. cond (holds_number k d.parent) (n ∷ []) []) e
below_push f (x ∷ xs) d k =
    let e : (f + 1) + length xs ≡ f + suc (length xs) = omega arith in
    push_by (holds_number k x.parent) true f 0 (below_from (f + 1) xs k) (cond (holds_number k d.parent) ((f + suc (length xs)) ∷ []) []) (below_from (f + 1) (xs ++ d ∷ []) k)
    (below_push (f + 1) xs d k ∙ ap (λ n. below_from (f + 1) xs k ++ cond (holds_number k d.parent) (n ∷ []) []) e)

below_more : (ds : List DraftData) (i : ℕ) (d : DraftData) (k : ℕ) → i < length ds → d ≡ get_or ds i d
    → below_from 0 (take (i + 1) ds) k ≡ below_from 0 (take i ds) k ++ cond (holds_number k d.parent) (i ∷ []) []
below_more ds i d k l at =
    let more : take (i + 1) ds ≡ take i ds ++ d ∷ [] = take_more ds i d l ∙ ap (λ x. take i ds ++ x ∷ []) (sym at) in
    let long : 0 + length (take i ds) ≡ i = let e : length (take i ds) ≡ i = length-take-le i ds (omega arith) in omega arith in
    ap (λ xs. below_from 0 xs k) more ∙ (below_push 0 (take i ds) d k ∙ ap (λ n. below_from 0 (take i ds) k ++ cond (holds_number k d.parent) (n ∷ []) []) long)

abbrev lists_of : List DraftData → ℕ → List (List ℕ)
lists_of ds n = map (below_from 0 ds) (range_with_len 0 n)

list_at : (ds : List DraftData) (n k : ℕ) (d : List ℕ) → k < n → get_or (lists_of ds n) k d ≡ below_from 0 ds k
list_at ds n k d l = get_or-map-range_with_len (below_from 0 ds) 0 n k k d l (omega arith)

lists_long : (ds : List DraftData) (n : ℕ) → length (lists_of ds n) ≡ n
lists_long ds n = length-map-range_with_len (below_from 0 ds) 0 n

other_none : (p k : ℕ) → (k ≡ p → ⊥) → holds_number k (Some p) ≡ false
other_none p k ne = grind (arith, nat_tests)

same_some : (p k : ℕ) → k ≡ p → holds_number k (Some p) ≡ true
same_some p k e = grind (arith, nat_tests)

child_at : (ds : List DraftData) (i : ℕ) (d : DraftData) (n p k : ℕ) → i < length ds → d ≡ get_or ds i d → d.parent ≡ Some p → k < n
    → get_or (set (lists_of (take i ds) n) p (get_or (lists_of (take i ds) n) p [] ++ i ∷ [])) k [] ≡ below_from 0 (take (i + 1) ds) k
child_at ds i d n p k l at up low =
    let long : length (lists_of (take i ds) n) ≡ n = lists_long (take i ds) n in
    elim (cases_eq k p) [
      | inl e ↦
          let lp : p < length (lists_of (take i ds) n) = omega arith in
          let a : get_or (set (lists_of (take i ds) n) p (get_or (lists_of (take i ds) n) p [] ++ i ∷ [])) p [] ≡ get_or (lists_of (take i ds) n) p [] ++ i ∷ [] =
          get_or-set_same (lists_of (take i ds) n) p (get_or (lists_of (take i ds) n) p [] ++ i ∷ []) [] lp in
          let b : get_or (lists_of (take i ds) n) p [] ++ i ∷ [] ≡ below_from 0 (take i ds) k ++ i ∷ [] =
          ap (λ xs. xs ++ i ∷ []) (list_at (take i ds) n p [] (omega arith) ∙ ap (below_from 0 (take i ds)) (sym e)) in
          let c : below_from 0 (take (i + 1) ds) k ≡ below_from 0 (take i ds) k ++ i ∷ [] =
          below_more ds i d k l at ∙ ap (λ t. below_from 0 (take i ds) k ++ cond t (i ∷ []) []) (ap (holds_number k) up ∙ same_some p k e) in
          ap (λ m. get_or (set (lists_of (take i ds) n) p (get_or (lists_of (take i ds) n) p [] ++ i ∷ [])) m []) e ∙ (a ∙ (b ∙ sym c))
      | inr ne ↦
          let a : get_or (set (lists_of (take i ds) n) p (get_or (lists_of (take i ds) n) p [] ++ i ∷ [])) k [] ≡ get_or (lists_of (take i ds) n) k [] =
          get_or-set_other (lists_of (take i ds) n) p k (get_or (lists_of (take i ds) n) p [] ++ i ∷ []) [] ne in
          let c : below_from 0 (take (i + 1) ds) k ≡ below_from 0 (take i ds) k =
          below_more ds i d k l at ∙ (ap (λ t. below_from 0 (take i ds) k ++ cond t (i ∷ []) []) (ap (holds_number k) up ∙ other_none p k ne) ∙ append-nil (below_from 0 (take i ds) k)) in
          a ∙ (list_at (take i ds) n k [] low ∙ sym c)
    ]

none_at : (ds : List DraftData) (i : ℕ) (d : DraftData) (k : ℕ) → i < length ds → d ≡ get_or ds i d → d.parent ≡ None
    → below_from 0 (take i ds) k ≡ below_from 0 (take (i + 1) ds) k
none_at ds i d k l at up =
    sym (below_more ds i d k l at ∙ (ap (λ t. below_from 0 (take i ds) k ++ cond t (i ∷ []) []) (ap (holds_number k) up) ∙ append-nil (below_from 0 (take i ds) k)))

lists_same : (old new : List DraftData) (n : ℕ) → ((k : ℕ) → below_from 0 old k ≡ below_from 0 new k) → lists_of old n ≡ lists_of new n
lists_same old new n h = maps (range_with_len 0 n)
  where
    maps : (xs : List ℕ) → map (below_from 0 old) xs ≡ map (below_from 0 new) xs
    maps [] = refl
    maps (x ∷ xs) = ap (λ t. below_from 0 old x ∷ t) (maps xs) ∙ ap (λ y. y ∷ map (below_from 0 new) xs) (h x)

more_by : (o : Option ℕ) (ds : List DraftData) (i : ℕ) (d : DraftData) (n : ℕ) → i < length ds → d ≡ get_or ds i d → d.parent ≡ o
    → with_child (lists_of (take i ds) n) o i ≡ lists_of (take (i + 1) ds) n
more_by None ds i d n l at up = lists_same (take i ds) (take (i + 1) ds) n (λ k. none_at ds i d k l at up)
more_by (Some p) ds i d n l at up =
    let long : length (set (lists_of (take i ds) n) p (get_or (lists_of (take i ds) n) p [] ++ i ∷ [])) ≡ n =
    length-set {A = List ℕ} (lists_of (take i ds) n) p (get_or (lists_of (take i ds) n) p [] ++ i ∷ []) ∙ lists_long (take i ds) n in
    same_lists (set (lists_of (take i ds) n) p (get_or (lists_of (take i ds) n) p [] ++ i ∷ [])) (lists_of (take (i + 1) ds) n)
    (long ∙ sym (lists_long (take (i + 1) ds) n))
    (λ k e low.
    let kn : k < n = subst (λ m. k < m) long low in
    get_or_default (set (lists_of (take i ds) n) p (get_or (lists_of (take i ds) n) p [] ++ i ∷ [])) k e [] low
    ∙ (child_at ds i d n p k l at up kn ∙ sym (list_at (take (i + 1) ds) n k e kn)))

-- the children of each, with one draft more
pub child_more : (ds : List DraftData) (i : ℕ) (d : DraftData) (n : ℕ) → i < length ds → d ≡ get_or ds i d
    → with_child (map (below_from 0 (take i ds)) (range_with_len 0 n)) d.parent i ≡ map (below_from 0 (take (i + 1) ds)) (range_with_len 0 n)
child_more ds i d n l at = more_by d.parent ds i d n l at refl

no_kids : (a n : ℕ) → replicate n [] ≡ map (below_from 0 []) (range_with_len a n)
no_kids a zero = refl
no_kids a (suc n) = ap (λ t. [] ∷ t) (no_kids (a + 1) n)

pub none_yet : (n : ℕ) → replicate n [] ≡ map (below_from 0 []) (range_with_len 0 n)
none_yet n = no_kids 0 n

-- ---- side by side

beside : (all : List DraftData) (whole : List (List (List ℕ × List Part))) (k : ℕ) (ds : List DraftData) (ps : List (List (List ℕ × List Part)))
    → length ps ≡ length ds → ((i : ℕ) → get_or ps i [] ≡ get_or whole (k + i) [])
    → nodes_from ds ps (map (below_from 0 all) (range_with_len k (length ds)))
    ≡ map (λ (e : ℕ × DraftData). node_of e.1 (get_or whole e.0 []) (below_from 0 all e.0)) (enumerate_from k ds)
beside all whole k [] ps long at = refl
beside all whole k (d ∷ ds) [] long at = absurd (omega arith)
beside all whole k (d ∷ ds) (p ∷ ps) long at =
    let e : k + 0 ≡ k = omega arith in
    let here : p ≡ get_or whole k [] = at 0 ∙ ap (λ n. get_or whole n []) e in
    let rest = beside all whole (k + 1) ds ps (omega arith) (λ i. let f : k + suc i ≡ (k + 1) + i = omega arith in at (suc i) ∙ ap (λ n. get_or whole n []) f) in
    ap (λ t. node_of d p (below_from 0 all k) ∷ t) rest
    ∙ ap (λ q. node_of d q (below_from 0 all k) ∷ map (λ (x : ℕ × DraftData). node_of x.1 (get_or whole x.0 []) (below_from 0 all x.0)) (enumerate_from (k + 1) ds)) here

pub nodes_beside : (ds : List DraftData) (props : List (List (List ℕ × List Part))) → length props ≡ length ds
    → nodes_from ds props (map (below_from 0 ds) (range_with_len 0 (length ds))) ≡ nodes_of ds props
unfolding nodes_of
nodes_beside ds props long = beside ds props 0 ds props long (λ i. let e : i ≡ 0 + i = omega arith in ap (λ n. get_or props n []) e)

-- one node more from the heads of the lists
pub node_more : (made : List NodeData) (ds ds2 : List DraftData) (ps ps2 : List (List (List ℕ × List Part))) (ks ks2 : List (List ℕ)) (d : DraftData)
    (p : List (List ℕ × List Part)) (k : List ℕ) (whole : List NodeData) → ds ≡ d ∷ ds2 → ps ≡ p ∷ ps2 → ks ≡ k ∷ ks2
    → made ++ nodes_from ds ps ks ≡ whole → (made ++ node_of d p k ∷ []) ++ nodes_from ds2 ps2 ks2 ≡ whole
node_more made ds ds2 ps ps2 ks ks2 d p k whole e f g h =
    append_assoc made (node_of d p k ∷ []) (nodes_from ds2 ps2 ks2)
    ∙ (ap (λ x. made ++ nodes_from x (p ∷ ps2) (k ∷ ks2)) (sym e)
    ∙ (ap (λ x. made ++ nodes_from ds x (k ∷ ks2)) (sym f)
    ∙ (ap (λ x. made ++ nodes_from ds ps x) (sym g) ∙ h)))

none_left : (ds : List DraftData) (ps : List (List (List ℕ × List Part))) (ks : List (List ℕ)) → ((ds ≡ []) ⊎ (ps ≡ [])) ⊎ (ks ≡ []) → nodes_from ds ps ks ≡ []
none_left [] ps ks h = refl
none_left (d ∷ ds) [] ks h = refl
none_left (d ∷ ds) (p ∷ ps) [] h = refl
none_left (d ∷ ds) (p ∷ ps) (k ∷ ks) (inl (inl h)) = cc
none_left (d ∷ ds) (p ∷ ps) (k ∷ ks) (inl (inr h)) = cc
none_left (d ∷ ds) (p ∷ ps) (k ∷ ks) (inr h) = cc

-- all nodes are made once a list ends
pub nodes_ended : (made : List NodeData) (ds : List DraftData) (ps : List (List (List ℕ × List Part))) (ks : List (List ℕ)) (whole : List NodeData)
    → ((ds ≡ []) ⊎ (ps ≡ [])) ⊎ (ks ≡ []) → made ++ nodes_from ds ps ks ≡ whole → made ≡ whole
nodes_ended made ds ps ks whole h e = sym (append-nil made) ∙ (ap (λ x. made ++ x) (sym (none_left ds ps ks h)) ∙ e)
