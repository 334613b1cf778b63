-- The nodes in preorder, each closing those that it doesn't stand in, give the text that follows the children.
use Rattle.std.proofs.Common.{◌≡◌, ◌∙◌, ◌==◌, ◌+◌, ◌-◌, ◌<◌, ◌≤◌, ◌++◌, ℕ, zero, suc, Bool, true, false, List, [], ◌∷◌, Option, Some, None, IsSomeAnd, codes, if◌then◌else◌, drop, length, nat_le, slice_get, option_and_then, unwrap_or, refl, sym, ap, subst, append_assoc, add-one, arith, length-append}
use Rattle.std.specs.List.{flat_map}
use Rattle.std.specs.Option.{option_map_or}
use Rattle.std.proofs.lemmas.Bool.{le-leb}
use Rattle.std.proofs.lemmas.Bool.Decides.{nat_tests}
use Rattle.std.proofs.lemmas.List.{append-nil}
use Rattle.std.proofs.lemmas.Option.{slice_get_within}
use Rattle.edt_base.specs.NodeData.{NodeData, holds_number}
use Rattle.edt_base.specs.TreeData.{TreeData, IsWellFormed, IsAtOrAbove, itself, further, children_from, children_of, parent_of}
use Rattle.edt_base.proofs.TreeLaws.{before}
use Rattle.dts_print.specs.Printed.{closing_text, node_text, opening_text, printed, prop_text}
use Rattle.dts_print.specs.Inner.Steps.{closings, depth_of, head_text, kept_open, text_from}

-- ---- a list from a place on

-- what stands from a place on begins with the node at that place
from_place : (nodes : List NodeData) (i : ℕ) (n : NodeData) → slice_get nodes i ≡ Some n → drop i nodes ≡ n ∷ drop (i + 1) nodes
from_place [] i n at = cc
from_place (m ∷ ms) zero n at = let e : m ≡ n = cc in ap (λ x. x ∷ ms) e
from_place (m ∷ ms) (suc i) n at = let e : suc i + 1 ≡ suc (i + 1) = omega arith in rw e (from_place ms i n at)

-- and the other way round
at_place : (nodes : List NodeData) (i : ℕ) (n : NodeData) (ns : List NodeData) → n ∷ ns ≡ drop i nodes → (slice_get nodes i ≡ Some n) × (ns ≡ drop (i + 1) nodes)
at_place [] zero n ns e = cc
at_place [] (suc i) n ns e = cc
at_place (m ∷ ms) zero n ns e = (let h : m ≡ n = cc in ap (λ x. Some x) h, cc)
at_place (m ∷ ms) (suc i) n ns e =
    let h = at_place ms i n ns e in
    let k : suc i + 1 ≡ suc (i + 1) = omega arith in
    (h.0, rw k h.1)

-- nothing stands from a place past the nodes on
past_all : (nodes : List NodeData) (i : ℕ) → slice_get nodes i ≡ None → drop i nodes ≡ []
past_all [] zero none = refl
past_all [] (suc i) none = refl
past_all (m ∷ ms) zero none = cc
past_all (m ∷ ms) (suc i) none = past_all ms i none

-- the parent of the node at a place
parent_is : (nodes : List NodeData) (i : ℕ) (n : NodeData) → slice_get nodes i ≡ Some n → parent_of nodes i ≡ n.parent
parent_is nodes i n at = ap (λ o. option_and_then (λ (m : NodeData). m.parent) o) at

-- ---- the text by parents

-- a node at a depth round what stands in it
abbrev around : ℕ → NodeData → List ℕ → List ℕ
around depth n inner = opening_text depth n ++ (flat_map (prop_text depth) n.props ++ (inner ++ closing_text depth))

-- those nodes whose parent is at a place, each with all that stands in it, among nodes from a place on
abbrev below : List NodeData → ℕ → ℕ → ℕ → List ℕ
below [] place parent depth = []
below (n ∷ ns) place parent depth =
    if holds_number parent n.parent then around depth n (below ns (place + 1) place (depth + 1)) ++ below ns (place + 1) parent depth
    else below ns (place + 1) parent depth

-- no earlier node is a child
one_on : (nodes : List NodeData) (k i : ℕ) → (parent_of nodes k ≡ Some i → ⊥) → children_from k (drop k nodes) i ≡ children_from (k + 1) (drop (k + 1) nodes) i
one_on nodes k i other = by_node (slice_get nodes k) refl
  where
    by_parent : (n : NodeData) (o : Option ℕ) → n.parent ≡ o → (o ≡ Some i → ⊥) → holds_number i n.parent ≡ false
    by_parent n None e h = ap (holds_number i) e
    by_parent n (Some p) e h = ap (holds_number i) e ∙ apart p (p == i) refl h
      where
        apart : (q : ℕ) (b : Bool) → (q == i) ≡ b → (Some q ≡ Some i → ⊥) → (q == i) ≡ false
        apart q true t g = let same : q ≡ i = grind (arith, nat_tests) in absurd (g (ap (λ x. Some x) same))
        apart q false t g = t

    by_node : (o : Option NodeData) → slice_get nodes k ≡ o → children_from k (drop k nodes) i ≡ children_from (k + 1) (drop (k + 1) nodes) i
    by_node None e =
        let here : drop k nodes ≡ [] = past_all nodes k e in
        let next : drop (k + 1) nodes ≡ [] = past_next nodes k e in
        rw (here, next) refl
      where
        past_next : (ms : List NodeData) (j : ℕ) → slice_get ms j ≡ None → drop (j + 1) ms ≡ []
        past_next [] zero none = refl
        past_next [] (suc j) none = let h : suc j + 1 ≡ suc (j + 1) = omega arith in rw h refl
        past_next (m ∷ ms) zero none = cc
        past_next (m ∷ ms) (suc j) none = let h : suc j + 1 ≡ suc (j + 1) = omega arith in rw h (past_next ms j none)
    by_node (Some n) e =
        let here : drop k nodes ≡ n ∷ drop (k + 1) nodes = from_place nodes k n e in
        let none : holds_number i n.parent ≡ false = by_parent n n.parent refl (λ is. other (parent_is nodes k n e ∙ is)) in
        ap (λ ms. children_from k ms i) here
        ∙ ap (λ (b : Bool). if b then k ∷ children_from (k + 1) (drop (k + 1) nodes) i else children_from (k + 1) (drop (k + 1) nodes) i) none

-- a node's children stand after it
after : (t : TreeData) → IsWellFormed t → (i k : ℕ) → k ≤ i + 1 → children_of t.nodes i ≡ children_from k (drop k t.nodes) i
after t well i zero within = refl
after t well i (suc k) within =
    let e : k + 1 ≡ suc k = add-one k in
    let early : parent_of t.nodes k ≡ Some i → ⊥ = λ up. let l : i < k = before t k i well up in absurd (omega arith) in
    after t well i k (omega arith) ∙ subst (λ m. children_from k (drop k t.nodes) i ≡ children_from m (drop m t.nodes) i) e (one_on t.nodes k i early)

-- the texts of children are what stands below
kids : (f : ℕ → List ℕ) (nodes : List NodeData) (parent depth : ℕ) (ms : List NodeData) (first : ℕ) → ms ≡ drop first nodes → parent < first
    → ((c : ℕ) (m : NodeData) → parent < c → slice_get nodes c ≡ Some m → f c ≡ around depth m (below (drop (c + 1) nodes) (c + 1) c (depth + 1)))
    → flat_map f (children_from first ms parent) ≡ below ms first parent depth
kids f nodes parent depth [] first at above each = refl
kids f nodes parent depth (m ∷ ms) first at above each =
    let here : (slice_get nodes first ≡ Some m) × (ms ≡ drop (first + 1) nodes) = at_place nodes first m ms at in
    let one : f first ≡ around depth m (below ms (first + 1) first (depth + 1)) =
    subst (λ ns. f first ≡ around depth m (below ns (first + 1) first (depth + 1))) (sym here.1) (each first m above here.0) in
    by_test (holds_number parent m.parent) one (kids f nodes parent depth ms (first + 1) here.1 (omega arith) each)
  where
    by_test : (b : Bool) → f first ≡ around depth m (below ms (first + 1) first (depth + 1)) → flat_map f (children_from (first + 1) ms parent) ≡ below ms (first + 1) parent depth
        → flat_map f (if b then first ∷ children_from (first + 1) ms parent else children_from (first + 1) ms parent)
        ≡ (if b then around depth m (below ms (first + 1) first (depth + 1)) ++ below ms (first + 1) parent depth else below ms (first + 1) parent depth)
    by_test true one rest = ap (λ text. text ++ flat_map f (children_from (first + 1) ms parent)) one ∙ ap (λ text. around depth m (below ms (first + 1) first (depth + 1)) ++ text) rest
    by_test false one rest = rest

-- a node's text by its children is that by parents
node_is : (t : TreeData) → IsWellFormed t → (levels depth id : ℕ) (n : NodeData) → slice_get t.nodes id ≡ Some n → length t.nodes ≤ levels + id
    → node_text levels t.nodes depth id ≡ around depth n (below (drop (id + 1) t.nodes) (id + 1) id (depth + 1))
node_is t well zero depth id n at enough = let l : id < length t.nodes = slice_get_within t.nodes id n at in absurd (omega arith)
node_is t well (suc levels) depth id n at enough =
    let children : n.children ≡ children_from (id + 1) (drop (id + 1) t.nodes) id =
    well.children id n at ∙ after t well id (id + 1) (omega arith) in
    let inner : flat_map (node_text levels t.nodes (depth + 1)) n.children ≡ below (drop (id + 1) t.nodes) (id + 1) id (depth + 1) =
    ap (flat_map (node_text levels t.nodes (depth + 1))) children
    ∙ kids (node_text levels t.nodes (depth + 1)) t.nodes id (depth + 1) (drop (id + 1) t.nodes) (id + 1) refl (omega arith)
    (λ c m above there. node_is t well levels (depth + 1) c m there (omega arith)) in
    ap (λ o. option_map_or (λ (node : NodeData). around depth node (flat_map (node_text levels t.nodes (depth + 1)) node.children)) o []) at
    ∙ ap (around depth n) inner

-- ---- what is left when nodes are open

-- the parent of a node, 0 where there is none
abbrev up : List NodeData → ℕ → ℕ
up nodes at = unwrap_or (parent_of nodes at) 0

-- so many nodes are open, the innermost at a place: what is left to be printed of each, among nodes from a place on
abbrev left : List NodeData → ℕ → List NodeData → ℕ → ℕ → List ℕ
left all place ns zero at = []
left all place ns (suc depth) at = below ns place at (suc depth) ++ (closing_text depth ++ left all place ns depth (up all at))

-- the node at a place stands in so many others
abbrev HasDepth : List NodeData → ℕ → ℕ → Type 0
HasDepth nodes zero at = parent_of nodes at ≡ None
HasDepth nodes (suc depth) at = (p : ℕ) × (parent_of nodes at ≡ Some p) × HasDepth nodes depth p

up_is : (nodes : List NodeData) (at p : ℕ) → parent_of nodes at ≡ Some p → up nodes at ≡ p
up_is nodes at p is = ap (λ o. unwrap_or o 0) is

-- a node at or above another isn't after it
not_after : (t : TreeData) → IsWellFormed t → (q i : ℕ) → IsAtOrAbove t.nodes q i → q ≤ i
not_after t well q i (itself j) = omega arith
not_after t well q i (further j p r is over) =
    let l : p < i = before t i p well is in
    let m : q ≤ p = not_after t well q p over in
    omega arith

above_both : (nodes : List NodeData) (a b c : ℕ) → IsAtOrAbove nodes a b → IsAtOrAbove nodes b c → IsAtOrAbove nodes a c
above_both nodes a b c high (itself j) = high
above_both nodes a b c high (further j p r is over) = further c p a is (above_both nodes a b p high over)

-- a node that a later node closes is above no node from there on
closed : (t : TreeData) → IsWellFormed t → (b p place : ℕ) → parent_of t.nodes place ≡ Some p → IsAtOrAbove t.nodes p b → (p ≡ b → ⊥) → b < place
    → (k : ℕ) → IsAtOrAbove t.nodes b (place + k) → ⊥
closed t well b p place is over other early zero above =
    let e : place + zero ≡ place = omega arith in first place refl (subst (λ j. IsAtOrAbove t.nodes b j) e above)
  where
    first : (i : ℕ) → i ≡ place → IsAtOrAbove t.nodes b i → ⊥
    first i at (itself j) = absurd (omega arith)
    first i at (further j q r up_q over_q) =
        let there : parent_of t.nodes i ≡ Some p = ap (parent_of t.nodes) at ∙ is in
        let same : q ≡ p = cc in
        let low : b ≤ p = subst (λ x. b ≤ x) same (not_after t well b q over_q) in
        let high : p ≤ b = not_after t well p b over in
        other (omega arith)
closed t well b p place is over other early (suc k) above =
    let e : place + suc k ≡ (place + k) + 1 = omega arith in
    next (closed t well b p place is over other early k) ((place + k) + 1) refl (subst (λ j. IsAtOrAbove t.nodes b j) e above)
  where
    by_node : (q : ℕ) (o : Option NodeData) → slice_get t.nodes ((place + k) + 1) ≡ o → option_and_then (λ (m : NodeData). m.parent) o ≡ Some q → IsAtOrAbove t.nodes q (place + k)
    by_node q None e h = cc
    by_node q (Some m) e h = well.preorder (place + k) q m e h

    next : (IsAtOrAbove t.nodes b (place + k) → ⊥) → (i : ℕ) → i ≡ (place + k) + 1 → IsAtOrAbove t.nodes b i → ⊥
    next earlier i at (itself j) = absurd (omega arith)
    next earlier i at (further j q r up_q over_q) =
        let there : parent_of t.nodes ((place + k) + 1) ≡ Some q = subst (λ x. parent_of t.nodes x ≡ Some q) at up_q in
        earlier (above_both t.nodes b q (place + k) over_q (by_node q (slice_get t.nodes ((place + k) + 1)) refl there))

-- so no node from there on stands in it
none_below : (t : TreeData) → IsWellFormed t → (b p place : ℕ) → parent_of t.nodes place ≡ Some p → IsAtOrAbove t.nodes p b → (p ≡ b → ⊥) → b < place
    → (ns : List NodeData) (k depth : ℕ) → ns ≡ drop (place + k) t.nodes → below ns (place + k) b depth ≡ []
none_below t well b p place is over other early [] k depth at = refl
none_below t well b p place is over other early (n ∷ ns) k depth at =
    let e : (place + k) + 1 ≡ place + suc k = omega arith in
    let rest : below ns ((place + k) + 1) b depth ≡ [] =
    subst (λ j. below ns j b depth ≡ []) (sym e)
    (none_below t well b p place is over other early ns (suc k) depth (subst (λ j. ns ≡ drop j t.nodes) e (at_place t.nodes (place + k) n ns at).1)) in
    ap (λ (v : Bool). if v then around depth n (below ns ((place + k) + 1) (place + k) (depth + 1)) ++ below ns ((place + k) + 1) b depth else below ns ((place + k) + 1) b depth) test
    ∙ rest
  where
    here : (slice_get t.nodes (place + k) ≡ Some n) × (ns ≡ drop ((place + k) + 1) t.nodes)
    here = at_place t.nodes (place + k) n ns at

    apart : (o : Option ℕ) → n.parent ≡ o → holds_number b o ≡ false
    apart None is_none = refl
    apart (Some q) is_some = by_test (q == b) refl
      where
        by_test : (v : Bool) → (q == b) ≡ v → (q == b) ≡ false
        by_test true v = let same : q ≡ b = grind (arith, nat_tests) in
            let up_b : parent_of t.nodes (place + k) ≡ Some b = parent_is t.nodes (place + k) n here.0 ∙ (is_some ∙ ap (λ x. Some x) same) in
            absurd (closed t well b p place is over other early k (further (place + k) b b up_b (itself b)))
        by_test false v = v

    test : holds_number b n.parent ≡ false
    test = apart n.parent refl

-- nodes close as far as the parent of the next
climb : (t : TreeData) → IsWellFormed t → (place p : ℕ) → parent_of t.nodes place ≡ Some p → (ns : List NodeData) → ns ≡ drop place t.nodes
    → (depth at : ℕ) → at < place → IsAtOrAbove t.nodes p at → HasDepth t.nodes depth at
    → (e : ℕ) × (e ≤ depth) × (kept_open t.nodes p (suc depth) at ≡ suc e) × HasDepth t.nodes e p
    × (left t.nodes place ns (suc depth) at ≡ closings (suc depth) (suc e) ++ left t.nodes place ns (suc e) p)
climb t well place p is ns from depth at early (itself i) has =
    let same : (i == i) ≡ true = grind (arith, nat_tests) in
    let none : nat_le (suc depth) depth ≡ false = grind (arith, nat_tests) in (
      depth,
      omega arith,
      ap (λ (b : Bool). if b then suc depth else kept_open t.nodes i depth (up t.nodes i)) same,
      has,
      sym (ap (λ (b : Bool). (if b then closing_text depth ++ closings depth (suc depth) else []) ++ left t.nodes place ns (suc depth) i) none),
    )
climb t well place p is ns from zero at early (further i q r over_q over) has = cc
climb t well place p is ns from (suc depth) at early (further i q r up_is_q over) has =
    let same : has.0 ≡ q = cc in
    let deep : HasDepth t.nodes depth q = subst (HasDepth t.nodes depth) same has.2 in
    let first : q < i = before t i q well up_is_q in
    let second : p ≤ q = not_after t well p q over in
    let apart : (i == p) ≡ false = grind (arith, nat_tests) in
    let more = climb t well place p is ns from depth q (omega arith) over deep in
    let e : ℕ = more.0 in
    let within : e ≤ depth = more.1 in
    let goes : nat_le (suc e) (suc depth) ≡ true = le-leb (suc e) (suc depth) (omega arith) in
    let zero_on : place + 0 ≡ place = omega arith in
    let none : below ns place i (suc (suc depth)) ≡ [] =
    subst (λ j. below ns j i (suc (suc depth)) ≡ []) zero_on
    (none_below t well i p place is (further i q p up_is_q over) (λ h. absurd (omega arith)) early ns 0 (suc (suc depth)) (subst (λ j. ns ≡ drop j t.nodes) (sym zero_on) from)) in (
      e,
      omega arith,
      ap (λ (b : Bool). if b then suc (suc depth) else kept_open t.nodes p (suc depth) (up t.nodes i)) apart
          ∙ (ap (kept_open t.nodes p (suc depth)) (up_is t.nodes i q up_is_q) ∙ more.2),
      more.3,
      ap (λ text. text ++ (closing_text (suc depth) ++ left t.nodes place ns (suc depth) (up t.nodes i))) none
          ∙ (ap (λ j. closing_text (suc depth) ++ left t.nodes place ns (suc depth) j) (up_is t.nodes i q up_is_q)
          ∙ (ap (λ text. closing_text (suc depth) ++ text) more.4
          ∙ (sym (append_assoc (closing_text (suc depth)) (closings (suc depth) (suc e)) (left t.nodes place ns (suc e) p))
          ∙ sym (ap (λ (b : Bool). (if b then closing_text (suc depth) ++ closings (suc depth) (suc e) else []) ++ left t.nodes place ns (suc e) p) goes)))),
    )

-- a node that isn't the parent has the same below it past a child of the parent
one_past : (place p b depth : ℕ) (n : NodeData) (ns : List NodeData) → n.parent ≡ Some p → b < p → below (n ∷ ns) place b depth ≡ below ns (place + 1) b depth
one_past place p b depth n ns is low =
    let apart : (p == b) ≡ false = grind (arith, nat_tests) in
    ap (λ (v : Bool). if v then around depth n (below ns (place + 1) place (depth + 1)) ++ below ns (place + 1) b depth else below ns (place + 1) b depth)
    (ap (holds_number b) is ∙ apart)

-- what is left of the nodes above a parent is the same past its child
others : (t : TreeData) → IsWellFormed t → (place p : ℕ) (n : NodeData) (ns : List NodeData) → n.parent ≡ Some p
    → (depth b : ℕ) → HasDepth t.nodes depth b → b < p → left t.nodes place (n ∷ ns) (suc depth) b ≡ left t.nodes (place + 1) ns (suc depth) b
others t well place p n ns is zero b has low =
    ap (λ text. text ++ (closing_text 0 ++ left t.nodes place (n ∷ ns) 0 (up t.nodes b))) (one_past place p b 1 n ns is low)
others t well place p n ns is (suc depth) b has low =
    let l : has.0 < b = before t b has.0 well has.1 in
    let deeper : left t.nodes place (n ∷ ns) (suc depth) (up t.nodes b) ≡ left t.nodes (place + 1) ns (suc depth) (up t.nodes b) =
    subst (λ j. left t.nodes place (n ∷ ns) (suc depth) j ≡ left t.nodes (place + 1) ns (suc depth) j) (sym (up_is t.nodes b has.0 has.1))
    (others t well place p n ns is depth has.0 has.2 (omega arith)) in
    ap (λ text. text ++ (closing_text (suc depth) ++ left t.nodes place (n ∷ ns) (suc depth) (up t.nodes b))) (one_past place p b (suc (suc depth)) n ns is low)
    ∙ ap (λ text. below ns (place + 1) b (suc (suc depth)) ++ (closing_text (suc depth) ++ text)) deeper

-- the next node is a child of the innermost open one
descend : (t : TreeData) → IsWellFormed t → (place p : ℕ) (n : NodeData) (ns : List NodeData) → n.parent ≡ Some p → parent_of t.nodes place ≡ Some p
    → (e : ℕ) → HasDepth t.nodes e p
    → left t.nodes place (n ∷ ns) (suc e) p ≡ head_text (suc e) n ++ left t.nodes (place + 1) ns (suc (suc e)) place
unfolding head_text
descend t well place p n ns is up_place e has =
    ap (λ text. text ++ (closing_text e ++ left t.nodes place (n ∷ ns) e (up t.nodes p))) here
    ∙ (ap (λ text. (around (suc e) n inner ++ below ns (place + 1) p (suc e)) ++ (closing_text e ++ text)) (above e has)
    ∙ (regroup (opening_text (suc e) n) (flat_map (prop_text (suc e)) n.props) inner (closing_text (suc e)) (below ns (place + 1) p (suc e)) (closing_text e ++ left t.nodes (place + 1) ns e (up t.nodes p))
    ∙ ap (λ j. (opening_text (suc e) n ++ flat_map (prop_text (suc e)) n.props) ++ (inner ++ (closing_text (suc e) ++ (below ns (place + 1) j (suc e) ++ (closing_text e ++ left t.nodes (place + 1) ns e (up t.nodes j)))))) (sym (up_is t.nodes place p up_place))))
  where
    inner : List ℕ
    inner = below ns (place + 1) place (suc (suc e))

    test : holds_number p n.parent ≡ true
    test = let same : (p == p) ≡ true = grind (arith, nat_tests) in ap (holds_number p) is ∙ same

    here : below (n ∷ ns) place p (suc e) ≡ around (suc e) n (below ns (place + 1) place (suc (suc e))) ++ below ns (place + 1) p (suc e)
    here = ap (λ (v : Bool). if v then around (suc e) n (below ns (place + 1) place (suc e + 1)) ++ below ns (place + 1) p (suc e) else below ns (place + 1) p (suc e)) test
        ∙ ap (λ d. around (suc e) n (below ns (place + 1) place d) ++ below ns (place + 1) p (suc e)) (add-one (suc e))

    above : (d : ℕ) → HasDepth t.nodes d p → left t.nodes place (n ∷ ns) d (up t.nodes p) ≡ left t.nodes (place + 1) ns d (up t.nodes p)
    above zero h = refl
    above (suc d) h =
        let l : h.0 < p = before t p h.0 well h.1 in
        subst (λ j. left t.nodes place (n ∷ ns) (suc d) j ≡ left t.nodes (place + 1) ns (suc d) j) (sym (up_is t.nodes p h.0 h.1))
        (others t well place p n ns is d h.0 h.2 l)

    regroup : (a b c d x y : List ℕ) → ((a ++ (b ++ (c ++ d))) ++ x) ++ y ≡ (a ++ b) ++ (c ++ (d ++ (x ++ y)))
    regroup a b c d x y = simp append_assoc

-- when no node is left, all that are open close
all_close : (t : TreeData) (place depth at : ℕ) → closings depth 0 ≡ left t.nodes place [] depth at
all_close t place zero at = refl
all_close t place (suc depth) at =
    let goes : nat_le 0 depth ≡ true = le-leb 0 depth (omega arith) in
    ap (λ (b : Bool). if b then closing_text depth ++ closings depth 0 else []) goes
    ∙ ap (λ text. closing_text depth ++ text) (all_close t place depth (up t.nodes at))

-- the text from a place on is what is left of the open nodes
walk : (t : TreeData) → IsWellFormed t → (ns : List NodeData) (at depth : ℕ) → ns ≡ drop (at + 1) t.nodes → HasDepth t.nodes depth at
    → text_from t.nodes (at + 1) (suc depth) ns ≡ left t.nodes (at + 1) ns (suc depth) at
walk t well [] at depth from has = all_close t (at + 1) (suc depth) at
walk t well (n ∷ ns) at depth from has = by_parent n.parent refl (λ e next. walk t well ns (at + 1) (suc e) here.1 next)
  where
    here : (slice_get t.nodes (at + 1) ≡ Some n) × (ns ≡ drop ((at + 1) + 1) t.nodes)
    here = at_place t.nodes (at + 1) n ns from

    by_parent : (o : Option ℕ) → n.parent ≡ o
        → ((e : ℕ) → HasDepth t.nodes (suc e) (at + 1) → text_from t.nodes ((at + 1) + 1) (suc (suc e)) ns ≡ left t.nodes ((at + 1) + 1) ns (suc (suc e)) (at + 1))
        → text_from t.nodes (at + 1) (suc depth) (n ∷ ns) ≡ left t.nodes (at + 1) (n ∷ ns) (suc depth) at
    by_parent None is later = let first : at + 1 ≡ 0 = well.alone (at + 1) n here.0 is in absurd (omega arith)
    by_parent (Some p) is later =
        let up_next : parent_of t.nodes (at + 1) ≡ Some p = parent_is t.nodes (at + 1) n here.0 ∙ is in
        let c = climb t well (at + 1) p up_next (n ∷ ns) from depth at (omega arith) (well.preorder at p n here.0 is) has in
        let e : ℕ = c.0 in
        let same : (at + 1) - 1 ≡ at = omega arith in
        let deep : depth_of t.nodes n.parent (suc depth) ((at + 1) - 1) ≡ suc e =
        ap (λ o. depth_of t.nodes o (suc depth) ((at + 1) - 1)) is ∙ (ap (kept_open t.nodes p (suc depth)) same ∙ c.2) in
        let next : HasDepth t.nodes (suc e) (at + 1) = (p, up_next, c.3) in
        ap (λ d. closings (suc depth) d ++ (head_text d n ++ text_from t.nodes ((at + 1) + 1) (d + 1) ns)) deep
        ∙ (ap (λ d. closings (suc depth) (suc e) ++ (head_text (suc e) n ++ text_from t.nodes ((at + 1) + 1) d ns)) (add-one (suc e))
        ∙ (ap (λ text. closings (suc depth) (suc e) ++ (head_text (suc e) n ++ text)) (later e next)
        ∙ (ap (λ text. closings (suc depth) (suc e) ++ text) (sym (descend t well (at + 1) p n ns is up_next e c.3)) ∙ sym c.4)))

-- the source is its first line, and the text from the root on
pub printed_is : (t : TreeData) → IsWellFormed t → printed t ≡ codes "/dts-v1/;\n" ++ text_from t.nodes 0 0 t.nodes
unfolding printed head_text
printed_is t well = ap (λ text. codes "/dts-v1/;\n" ++ text) (by_root (slice_get t.nodes 0) refl well.root)
  where
    by_root : (o : Option NodeData) → slice_get t.nodes 0 ≡ o → IsSomeAnd o (λ (n : NodeData). n.parent ≡ None)
        → node_text (length t.nodes) t.nodes 0 0 ≡ text_from t.nodes 0 0 t.nodes
    by_root None at root = absurd root
    by_root (Some n) at root =
        let ns : List NodeData = drop (0 + 1) t.nodes in
        let all : t.nodes ≡ n ∷ ns = from_place t.nodes 0 n at in
        let has : HasDepth t.nodes 0 0 = parent_is t.nodes 0 n at ∙ root in
        let text : List ℕ = below ns (0 + 1) 0 (0 + 1) in
        node_is t well (length t.nodes) 0 0 n at (omega arith)
        ∙ (sym (append_assoc (opening_text 0 n) (flat_map (prop_text 0) n.props) (text ++ closing_text 0))
        ∙ (ap (λ s. (opening_text 0 n ++ flat_map (prop_text 0) n.props) ++ (text ++ s)) (sym (append-nil (closing_text 0)))
        ∙ (ap (λ s. (opening_text 0 n ++ flat_map (prop_text 0) n.props) ++ s) (sym (walk t well ns 0 0 refl has))
        ∙ (ap (λ o. closings 0 (depth_of t.nodes o 0 0) ++ ((opening_text (depth_of t.nodes o 0 0) n ++ flat_map (prop_text (depth_of t.nodes o 0 0)) n.props) ++ text_from t.nodes (0 + 1) (depth_of t.nodes o 0 0 + 1) ns)) (sym root)
        ∙ ap (text_from t.nodes 0 0) (sym all)))))

pub printed_long : (t : TreeData) → IsWellFormed t → length (printed t) ≡ length (text_from t.nodes 0 0 t.nodes) + 10
printed_long t well = ap length (printed_is t well) ∙ (length-append (codes "/dts-v1/;\n") (text_from t.nodes 0 0 t.nodes) ∙ omega arith)
