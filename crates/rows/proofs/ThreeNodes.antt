-- A tree of three nodes, each in the one before it, on which the tests stand.
use Rattle.std.proofs.Common.{◌≡◌, ◌∙◌, ◌+◌, ◌<◌, ◌∷◌, [], ℕ, zero, suc, true, List, Option, Some, None, codes, length, slice_get, option_and_then, refl, sym, ap, subst, arith}
use Rattle.std.specs.List.{All}
use Rattle.std.proofs.lemmas.List.Elements.{All-nil, All-cons, All-more, All-weaker}
use Rattle.std.proofs.Common.{◌≤◌, take, slice_index_or}
use Rattle.std.proofs.lemmas.List.{take_all}
use Rattle.std.proofs.lemmas.Option.{same_Some}
use Rattle.edt_base.specs.NodeData.{NodeData, prop_of, has_label, phandle_of, one_cell}
use Rattle.edt_base.specs.SourceNames.{is_node_name}
use Rattle.edt_base.specs.TreeData.{IsWellFormed, IsAtOrAbove, itself, IsKindOf, children_of, child_path}
use Rattle.edt_base.specs.declared.node.Kind.{Kind}
use Rattle.edt_base.specs.declared.node.Kind.TheVariants as kind
use Rattle.edt_base.specs.declared.node.Part.{Part}
use Rattle.rows.specs.ThreeNodes.{Props, node_of, top_of, middle_of, low_of, IsPlainPart, ArePlainParts, IsPlain, IsWellFormedAlone}

-- the nodes and their places
cases3 : (P : ℕ → NodeData → Type 0) (a b c : NodeData) → P 0 a → P 1 b → P 2 c → (i : ℕ) (n : NodeData) → slice_get (a ∷ b ∷ c ∷ []) i ≡ Some n → P i n
cases3 P a b c p q r zero n at = subst (P 0) (same_Some a n at) p
cases3 P a b c p q r (suc zero) n at = subst (P 1) (same_Some b n at) q
cases3 P a b c p q r (suc (suc zero)) n at = subst (P 2) (same_Some c n at) r
cases3 P a b c p q r (suc (suc (suc i))) n at = cc

plain_kind : (nodes : List NodeData) (k : Kind) (bytes : List ℕ) → IsPlainPart k bytes → IsKindOf nodes k bytes
plain_kind nodes kind.Str bytes h = h
plain_kind nodes kind.Hex bytes h = tt
plain_kind nodes kind.Cells bytes h = absurd h
plain_kind nodes kind.Wide bytes h = absurd h
plain_kind nodes kind.Path bytes h = absurd h

abbrev Kinds : List NodeData → List ℕ × List Part → Type 0
Kinds nodes p = All (λ (part : Part). IsKindOf nodes part.kind part.bytes) p.1

plain_kinds : (nodes : List NodeData) (ps : Props) → IsPlain ps → All (λ (p : List ℕ × List Part). All (λ (part : Part). IsKindOf nodes part.kind part.bytes) p.1) ps
plain_kinds nodes ps h =
    All-weaker (λ (p : List ℕ × List Part). All (λ (part : Part). IsPlainPart part.kind part.bytes) p.1) (λ (p : List ℕ × List Part). All (λ (part : Part). IsKindOf nodes part.kind part.bytes) p.1)
    (λ p all. All-weaker (λ (part : Part). IsPlainPart part.kind part.bytes) (λ (part : Part). IsKindOf nodes part.kind part.bytes)
    (λ part plain. plain_kind nodes part.kind part.bytes plain) p.1 all) ps h.kinds

no_phandle : (o : Option (List Part)) (number : ℕ) → o ≡ None → option_and_then one_cell o ≡ Some number → ⊥
no_phandle None number e h = cc
no_phandle (Some x) number e h = cc

same_place : (nodes : List NodeData) (k p i : ℕ) → k ≡ p → k ≡ i → IsAtOrAbove nodes p i
same_place nodes k p i e f = subst (λ x. IsAtOrAbove nodes x i) e (subst (λ x. IsAtOrAbove nodes k x) f (itself k))

path_of_child : (nodes : List NodeData) (k p : ℕ) (up over : NodeData) (name path : List ℕ) → k ≡ p → slice_get nodes k ≡ Some up → slice_get nodes p ≡ Some over
    → path ≡ child_path up name → path ≡ child_path over name
path_of_child nodes k p up over name path e f g h =
    let s : Some up ≡ Some over = sym f ∙ (ap (slice_get nodes) e ∙ g) in
    subst (λ x. path ≡ child_path x name) (same_Some up over s) h

-- the tree of three nodes with such properties is well formed
pub three_well_formed : (top middle low : Props) → IsPlain top → IsPlain middle → IsPlain low
    → IsWellFormed (record { nodes = top_of top ∷ middle_of middle ∷ low_of low ∷ []; aliases = []; chosen = [] })
unfolding node_of top_of middle_of low_of
three_well_formed top middle low t m l = record {
  few = omega arith;
  root = refl;
  alone = cases3 (λ i n. n.parent ≡ None → i ≡ 0) a b c (λ h. refl) (λ h. cc) (λ h. cc);
  preorder = λ i p n at up. cases3 (λ j n. j ≡ i + 1 → n.parent ≡ Some p → IsAtOrAbove (a ∷ b ∷ c ∷ []) p i) a b c
      (λ e h. absurd (omega arith))
      (λ e h. same_place (a ∷ b ∷ c ∷ []) 0 p i (same_Some 0 p h) (omega arith))
      (λ e h. same_place (a ∷ b ∷ c ∷ []) 1 p i (same_Some 1 p h) (omega arith))
      (i + 1) n at refl up;
  children = cases3 (λ i n. n.children ≡ children_of (a ∷ b ∷ c ∷ []) i) a b c refl refl refl;
  root_name = cases3 (λ i n. n.parent ≡ None → n.name ≡ codes "/") a b c (λ h. refl) (λ h. cc) (λ h. cc);
  names = λ i p n. cases3 (λ i n. n.parent ≡ Some p → is_node_name n.name ≡ true) a b c (λ h. cc) (λ h. refl) (λ h. refl) i n;
  root_path = cases3 (λ i n. n.parent ≡ None → n.path ≡ codes "/") a b c (λ h. refl) (λ h. cc) (λ h. cc);
  child_paths = λ i p n over at up found. cases3 (λ i n. n.parent ≡ Some p → n.path ≡ child_path over n.name) a b c
      (λ h. cc)
      (λ h. path_of_child (a ∷ b ∷ c ∷ []) 0 p a over (codes "b") (codes "/b") (same_Some 0 p h) refl found refl)
      (λ h. path_of_child (a ∷ b ∷ c ∷ []) 1 p b over (codes "e") (codes "/b/e") (same_Some 1 p h) refl found refl)
      i n at up;
  parents_in = λ i p n. cases3 (λ i n. n.parent ≡ Some p → p < 3) a b c
      (λ h. cc) (λ h. let e : 0 ≡ p = same_Some 0 p h in omega arith) (λ h. let e : 1 ≡ p = same_Some 1 p h in omega arith) i n;
  children_in = cases3 (λ i n. All (λ k. k < 3) n.children) a b c
      (All-cons (λ k. k < 3) 1 [] (omega arith) (All-nil (λ k. k < 3))) (All-cons (λ k. k < 3) 2 [] (omega arith) (All-nil (λ k. k < 3))) (All-nil (λ k. k < 3));
  aliases_in = All-nil (λ (x : List ℕ × ℕ). x.1 < 3);
  chosen_in = All-nil (λ (x : List ℕ × ℕ). x.1 < 3);
  paths_apart = λ i j n o at other. cases3 (λ i n. n.path ≡ o.path → i ≡ j) a b c
      (cases3 (λ j o. codes "/" ≡ o.path → 0 ≡ j) a b c (λ h. refl) (λ h. cc) (λ h. cc) j o other)
      (cases3 (λ j o. codes "/b" ≡ o.path → 1 ≡ j) a b c (λ h. cc) (λ h. refl) (λ h. cc) j o other)
      (cases3 (λ j o. codes "/b/e" ≡ o.path → 2 ≡ j) a b c (λ h. cc) (λ h. cc) (λ h. refl) j o other) i n at;
  labels_apart = λ i j n o label at other had. absurd (cases3 (λ i n. has_label label n ≡ true → ⊥) a b c (λ h. cc) (λ h. cc) (λ h. cc) i n at had);
  phandles_apart = λ i j n o number at other had. absurd (cases3 (λ i n. phandle_of n ≡ Some number → ⊥) a b c
      (no_phandle (prop_of (codes "phandle") top) number t.phandle) (no_phandle (prop_of (codes "phandle") middle) number m.phandle) (no_phandle (prop_of (codes "phandle") low) number l.phandle) i n at had);
  kinds = cases3 (λ i n. All (Kinds (a ∷ b ∷ c ∷ [])) n.props) a b c
      (plain_kinds (a ∷ b ∷ c ∷ []) top t) (plain_kinds (a ∷ b ∷ c ∷ []) middle m) (plain_kinds (a ∷ b ∷ c ∷ []) low l);
}
  where
    a : NodeData
    a = node_of (codes "/") (codes "/") None (1 ∷ []) top

    b : NodeData
    b = node_of (codes "b") (codes "/b") (Some 0) (2 ∷ []) middle

    c : NodeData
    c = node_of (codes "e") (codes "/b/e") (Some 1) [] low

pub plain_more : (parts : List Part) (i : ℕ) (p : Part) → i < length parts → p ≡ slice_index_or parts i p → ArePlainParts (take i parts) → IsPlainPart p.kind p.bytes → ArePlainParts (take (i + 1) parts)
plain_more parts i p within e all plain =
    let P : Part → Type 0 = λ part. IsPlainPart part.kind part.bytes in
    All-more P parts i p within all (subst P e plain)

pub plain_all : (parts : List Part) (i : ℕ) → length parts ≤ i → ArePlainParts (take i parts) → ArePlainParts parts
plain_all parts i past all = subst ArePlainParts (take_all i parts past) all

pub are_well_formed : (nodes : List NodeData) (top middle low : Props) → nodes ≡ top_of top ∷ middle_of middle ∷ low_of low ∷ [] → IsPlain top → IsPlain middle → IsPlain low
    → IsWellFormedAlone nodes
unfolding IsWellFormedAlone
are_well_formed nodes top middle low e t m l =
    subst (λ ns. IsWellFormed (record { nodes = ns; aliases = []; chosen = [] })) (sym e) (three_well_formed top middle low t m l)

pub well_formed_alone : (nodes : List NodeData) → IsWellFormedAlone nodes → IsWellFormed (record { nodes = nodes; aliases = []; chosen = [] })
unfolding IsWellFormedAlone
well_formed_alone nodes h = h

pub alone_with : (nodes : List NodeData) (aliases chosen : List (List ℕ × ℕ)) → IsWellFormedAlone nodes → aliases ≡ [] → chosen ≡ [] → IsWellFormed (record { nodes = nodes; aliases = aliases; chosen = chosen })
alone_with nodes aliases chosen h e f =
    subst (λ xs. IsWellFormed (record { nodes = nodes; aliases = xs; chosen = chosen })) (sym e)
    (subst (λ xs. IsWellFormed (record { nodes = nodes; aliases = []; chosen = xs })) (sym f) (well_formed_alone nodes h))
