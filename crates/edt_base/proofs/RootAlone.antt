-- A tree can be made and bound: that of the root alone, to which nothing is bound.
use Rattle.std.proofs.Common.{◌≡◌, ◌∙◌, ◌+◌, ℕ, zero, suc, ◌<◌, List, [], ◌∷◌, length, map, Some, None, codes, refl, sym, ap, subst, arith}
use Rattle.std.specs.Cmp.Lexicographic.{slice_cmp}
use Rattle.std.specs.declared.cmp.Ordering.{Ordering}
use Rattle.std.specs.List.{All, Contains, slice_get}
use Rattle.std.specs.List.Sorted.{IsStrictlyIncreasing, IsStrictlySortedBy}
use Rattle.std.specs.Ordering.{nat_cmp}
use Rattle.std.proofs.lemmas.List.Elements.{All-nil, All-cons, All-same}
use Rattle.std.proofs.lemmas.List.Sorted.{IsPermutation-refl}
use Rattle.edt_base.specs.declared.node.Part.{Part}
use Rattle.edt_base.specs.EntryData.{EntryData}
use Rattle.edt_base.specs.PropData.{PropData, IsTyped}
use Rattle.edt_base.specs.NodeData.{NodeData}
use Rattle.edt_base.specs.TreeData.{TreeData, IsWellFormed, IsKindOf}
use Rattle.edt_base.specs.BoundNodeData.{BoundNodeData, IsBoundNode}
use Rattle.edt_base.specs.BoundData.{IsBound}
use Rattle.edt_base.specs.Instances.{AreInstances, IsInst}

-- a list of one has its element at 0 alone
only : {X : Type 0} (x : X) (i : ℕ) (y : X) → slice_get (x ∷ []) i ≡ Some y → (i ≡ 0) × (x ≡ y)
only x zero y e = (refl, cc)
only x (suc i) y e = cc

-- a root with neither labels nor properties
pub record IsBareRoot (n : NodeData) : Type 0 where
  pub parent : n.parent ≡ None
  pub name : n.name ≡ codes "/"
  pub path : n.path ≡ codes "/"
  pub children : n.children ≡ []
  pub props : n.props ≡ []

pub root_alone : (n : NodeData) → IsBareRoot n → IsWellFormed (record { nodes = n ∷ []; aliases = []; chosen = [] })
root_alone n bare = record {
  few = omega arith;
  root = bare.parent;
  alone = λ i m at none. (only n i m at).0;
  preorder = λ i p m at up. absurd (omega (arith, (only n (i + 1) m at).0));
  children = λ i m at. rw bare.parent (ap (λ (b : NodeData). b.children) (sym (only n i m at).1) ∙ bare.children);
  root_name = λ i m at none. let o = only n i m at in ap (λ (b : NodeData). b.name) (sym o.1) ∙ bare.name;
  names = λ i p m at up. absurd (orphan m p (only n i m at).1 up);
  root_path = λ i m at none. let o = only n i m at in ap (λ (b : NodeData). b.path) (sym o.1) ∙ bare.path;
  child_paths = λ i p m q at up over. absurd (orphan m p (only n i m at).1 up);
  parents_in = λ i p m at up. absurd (orphan m p (only n i m at).1 up);
  children_in = λ i m at. All-same (λ c. c < 1) m.children [] (ap (λ (b : NodeData). b.children) (sym (only n i m at).1) ∙ bare.children) (All-nil (λ c. c < 1));
  aliases_in = All-nil (λ (a : List ℕ × ℕ). a.1 < 1);
  chosen_in = All-nil (λ (c : List ℕ × ℕ). c.1 < 1);
  paths_apart = λ i j m q at over same. (only n i m at).0 ∙ sym (only n j q over).0;
  labels_apart = λ i j m q label at over has had. (only n i m at).0 ∙ sym (only n j q over).0;
  phandles_apart = λ i j m q number at over has had. (only n i m at).0 ∙ sym (only n j q over).0;
  kinds = λ i m at. All-same Kinds m.props [] (ap (λ (b : NodeData). b.props) (sym (only n i m at).1) ∙ bare.props) (All-nil Kinds);
}
  where
    Kinds : List ℕ × List Part → Type 0
    Kinds p = All (λ (part : Part). IsKindOf (n ∷ []) part.kind part.bytes) p.1

    orphan : (m : NodeData) (p : ℕ) → n ≡ m → m.parent ≡ Some p → ⊥
    orphan m p same up = let e : n.parent ≡ m.parent = ap (λ (b : NodeData). b.parent) same in let f = bare.parent in cc

-- a node to which nothing is bound and whose ordinal is 0
pub record IsBare (n : BoundNodeData) : Type 0 where
  pub props : n.props ≡ []
  pub irqs : n.irqs ≡ []
  pub needs : n.needs ≡ []
  pub supports : n.supports ≡ []
  pub bus : n.bus ≡ None
  pub ord : n.ord ≡ 0

-- no texts are in order
no_order : {K : Type 0} (c : K → K → Ordering) → IsStrictlySortedBy c []
unfolding IsStrictlySortedBy
no_order c = tt

bare_node : (n : BoundNodeData) → IsBare n → IsBoundNode 1 n
bare_node n bare = record {
  names = subst (λ ps. IsStrictlySortedBy (slice_cmp nat_cmp) (map (λ (p : PropData). p.name) ps)) (sym bare.props) (no_order (slice_cmp nat_cmp));
  needs_order = subst IsStrictlyIncreasing (sym bare.needs) (λ k l. absurd (omega arith));
  supports_order = subst IsStrictlyIncreasing (sym bare.supports) (λ k l. absurd (omega arith));
  props = All-same (IsTyped 1) n.props [] bare.props (All-nil (IsTyped 1));
  irqs = All-same (λ (irq : EntryData). irq.controller < 1) n.irqs [] bare.irqs (All-nil (λ (irq : EntryData). irq.controller < 1));
  needs = All-same (λ id. id < 1) n.needs [] bare.needs (All-nil (λ id. id < 1));
  supports = All-same (λ id. id < 1) n.supports [] bare.supports (All-nil (λ id. id < 1));
  bus = rw bare.bus tt;
}

first_of_order : (n : BoundNodeData) → n.ord ≡ 0 → (id : ℕ) (m : BoundNodeData) → slice_get (n ∷ []) id ≡ Some m
    → slice_get {X = ℕ} (0 ∷ []) m.ord ≡ Some id
first_of_order n e id m at =
    let o = only n id m at in
    let P : BoundNodeData → Type 0 = λ b. slice_get {X = ℕ} (0 ∷ []) b.ord ≡ Some id in
    subst P o.1 (rw (e, o.0) refl)

-- where the only node lists no string, there are no instances
no_insts : (n : NodeData) → n.compats ≡ [] → AreInstances (n ∷ []) []
no_insts n none = record {
  each = All-nil (IsInst (n ∷ []));
  order = no_order (slice_cmp nat_cmp);
  every = λ id m compat at has. absurd (unlisted m compat (ap (λ (b : NodeData). b.compats) (sym (only n id m at).1) ∙ none) has);
}
  where
    unlisted : (m : NodeData) (compat : List ℕ) → m.compats ≡ [] → Contains m.compats compat → ⊥
    unlisted m compat e has = let l = has.1 in absurd (omega (arith, ap length e, has.1))

pub root_bound : (t : TreeData) (n : NodeData) (b : BoundNodeData) → IsWellFormed t → t.nodes ≡ n ∷ [] → n.compats ≡ [] → IsBare b
    → IsBound (record { tree = t; nodes = b ∷ []; order = 0 ∷ []; insts = []; doubles = [] })
root_bound t n b well one none bare = record {
  tree = well;
  as_many = ap length (sym one);
  nodes = All-cons (IsBoundNode 1) b [] (bare_node b bare) (All-nil (IsBoundNode 1));
  insts = subst (λ ns. AreInstances ns []) (sym one) (no_insts n none);
  order = IsPermutation-refl (0 ∷ []);
  ords = first_of_order b bare.ord;
  doubles = λ k l. absurd (omega arith);
}
