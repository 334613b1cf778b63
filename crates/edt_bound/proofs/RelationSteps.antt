-- How the lists of required nodes are made.
use Rattle.std.proofs.Common.{◌≡◌, ◌==◌, ◌∙◌, ◌<◌, ◌++◌, ◌∷◌, [], ℕ, Bool, not, List, Option, Some, None, IfSome, length, map, nat_eq, slice_get, refl, sym, ap, subst, inl, inr, arith}
use Rattle.std.specs.List.{All, Contains, dedup, filter, filter_map, flat_map}
use Rattle.std.specs.List.Sorted.{IsPermutation}
use Rattle.std.specs.Option.{option_map, option_to_list}
use Rattle.std.proofs.lemmas.List.Elements.{All-append, All-cons, All-head, All-map, All-nil, All-tail, Contains-append_cases, Contains-append_left, Contains-append_right, All-filter}
use Rattle.std.proofs.lemmas.List.Kept.{Contains-dedup_nat, Contains-from_dedup}
use Rattle.std.proofs.lemmas.List.Filters.{All-dedup}
use Rattle.std.proofs.lemmas.List.Sorted.{All-permutation, Contains-permutation, IsPermutation-sym}
use Rattle.edt_base.specs.BoundNodeData.{BoundNodeData}
use Rattle.edt_base.specs.EntryData.{EntryData}
use Rattle.edt_base.specs.NodeData.{NodeData}
use Rattle.edt_base.specs.PropData.{IsTyped, PropData}
use Rattle.edt_base.specs.TreeData.{IsWellFormed, TreeData, parent_of}
use Rattle.edt_base.specs.ValData.{HasNodesBelow, ValData, bool_val, compound_val, entries_val, int_val, ints_val, node_val, nodes_val, str_val, strs_val, u8s_val}
use Rattle.edt_base.specs.declared.bound.PropType.{PropType}
use Rattle.edt_base.specs.declared.bound.PropType.TheVariants as type
use Rattle.edt_base.proofs.TreeLaws.{before}
use Rattle.edt_bound.specs.Relating.{AreNeedsOf, references}
use Rattle.edt_bound.specs.Requiring.{AreNeeds, RefersTo, Requires, referred}
use Rattle.edt_bound.proofs.Members.{differ, differs, joined_from, joined_with, kept_from, kept_with, option_from, option_with, value_from, value_with}

abbrev values : List PropData → List ℕ
values props = flat_map (λ (p : PropData). referred p.ty p.val) props

abbrev ends : List EntryData → List ℕ
ends irqs = map (λ (irq : EntryData). irq.controller) irqs

refers_from : (nodes : List NodeData) (n : BoundNodeData) (id other : ℕ) → Contains (references nodes id n.props n.irqs) other → RefersTo nodes n id other
refers_from nodes n id other c =
    elim (Contains-append_cases (option_to_list (parent_of nodes id) ++ values n.props) (ends n.irqs) other c) [
      | inl front ↦ elim (Contains-append_cases (option_to_list (parent_of nodes id)) (values n.props) other front) [
        | inl up ↦ RefersTo.to_parent other (option_from (parent_of nodes id) other up)
        | inr value ↦ let found = joined_from (λ (p : PropData). referred p.ty p.val) n.props other value in
            RefersTo.by_value found.0 other found.1 found.2
      ]
      | inr irq ↦ let found = value_from (λ (i : EntryData). i.controller) n.irqs other irq in
          subst (λ o. RefersTo nodes n id o) found.2 (RefersTo.by_interrupt found.0 found.1)
    ]

refers_with : (nodes : List NodeData) (n : BoundNodeData) (id other : ℕ) → RefersTo nodes n id other → Contains (references nodes id n.props n.irqs) other
refers_with nodes n id _ (RefersTo.to_parent up e) =
    Contains-append_left (option_to_list (parent_of nodes id) ++ values n.props) (ends n.irqs) up
    (Contains-append_left (option_to_list (parent_of nodes id)) (values n.props) up (option_with (parent_of nodes id) up e))
refers_with nodes n id _ (RefersTo.by_value p other has refers) =
    Contains-append_left (option_to_list (parent_of nodes id) ++ values n.props) (ends n.irqs) other
    (Contains-append_right (option_to_list (parent_of nodes id)) (values n.props) other (joined_with (λ (q : PropData). referred q.ty q.val) n.props p other has refers))
refers_with nodes n id _ (RefersTo.by_interrupt irq has) =
    Contains-append_right (option_to_list (parent_of nodes id) ++ values n.props) (ends n.irqs) irq.controller
    (value_with (λ (i : EntryData). i.controller) n.irqs irq has)

-- the test of what is left
abbrev pub other_than : ℕ → ℕ → Bool
other_than id other = not (other == id)

-- the required nodes: what a node refers to, without itself, sorted, each once
pub needs_from : (nodes : List NodeData) (id : ℕ) (props : List PropData) (irqs : List EntryData) (refs kept moved needs : List ℕ)
    → refs ≡ references nodes id props irqs → kept ≡ filter (other_than id) refs → IsPermutation kept moved → needs ≡ dedup nat_eq moved
    → AreNeedsOf nodes props irqs id needs
needs_from nodes id props irqs refs kept moved needs e f perm g n is_props is_irqs other =
    let same : references nodes id props irqs ≡ references nodes id n.props n.irqs =
    ap (λ ps. references nodes id ps irqs) (sym is_props) ∙ ap (λ is. references nodes id n.props is) (sym is_irqs) in
    let all : refs ≡ references nodes id n.props n.irqs = e ∙ same in
    (λ c. to all c, λ r. from all r)
  where
    to : refs ≡ references nodes id n.props n.irqs → Contains needs other → Requires nodes n id other
    to all c =
        let sorted : Contains moved other = Contains-from_dedup nat_eq moved other (subst (λ xs. Contains xs other) g c) in
        let left : Contains kept other = Contains-permutation moved kept other (IsPermutation-sym kept moved perm) sorted in
        let both = kept_from (other_than id) refs other (subst (λ xs. Contains xs other) f left) in
        record {
          refers = refers_from nodes n id other (subst (λ xs. Contains xs other) all both.0);
          other_than = differs other id both.1;
        }

    from : refs ≡ references nodes id n.props n.irqs → Requires nodes n id other → Contains needs other
    from all r =
        let ref : Contains refs other = subst (λ xs. Contains xs other) (sym all) (refers_with nodes n id other r.refers) in
        let left : Contains kept other = subst (λ xs. Contains xs other) (sym f) (kept_with (other_than id) refs other ref (differ other id r.other_than)) in
        subst (λ xs. Contains xs other) (sym g) (Contains-dedup_nat moved other (Contains-permutation kept moved other perm left))

-- ---- they are there

ends_within : (count : ℕ) (entries : List (Option EntryData)) → All (λ entry. IfSome entry (λ e. e.controller < count)) entries
    → All (λ id. id < count) (filter_map (option_map (λ (e : EntryData). e.controller)) entries)
ends_within count [] h = All-nil (λ id. id < count)
ends_within count (None ∷ entries) h = ends_within count entries (All-tail (λ (entry : Option EntryData). IfSome entry (λ e. e.controller < count)) None entries h)
ends_within count (Some e ∷ entries) h =
    All-cons (λ id. id < count) e.controller (filter_map (option_map (λ (e : EntryData). e.controller)) entries)
    (All-head (λ (entry : Option EntryData). IfSome entry (λ e. e.controller < count)) (Some e) entries h)
    (ends_within count entries (All-tail (λ (entry : Option EntryData). IfSome entry (λ e. e.controller < count)) (Some e) entries h))

referred_within : (count : ℕ) (ty : PropType) (v : ValData) → HasNodesBelow count v → All (λ id. id < count) (referred ty v)
referred_within count type.Str v h = All-nil (λ id. id < count)
referred_within count type.Int v h = All-nil (λ id. id < count)
referred_within count type.Boolean v h = All-nil (λ id. id < count)
referred_within count type.Array v h = All-nil (λ id. id < count)
referred_within count type.U8Array v h = All-nil (λ id. id < count)
referred_within count type.StrArray v h = All-nil (λ id. id < count)
referred_within count type.Phandle (bool_val v) h = All-nil (λ id. id < count)
referred_within count type.Phandle (int_val v) h = All-nil (λ id. id < count)
referred_within count type.Phandle (ints_val v) h = All-nil (λ id. id < count)
referred_within count type.Phandle (u8s_val v) h = All-nil (λ id. id < count)
referred_within count type.Phandle (str_val v) h = All-nil (λ id. id < count)
referred_within count type.Phandle (strs_val v) h = All-nil (λ id. id < count)
referred_within count type.Phandle (node_val v) h = All-cons (λ id. id < count) v [] h (All-nil (λ id. id < count))
referred_within count type.Phandle (nodes_val v) h = All-nil (λ id. id < count)
referred_within count type.Phandle (entries_val v) h = All-nil (λ id. id < count)
referred_within count type.Phandle compound_val h = All-nil (λ id. id < count)
referred_within count type.Phandles (bool_val v) h = All-nil (λ id. id < count)
referred_within count type.Phandles (int_val v) h = All-nil (λ id. id < count)
referred_within count type.Phandles (ints_val v) h = All-nil (λ id. id < count)
referred_within count type.Phandles (u8s_val v) h = All-nil (λ id. id < count)
referred_within count type.Phandles (str_val v) h = All-nil (λ id. id < count)
referred_within count type.Phandles (strs_val v) h = All-nil (λ id. id < count)
referred_within count type.Phandles (node_val v) h = All-nil (λ id. id < count)
referred_within count type.Phandles (nodes_val v) h = h
referred_within count type.Phandles (entries_val v) h = All-nil (λ id. id < count)
referred_within count type.Phandles compound_val h = All-nil (λ id. id < count)
referred_within count type.PhandleArray (bool_val v) h = All-nil (λ id. id < count)
referred_within count type.PhandleArray (int_val v) h = All-nil (λ id. id < count)
referred_within count type.PhandleArray (ints_val v) h = All-nil (λ id. id < count)
referred_within count type.PhandleArray (u8s_val v) h = All-nil (λ id. id < count)
referred_within count type.PhandleArray (str_val v) h = All-nil (λ id. id < count)
referred_within count type.PhandleArray (strs_val v) h = All-nil (λ id. id < count)
referred_within count type.PhandleArray (node_val v) h = All-nil (λ id. id < count)
referred_within count type.PhandleArray (nodes_val v) h = All-nil (λ id. id < count)
referred_within count type.PhandleArray (entries_val v) h = ends_within count v h
referred_within count type.PhandleArray compound_val h = All-nil (λ id. id < count)
referred_within count type.Path v h = All-nil (λ id. id < count)
referred_within count type.Compound v h = All-nil (λ id. id < count)

values_within : (count : ℕ) (props : List PropData) → All (IsTyped count) props → All (λ id. id < count) (values props)
values_within count [] h = All-nil (λ id. id < count)
values_within count (p ∷ props) h =
    All-append (λ id. id < count) (referred p.ty p.val) (values props)
    (referred_within count p.ty p.val (All-head (IsTyped count) p props h).nodes) (values_within count props (All-tail (IsTyped count) p props h))

up_within : (count : ℕ) (o : Option ℕ) → IfSome o (λ up. up < count) → All (λ id. id < count) (option_to_list o)
up_within count None h = All-nil (λ id. id < count)
up_within count (Some up) h = All-cons (λ id. id < count) up [] h (All-nil (λ id. id < count))

parent_within : (t : TreeData) (id : ℕ) → IsWellFormed t → id < length t.nodes → (o : Option ℕ) → parent_of t.nodes id ≡ o → IfSome o (λ up. up < length t.nodes)
parent_within t id well l None e = tt
parent_within t id well l (Some up) e = let near : up < id = before t id up well e in omega arith

pub needs_within : (t : TreeData) (id : ℕ) (props : List PropData) (irqs : List EntryData) (refs kept moved needs : List ℕ) → IsWellFormed t → id < length t.nodes
    → All (IsTyped (length t.nodes)) props → All (λ (irq : EntryData). irq.controller < length t.nodes) irqs
    → refs ≡ references t.nodes id props irqs → kept ≡ filter (other_than id) refs → IsPermutation kept moved → needs ≡ dedup nat_eq moved
    → All (λ other. other < length t.nodes) needs
needs_within t id props irqs refs kept moved needs well l typed ctrls e f perm g =
    let P : ℕ → Type 0 = λ other. other < length t.nodes in
    let all : All P (references t.nodes id props irqs) =
    All-append P (option_to_list (parent_of t.nodes id) ++ values props) (ends irqs)
    (All-append P (option_to_list (parent_of t.nodes id)) (values props)
    (up_within (length t.nodes) (parent_of t.nodes id) (parent_within t id well l (parent_of t.nodes id) refl)) (values_within (length t.nodes) props typed))
    (All-map P (λ (irq : EntryData). irq.controller) irqs ctrls) in
    let refs_all : All P refs = subst (All P) (sym e) all in
    let kept_all : All P kept = subst (All P) (sym f) (All-filter (other_than id) P refs refs_all) in
    subst (All P) (sym g) (All-dedup nat_eq P moved (All-permutation P kept moved perm kept_all))

-- ---- the bound nodes that have these lists

pub needs_follow : (nodes : List NodeData) (bound : List BoundNodeData)
    → ((id : ℕ) (n : BoundNodeData) → slice_get bound id ≡ Some n → AreNeedsOf nodes n.props n.irqs id n.needs) → AreNeeds nodes bound
needs_follow nodes bound h id n at = h id n at n refl refl
