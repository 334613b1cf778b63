-- The tree of drafts is well formed.
use Rattle.std.proofs.Common.{◌≡◌, ◌∙◌, ◌+◌, ◌<◌, ◌≤◌, ◌^◌, ◌++◌, ◌⊎◌, ◌∷◌, [], ℕ, zero, suc, true, false, List, Option, Some, None, length, map, get_or, take, refl, sym, ap, subst, inl, inr, arith, All}
use Rattle.std.specs.Prelude.{slice_get, codes, find, IsSomeAnd}
use Rattle.std.specs.Option.{option_and_then}
use Rattle.std.specs.List.{list_any, filter_map}
use Rattle.std.specs.Str.{bytes_eq}
use Rattle.std.proofs.lemmas.Option.{none-some, same_Some, slice_get_within, slice_get_cases}
use Rattle.std.proofs.lemmas.List.{length-map}
use Rattle.edt_base.specs.NodeData.{NodeData, prop_of, one_cell, phandle_of, has_label}
use Rattle.edt_base.specs.SourceNames.{is_node_name}
use Rattle.edt_base.specs.TreeData.{TreeData, IsWellFormed, IsAtOrAbove, IsKindOf, child_path}
use Rattle.edt_base.specs.declared.node.Part.{Part}
use Rattle.dts_tree.specs.Drafts.{DraftPartData, DraftData}
use Rattle.dts_tree.specs.Final.{written, phandles, phandle_name, props_of, props_with, all_props, props_at, below_from, node_of, nodes_of, naming_prop, tree_of}
use Rattle.dts_tree.specs.Rules.{dangles, first_bad_phandle}
use Rattle.dts_tree.specs.Inner.DraftRules.{AreDrafts, path_below}
use Rattle.dts_tree.proofs.Numbering.{number_of, IsNumbering, numbering, good_at}
use Rattle.dts_tree.proofs.Phandling.{phandle_is_number, good_written}
use Rattle.dts_tree.proofs.NodeLaws.{AreKinds, props_there, node_there, node_made, nodes_long, above, kids, kids_within, path_of_child, pairs_within, props_kind, none_found}

module _ (ds : List DraftData) (a : AreDrafts ds) (whole : find dangles ds ≡ None) (good : first_bad_phandle [] ds ≡ None) where
  abbrev nodes : List NodeData
  nodes = nodes_of ds (all_props ds)

  abbrev IsNode : ℕ → NodeData → Type 0
  IsNode i n = slice_get nodes i ≡ Some n

  made : (i : ℕ) (n : NodeData) → IsNode i n → (d : DraftData) × (slice_get ds i ≡ Some d) × (n ≡ node_of d (get_or (all_props ds) i []) (below_from 0 ds i))
  made i n h = node_made ds (all_props ds) i n h

  long : length nodes ≡ length ds
  long = nodes_long ds (all_props ds)

  within : (i : ℕ) → i < length ds → i < length nodes
  within i l = subst (λ m. i < m) (sym long) l

  first : IsSomeAnd (slice_get nodes 0) (λ n. n.parent ≡ None)
  first = elim (slice_get_cases ds 0).1 [
    | inl h ↦ subst (λ o. IsSomeAnd o (λ (n : NodeData). n.parent ≡ None)) (sym (node_there ds (all_props ds) 0 h.0 h.2)) (a.root h.0 h.2)
    | inr h ↦ absurd (omega (arith, a.some))
  ]

  next : (i p : ℕ) (n : NodeData) → IsNode (i + 1) n → n.parent ≡ Some p → IsAtOrAbove nodes p i
  next i p n h e = let m = made (i + 1) n h in above ds (all_props ds) p i (a.preorder i p m.0 m.1 (sym (ap (λ (x : NodeData). x.parent) m.2) ∙ e))

  up_in : (i p : ℕ) (n : NodeData) → IsNode i n → n.parent ≡ Some p → p < length nodes
  up_in i p n h e =
      let m = made i n h in
      let l : p < i = a.parents i p m.0 m.1 (sym (ap (λ (x : NodeData). x.parent) m.2) ∙ e) in
      let k : i < length ds = slice_get_within ds i m.0 m.1 in
      within p (omega arith)

  kids_in : (i : ℕ) (n : NodeData) → IsNode i n → All (λ c. c < length nodes) n.children
  kids_in i n h =
      let m = made i n h in
      let k : All (λ c. c < length nodes) (below_from 0 ds i) = subst (λ l. All (λ c. c < l) (below_from 0 ds i)) (sym long) (kids_within ds i) in
      subst (λ cs. All (λ c. c < length nodes) cs) (sym (ap (λ (x : NodeData). x.children) m.2)) k

  named_in : (props : List (List ℕ × List Part)) → All (λ (p : List ℕ × ℕ). p.1 < length nodes) (filter_map (naming_prop ds) props)
  named_in props = subst (λ l. All (λ (p : List ℕ × ℕ). p.1 < l) (filter_map (naming_prop ds) props)) (sym long) (pairs_within ds props)

  child : (i p : ℕ) (n m : NodeData) → IsNode i n → n.parent ≡ Some p → IsNode p m → n.path ≡ child_path m n.name
  child i p n m h e k =
      let x = made i n h in
      let y = made p m k in
      let path : x.0.path ≡ path_below y.0.parent y.0.path x.0.name =
      a.paths i p x.0 y.0 x.1 (sym (ap (λ (z : NodeData). z.parent) x.2) ∙ e) y.1 in
      let made_path : x.0.path ≡ child_path (node_of y.0 (get_or (all_props ds) p []) (below_from 0 ds p)) x.0.name =
      path ∙ path_of_child y.0 (get_or (all_props ds) p []) (below_from 0 ds p) x.0.name in
      ap (λ (z : NodeData). z.path) x.2 ∙ (made_path ∙ (ap (λ z. child_path z x.0.name) (sym y.2) ∙ ap (child_path m) (sym (ap (λ (z : NodeData). z.name) x.2))))

  label_of : (i : ℕ) (n : NodeData) (h : IsNode i n) (label : List ℕ) → has_label label n ≡ true → list_any (λ l. bytes_eq l label) (made i n h).0.labels ≡ true
  label_of i n h label e = ap (λ ls. list_any (λ l. bytes_eq l label) ls) (sym (ap (λ (x : NodeData). x.labels) (made i n h).2)) ∙ e

  numbers : IsNumbering (map written ds) (phandles ds)
  numbers = numbering ds a.few good

  written_at : (i : ℕ) (d : DraftData) → slice_get ds i ≡ Some d → number_of (map written ds) i ≡ written d
  written_at i d h = at ds i h
    where
      at : (xs : List DraftData) (i : ℕ) → slice_get xs i ≡ Some d → number_of (map written xs) i ≡ written d
      at [] i h = absurd (none-some d h)
      at (x ∷ xs) zero h = ap written (same_Some x d h)
      at (x ∷ xs) (suc i) h = at xs i h

  props_here : (i : ℕ) (d : DraftData) → slice_get ds i ≡ Some d → get_or (all_props ds) i [] ≡ props_of ds (phandles ds) d (number_of (phandles ds) i)
  unfolding all_props
  props_here i d h = props_there ds (phandles ds) i d h

  phandle_here : (i : ℕ) (n : NodeData) (number : ℕ) → IsNode i n → phandle_of n ≡ Some number → number_of (phandles ds) i ≡ Some number
  phandle_here i n number h e =
      let m = made i n h in
      let props : n.props ≡ props_of ds (phandles ds) m.0 (number_of (phandles ds) i) = ap (λ (x : NodeData). x.props) m.2 ∙ props_here i m.0 m.1 in
      let p : option_and_then one_cell (prop_of phandle_name (props_of ds (phandles ds) m.0 (number_of (phandles ds) i))) ≡ Some number =
      ap (λ ps. option_and_then one_cell (prop_of phandle_name ps)) (sym props) ∙ e in
      phandle_is_number ds (phandles ds) m.0 (number_of (phandles ds) i) number
      (λ k t. numbers.small i k t)
      (λ k t. numbers.kept i k (written_at i m.0 m.1 ∙ t))
      (good_written (take i ds) m.0 (good_at [] ds good i m.0 m.1))
      p

  kinds_here : (i : ℕ) (n : NodeData) → IsNode i n → All (λ (p : List ℕ × List Part). AreKinds nodes p.1) n.props
  kinds_here i n h =
      let m = made i n h in
      let props : n.props ≡ props_of ds (phandles ds) m.0 (number_of (phandles ds) i) = ap (λ (x : NodeData). x.props) m.2 ∙ props_here i m.0 m.1 in
      subst (λ ps. All (λ (p : List ℕ × List Part). AreKinds nodes p.1) ps) (sym props)
      (props_kind ds (phandles ds) (all_props ds) m.0 (number_of (phandles ds) i) (a.parts i m.0 m.1) (none_found dangles ds whole i m.0 m.1))

  pub formed : IsWellFormed (tree_of ds)
  unfolding tree_of
  formed = record {
    few = let f : length ds ≤ 65535 = a.few in let l : length nodes ≡ length ds = long in omega arith;
    root = first;
    alone = λ i n h e. let m = made i n h in a.alone i m.0 m.1 (sym (ap (λ (x : NodeData). x.parent) m.2) ∙ e);
    preorder = next;
    children = λ i n h. let m = made i n h in ap (λ (x : NodeData). x.children) m.2 ∙ kids ds (all_props ds) i;
    root_name = λ i n h e. let m = made i n h in ap (λ (x : NodeData). x.name) m.2 ∙ a.root_name i m.0 m.1 (sym (ap (λ (x : NodeData). x.parent) m.2) ∙ e);
    names = λ i p n h e. let m = made i n h in ap (λ (x : NodeData). is_node_name x.name) m.2 ∙ a.names i p m.0 m.1 (sym (ap (λ (x : NodeData). x.parent) m.2) ∙ e);
    root_path = λ i n h e. let m = made i n h in ap (λ (x : NodeData). x.path) m.2 ∙ a.root_path i m.0 m.1 (sym (ap (λ (x : NodeData). x.parent) m.2) ∙ e);
    child_paths = child;
    parents_in = up_in;
    children_in = kids_in;
    aliases_in = named_in (props_at ds (all_props ds) (codes "/aliases"));
    chosen_in = named_in (props_at ds (all_props ds) (codes "/chosen"));
    paths_apart = λ i j n m h k e.
        let x = made i n h in
        let y = made j m k in
        a.paths_apart i j x.0 y.0 x.1 y.1 (sym (ap (λ (z : NodeData). z.path) x.2) ∙ (e ∙ ap (λ (z : NodeData). z.path) y.2));
    labels_apart = λ i j n m label h k e f. let x = made i n h in let y = made j m k in a.labels_apart i j x.0 y.0 label x.1 y.1 (label_of i n h label e) (label_of j m k label f);
    phandles_apart = λ i j n m number h k e f. numbers.apart i j number (phandle_here i n number h e) (phandle_here j m number k f);
    kinds = kinds_here;
  }
